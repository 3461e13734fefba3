-- What the change from EASY to conservative backfilling leaves where a scheduler was lent (document 02, No. 12).
-- Assumes nothing.
use Rattle.std.specs.Prelude.{◌≡◌}
use Rattle.std.proofs.Common.{sym, subst}
use Rattle.scheduler.specs.declared.Scheduler.{Scheduler}
use Rattle.guarantees.specs.Premise.{Premise}
use Rattle.calls.specs.MigrateCall.{migrating, migrating_premise}

-- the scheduler e that stands where d was lent: that of the change by value
pub record Migrates (d e : Scheduler) : Type 0 where
  pub leaves : e ≡ migrating d
  pub premise : Premise e

pub migrates_given : (d e : Scheduler) → Premise d → e ≡ migrating d → Migrates d e
migrates_given d e h q = record { leaves = q; premise = subst Premise (sym q) (migrating_premise d h) }
