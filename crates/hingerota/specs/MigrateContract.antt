-- What the change from EASY to conservative backfilling leaves of a host's desk (document 02, No. 12).
-- Assumes nothing.
use Rattle.std.specs.Prelude.{◌≡◌}
use Rattle.std.proofs.Common.{ap, ◌∙◌}
use Rattle.scheduler.specs.declared.Scheduler.{Scheduler}
use Rattle.calls.specs.MigrateCall.{migrating}
use Rattle.hingerota.specs.declared.Desk.{Desk}
use Rattle.hingerota.specs.Mirror.{mirror, read}
use Rattle.hingerota.specs.DeskPremise.{Handed}

abbrev pub migrated_desk : Desk → Desk
migrated_desk d = mirror (migrating (read d))

-- the desk e that stands where d was lent
pub record HostMigrates (d e : Desk) : Type 0 where
  pub leaves : e ≡ migrated_desk d
  pub handed : Handed e

-- as the call has it, from what it read of the desk
pub migrate_given : (d : Desk) (s t : Scheduler) (e : Desk) → s ≡ read d → t ≡ migrating s → e ≡ mirror t → e ≡ migrated_desk d
migrate_given d s t e p q r = r ∙ ap mirror (q ∙ ap migrating p)
