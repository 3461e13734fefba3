-- What a reading of lines answers, and what it leaves where a scheduler was lent to it. The lent place may have held anything before.
-- Assumes nothing.
use Rattle.std.specs.Prelude.{◌≡◌, List, ℕ}
use Rattle.std.proofs.Common.{ap}
use Rattle.scheduler.specs.declared.Opened.{Opened}
use Rattle.scheduler.specs.declared.Refusal.{Refusal}
use Rattle.scheduler.specs.declared.Scheduler.{Scheduler}
use Rattle.guarantees.specs.Premise.{Premise}
use Rattle.restoring.specs.Restoring.{restoring}
use Rattle.calls.specs.RestoreCall.{restored_held}

-- the refusal r, and the scheduler e that stands there: those of the reading by value, refused or not
pub record Restores (t : List ℕ) (r : Refusal) (e : Scheduler) : Type 0 where
  pub answers : r ≡ (restoring t).refusal
  pub leaves : e ≡ (restoring t).scheduler
  pub premise : Premise e

-- what the reading by value gives is left there
pub restores_given : (t : List ℕ) (o : Opened) → o ≡ restoring t → Restores t o.refusal o.scheduler
restores_given t o e = record {
  answers = ap (λ (x : Opened). x.refusal) e;
  leaves = ap (λ (x : Opened). x.scheduler) e;
  premise = restored_held t o e;
}
