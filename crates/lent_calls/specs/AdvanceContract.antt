-- What minutes that pass at once on a lent scheduler answer, and leave there.
-- Assumes nothing.
use Rattle.std.specs.Prelude.{◌≡◌, refl, false, ℕ}
use Rattle.std.proofs.Common.{sym, subst}
use Rattle.scheduler.specs.declared.Scheduler.{Scheduler}
use Rattle.scheduler.specs.Answers.{accepts}
use Rattle.guarantees.specs.Premise.{Premise}
use Rattle.advancing.specs.declared.Advanced.{Advanced}
use Rattle.advancing.specs.declared.AdvanceOutcome.{AdvanceOutcome}
use Rattle.advancing.specs.Advances.{advances, advances_premise, refused_advances}

-- the answer a, and the scheduler e that stands where d was lent, are those by value; and e is as d was where the call is refused
pub record LeavesAdvanced (d : Scheduler) (minutes : ℕ) (a : Advanced) (e : Scheduler) : Type 0 where
  pub answers : a ≡ (advances d minutes).answer
  pub leaves : e ≡ (advances d minutes).scheduler
  pub premise : Premise e
  pub refused : accepts a.answer.refusal ≡ false → e ≡ d

pub advanced_given : (d : Scheduler) (minutes : ℕ) (o : AdvanceOutcome) → Premise d → o ≡ advances d minutes
    → LeavesAdvanced d minutes o.answer o.scheduler
advanced_given d n o h e = subst (λ (x : AdvanceOutcome). LeavesAdvanced d n x.answer x.scheduler) (sym e) (record {
  answers = refl;
  leaves = refl;
  premise = advances_premise d n h;
  refused = refused_advances d n h;
})
