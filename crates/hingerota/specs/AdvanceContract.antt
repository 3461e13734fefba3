-- What minutes that pass at once on a host's desk answer, and leave there.
-- Assumes nothing.
use Rattle.std.specs.Prelude.{◌≡◌, false, ℕ, eqb}
use Rattle.std.proofs.Common.{ap, ◌∙◌}
use Rattle.scheduler.specs.declared.Scheduler.{Scheduler}
use Rattle.advancing.specs.declared.AdvanceOutcome as advance-outcome
use Rattle.advancing.specs.Advances.{advances}
use Rattle.hingerota.specs.declared.Desk.{Desk}
use Rattle.hingerota.specs.declared.Advanced.{Advanced}
use Rattle.hingerota.specs.declared.AdvanceOutcome.{AdvanceOutcome}
use Rattle.hingerota.specs.Mirror.{mirror, read, mirror_answer}
use Rattle.hingerota.specs.DeskPremise.{Handed}

abbrev pub mirror_advance : advance-outcome.AdvanceOutcome → AdvanceOutcome
mirror_advance o = record { answer = record { answer = mirror_answer o.answer.answer; minutes = o.answer.minutes }; desk = mirror o.scheduler }

abbrev pub advances_on : Desk → (minutes : ℕ) → AdvanceOutcome
advances_on d n = mirror_advance (advances (read d) n)

-- the answer a, and the desk e where d was lent, are those by value; and e is as d was where the call is refused
pub record HostLeavesAdvanced (d : Desk) (minutes : ℕ) (a : Advanced) (e : Desk) : Type 0 where
  pub answers : a ≡ (advances_on d minutes).answer
  pub leaves : e ≡ (advances_on d minutes).desk
  pub handed : Handed e
  pub refused : eqb a.answer.refusal 0 ≡ false → e ≡ d

-- as the call has it, from what it read of the desk
pub advance_given : (d : Desk) (n : ℕ) (s : Scheduler) (o : advance-outcome.AdvanceOutcome) → s ≡ read d → o ≡ advances s n → mirror_advance o ≡ advances_on d n
advance_given d n s o e f = ap mirror_advance (f ∙ ap (λ (x : Scheduler). advances x n) e)
