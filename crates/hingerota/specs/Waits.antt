-- Why a wait on a host's desk is refused. Document 01: "`wait` minutes (as many single steps)"; "`wait` 2, 6".
-- Assumes nothing.
use Rattle.std.specs.Prelude.{◌≡◌, ℕ}
use Rattle.std.proofs.Common.{ap, ◌∙◌}
use Rattle.scheduler.specs.declared.Refusal.{Refusal}
use Rattle.scheduler.specs.declared.Scheduler.{Scheduler}
use Rattle.scheduler.specs.Model.{view}
use Rattle.scheduler.specs.Answers.{code}
use Rattle.scheduler.specs.Refusals.{wait_refusal}
use Rattle.hingerota.specs.declared.Desk.{Desk}
use Rattle.hingerota.specs.Mirror.{read}

-- the refusal of a wait of `minutes`
abbrev pub wait_refusal_on : Desk → ℕ → Refusal
wait_refusal_on d minutes = wait_refusal (view (read d)) minutes

-- its number, 0 where there is none
abbrev pub wait_number : Desk → ℕ → ℕ
wait_number d minutes = code (wait_refusal_on d minutes)

-- by value: from what was read of the desk
pub wait_given : (d : Desk) (minutes : ℕ) (s : Scheduler) (r : Refusal) (n : ℕ)
    → s ≡ read d → r ≡ wait_refusal (view s) minutes → n ≡ code r → n ≡ wait_number d minutes
wait_given d minutes s r n e f g = g ∙ ap code (f ∙ ap (λ (x : Scheduler). wait_refusal (view x) minutes) e)
