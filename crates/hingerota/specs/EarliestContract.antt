-- The earliest start of a waiting job on a host's desk (document 02, No. 7: "soonest minute").
-- Assumes nothing.
use Rattle.std.specs.Prelude.{◌≡◌, ℕ}
use Rattle.std.proofs.Common.{ap, ◌∙◌}
use Rattle.scheduler.specs.declared.Earliest as scheduler
use Rattle.scheduler.specs.declared.Scheduler.{Scheduler}
use Rattle.scheduler.specs.Model.{view}
use Rattle.scheduler.specs.Answers.{code}
use Rattle.easy_rules.specs.EarliestStart.{earliest_start}
use Rattle.hingerota.specs.declared.Desk.{Desk}
use Rattle.hingerota.specs.declared.Earliest.{Earliest}
use Rattle.hingerota.specs.Mirror.{read}

abbrev pub mirror_earliest : scheduler.Earliest → Earliest
mirror_earliest e = record { refusal = code e.refusal; minute = e.minute }

abbrev pub earliest_on : Desk → ℕ → Earliest
earliest_on d ticket = mirror_earliest (earliest_start (view (read d)) ticket)

-- by value: from what was read of the desk
pub earliest_given : (d : Desk) (ticket : ℕ) (s : Scheduler) (e : scheduler.Earliest) → s ≡ read d → e ≡ earliest_start (view s) ticket
    → mirror_earliest e ≡ earliest_on d ticket
earliest_given d ticket s e q r = ap mirror_earliest (r ∙ ap (λ (x : Scheduler). earliest_start (view x) ticket) q)
