-- The longest estimate that would start by a wanted minute, on a host's desk (document 02, No. 9).
-- Assumes nothing.
use Rattle.std.specs.Prelude.{◌≡◌}
use Rattle.std.proofs.Common.{ap, ◌∙◌}
use Rattle.scheduler.specs.declared.Inquiry as scheduler-inquiry
use Rattle.scheduler.specs.declared.Longest as scheduler
use Rattle.scheduler.specs.declared.Scheduler.{Scheduler}
use Rattle.scheduler.specs.Tenants.{tenant_of}
use Rattle.scheduler.specs.Model.{view}
use Rattle.scheduler.specs.Answers.{code}
use Rattle.calls.specs.LongestCall.{longest_of}
use Rattle.hingerota.specs.declared.Desk.{Desk}
use Rattle.hingerota.specs.declared.Inquiry.{Inquiry}
use Rattle.hingerota.specs.declared.Longest.{Longest}
use Rattle.hingerota.specs.Mirror.{read}

-- what a host asks
abbrev pub asked_by : Inquiry → scheduler-inquiry.Inquiry
asked_by q = record { nodes = q.nodes; tenant = tenant_of q.tenant; minute = q.minute }

abbrev pub mirror_longest : scheduler.Longest → Longest
mirror_longest l = record { refusal = code l.refusal; estimate = l.estimate }

abbrev pub longest_on : Desk → Inquiry → Longest
longest_on d q = mirror_longest (longest_of (view (read d)) (asked_by q))

-- by value: from what was read of the desk
pub longest_given : (d : Desk) (q : Inquiry) (s : Scheduler) (l : scheduler.Longest) → s ≡ read d → l ≡ longest_of (view s) (asked_by q)
    → mirror_longest l ≡ longest_on d q
longest_given d q s l e r = ap mirror_longest (r ∙ ap (λ (x : Scheduler). longest_of (view x) (asked_by q)) e)
