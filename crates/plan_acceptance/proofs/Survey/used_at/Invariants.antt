-- `plan_acceptance::Survey::used_at` meets its contract. The invariant: the sum and what the jobs that are left take is the whole.
-- Assumes nothing.
use Prim.Native.Nat.{◌+◌}
use mathlib.Core.Path.{◌≡◌}
use lib.ListN.{drop}
use Rattle.lists.specs.Lists as lists
use Rattle.spans.specs.Spans.{used}
use Rattle.conservative_rules.specs.Conservative.{spans}
use Rattle.conservative_laws.specs.Validity.{taken}
use Rattle.plan_acceptance.specs.Plan.{Planned}
use Rattle.plan_acceptance.proofs.Survey.used_at.Given as goal

abbrev pub invariant-loop-i : goal.invariant-loop-i
invariant-loop-i l =
    (p : Planned l.self.held l.self.froms l.self.untils l.self.count)
    → l.sum + lists.sum (taken p.settings l.minute) (drop l.i p.jobs) ≡ used l.minute (spans p.settings p.jobs)
