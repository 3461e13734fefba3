-- `plan_acceptance::Survey::of` meets its contract. The invariant: the lists have the jobs of the first slots that the plan has.
-- Assumes nothing.
use Prim.Native.Nat.{◌≤◌}
use lib.ListN.{take}
use Rattle.plan_acceptance.specs.Plan.{PlanColumns, planned_of}
use Rattle.plan_acceptance.proofs.Survey.of.Given as goal

abbrev pub invariant-loop-j : goal.invariant-loop-j
invariant-loop-j l =
    (l.count ≤ l.j-index) × PlanColumns l.fn.d.settings (planned_of l.fn.d (take l.j-index l.fn.d.jobs)) l.held l.froms l.untils l.count
