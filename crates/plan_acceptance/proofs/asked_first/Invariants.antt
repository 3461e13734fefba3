-- `plan_acceptance::asked_first` meets its contract. The invariant: the first among the slots that are left is the first among all.
-- Assumes nothing.
use mathlib.Core.Path.{◌≡◌}
use lib.ListN.{drop}
use Rattle.lists.specs.Lists.{first}
use Rattle.scheduler.specs.Jobs.{is_waiting}
use Rattle.plan_acceptance.proofs.asked_first.Given as goal

abbrev pub invariant-loop-j : goal.invariant-loop-j
invariant-loop-j l = (first is_waiting (drop l.j-index l.fn.d.jobs) ≡ first is_waiting l.fn.d.jobs)
