-- `earliest::asked_by` meets its contract. The invariant: the first among the slots that are left is the first among all.
-- Assumes nothing.
use mathlib.Core.Path.{◌≡◌}
use lib.ListN.{drop}
use Rattle.lists.specs.Lists.{first}
use Rattle.scheduler.specs.declared.Departure.TheVariants.{Cancel}
use Rattle.scheduler.specs.Jobs.{departs_as}
use Rattle.earliest.proofs.asked_by.Given as goal

abbrev pub invariant-loop-j : goal.invariant-loop-j
invariant-loop-j l = (first (departs_as Cancel l.ticket) (drop l.j-index l.fn.d.jobs) ≡ first (departs_as Cancel l.ticket) l.fn.d.jobs)
