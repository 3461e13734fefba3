-- `conservative_plan::replan_all` meets its contract: the lists are the profile of the scheduler.
-- Assumes nothing.
use mathlib.Core.Path.{refl}
use Rattle.jobs.specs.Premise.{holds_as}
use Rattle.conservative_plan.specs.PlannedSlots.{Planned}
use Rattle.conservative_plan.specs.Pass.{Replannable}
use Rattle.conservative_plan.proofs.replan_all.Goals as goal

pub tabulate-count-requires : goal.tabulate-count-requires
tabulate-count-requires c =
    (holds_as Replannable Planned c.args.d (λ m r. r.planned) c.requires, refl, refl)

pub replan_kept-passed-requires : goal.replan_kept-passed-requires
replan_kept-passed-requires c = (c.requires, c.tabulate-count.ensures)

pub returns : goal.returns
returns c = c.replan_kept-passed.ensures.0
