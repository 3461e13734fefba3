-- `conservative_plan::tabulate_slots` meets its contract: the slots passed are laid over the idle machine.
-- Assumes nothing.
use Rattle.conservative_plan.specs.PlannedSlots.{Front}
use Rattle.conservative_plan.proofs.tabulate_slots.Given as goal

abbrev pub invariant-loop-job : goal.invariant-loop-job
invariant-loop-job l = Front l.settings l.clock l.jobs l.job-index l.count l.minutes l.free
