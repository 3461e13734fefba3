-- `conservative_plan::tabulate` meets its contract: a scheduler's slots are slots that fit the machine.
-- Assumes nothing.
use Rattle.scheduler.specs.Model.{view}
use Rattle.conservative_plan.specs.PlannedSlots.{held_slots_lem}
use Rattle.conservative_plan.proofs.tabulate.Goals as goal

pub tabulate_slots-requires : goal.tabulate_slots-requires
unfolding view
tabulate_slots-requires c = (held_slots_lem c.args.d c.requires.0, c.requires.1, c.requires.2)

pub returns : goal.returns
unfolding view
returns c = c.tabulate_slots.ensures
