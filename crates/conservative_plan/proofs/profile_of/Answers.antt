-- `conservative_plan::profile_of` meets its contract: the points are copied out.
-- Assumes nothing.
use Rattle.conservative_plan.specs.PlannedSlots.{copies, copied_points}
use Rattle.conservative_plan.proofs.profile_of.Goals as goal

pub copied-requires : goal.copied-requires
copied-requires c = copies c.args.d c.requires
    c.tabulate-count.ensures

pub returns : goal.returns
returns c = copied_points c.args.d c.requires
    c.tabulate-count.ensures c.copied.ensures
