-- `calls::earliest_start` meets its contract.
-- Assumes nothing.
use Rattle.jobs.specs.Premise.{holds_as}
use Rattle.guarantees.specs.Premise.{valid_sound}
use Rattle.calls.proofs.earliest_start.Goals as goal

pub start-requires : goal.start-requires
start-requires c = holds_as _ _ c.args.d valid_sound c.requires
