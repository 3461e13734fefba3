-- `conservative_index::take_in` meets its contract: the span is laid, and the index follows.
-- Assumes nothing.
use Rattle.conservative_index.specs.Intake.{builds}
use Rattle.conservative_index.proofs.take_in.Goals as goal

pub build-requires : goal.build-requires
build-requires c =
    let p = c.requires in
    builds p.0 p.1 c.lay-row.ensures
