-- `conservative_index::advance` meets its contract: the points before the minute have left, and the index follows.
-- Assumes nothing.
use native.Mathlib.Omega.{arith}
use Rattle.conservative_table.specs.ProfileLists.{exact_few}
use Rattle.conservative_index.specs.BuiltIndex.{built_none}
use Rattle.conservative_index.proofs.advance.Goals as goal

pub build-requires : goal.build-requires
build-requires c =
    let p = c.advance-n.ensures.0 c.requires.0 in
    (built_none c.requires.1.low_long c.requires.1.high_long, p.free_long, omega (arith, exact_few p, c.requires.0.few), omega arith)
