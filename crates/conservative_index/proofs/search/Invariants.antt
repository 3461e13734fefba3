-- `conservative_index::search` meets its contract: before each block the search stands where it should, and has counted what it should.
-- Assumes nothing.
use Prim.Native.Nat.{◌*◌}
use Rattle.conservative_index.specs.Search.{Going}
use Rattle.conservative_index.proofs.search.Given as goal

abbrev pub invariant-loop-b : goal.invariant-loop-b
invariant-loop-b l = Going l.minutes l.free l.count l.low l.high l.nodes l.hold l.anchor l.reads l.b (16 * l.b)
