-- `conservative_index::build` meets its contract: the blocks passed are right.
-- Assumes nothing.
use Rattle.conservative_index.specs.BuiltIndex.{Built}
use Rattle.conservative_index.proofs.build.Given as goal

abbrev pub invariant-loop-b : goal.invariant-loop-b
invariant-loop-b l = Built l.free l.count l.low l.high l.b
