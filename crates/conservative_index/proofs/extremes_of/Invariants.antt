-- `conservative_index::extremes_of` meets its contract: they are those of the places passed.
-- Assumes nothing.
use Prim.Native.Nat.{◌+◌, min, max}
use Rattle.conservative_index.specs.BuiltIndex.{Running}
use Rattle.conservative_index.proofs.extremes_of.Given as goal

abbrev pub invariant-loop-left : goal.invariant-loop-left
invariant-loop-left l =
    Running min l.free l.from l.to l.low (l.from + 1 + l.left-index) × Running max l.free l.from l.to l.high (l.from + 1 + l.left-index)
