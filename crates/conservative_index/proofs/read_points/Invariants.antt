-- `conservative_index::read_points` meets its contract: of each point passed it is noted whether there are nodes enough.
-- Assumes nothing.
use Prim.Native.Nat.{ℕ, ◌<◌}
use mathlib.Core.Path.{◌≡◌}
use lib.ListN.{length}
use Rattle.conservative_index.specs.BuiltIndex.{at}
use Rattle.conservative_index.specs.Anchors.{has, note}
use Rattle.conservative_index.proofs.read_points.Given as goal

-- as many are counted as are read
abbrev pub invariant-loop-left : goal.invariant-loop-left
invariant-loop-left l =
    (l.reads ≡ l.left-index) × (length l.enough ≡ 16) × ((j : ℕ) → j < l.reads → note l.enough j ≡ has l.nodes (at l.free) l.from j)
