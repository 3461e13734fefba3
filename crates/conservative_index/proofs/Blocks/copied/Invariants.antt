-- `Blocks::copied` meets its contract: the blocks passed are copied.
-- Assumes nothing.
use Prim.Native.Nat.{◌-◌, ◌≤◌}
use mathlib.Core.Path.{◌≡◌}
use Rattle.lists.specs.Pads.{pad}
use Rattle.conservative_index.specs.BuiltIndex.{held}
use Rattle.conservative_index.specs.StoredIndex.{block_places, no_block}
use Rattle.conservative_index.proofs.Blocks.copied.Given as goal

abbrev pub invariant-loop-i : goal.invariant-loop-i
invariant-loop-i l = (l.i ≤ l.count) × (l.count ≤ 9) × (l.list ≡ pad block_places no_block (held l.low l.high l.i))

abbrev pub decreases-loop-i : goal.decreases-loop-i
decreases-loop-i l = l.count - l.i
