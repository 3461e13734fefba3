-- `conservative_table::skip` meets its contract: too few nodes are free in the places passed.
-- Assumes nothing.
use Prim.Native.Nat.{◌-◌}
use Rattle.conservative_table.specs.Search.{Going, few}
use Rattle.conservative_table.proofs.skip.Given as goal

abbrev pub invariant-loop-k : goal.invariant-loop-k
invariant-loop-k l = Going l.free (few l.free l.nodes) l.from l.nodes l.k

abbrev pub decreases-loop-k : goal.decreases-loop-k
decreases-loop-k l = 131 - l.k
