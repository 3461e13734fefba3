-- `conservative_table::reach` meets its contract: the places passed are early enough, and enough nodes are free there.
-- Assumes nothing.
use Prim.Native.Nat.{◌-◌}
use Rattle.conservative_table.specs.Search.{Going, enough}
use Rattle.conservative_table.proofs.reach.Given as goal

abbrev pub invariant-loop-k : goal.invariant-loop-k
invariant-loop-k l = Going l.minutes (enough l.free l.nodes) l.from l.until l.k

abbrev pub decreases-loop-k : goal.decreases-loop-k
decreases-loop-k l = 131 - l.k
