-- `conservative_table::search_before` meets its contract: before the start no minute before that of the place reached will do.
-- Assumes nothing.
use Prim.Native.Nat.{◌-◌}
use Rattle.conservative_table.specs.Search.{Standing}
use Rattle.conservative_table.proofs.search_before.Given as goal

abbrev pub invariant-loop-i : goal.invariant-loop-i
invariant-loop-i l = Standing l.minutes l.free l.start l.nodes l.hold l.i

abbrev pub decreases-loop-i : goal.decreases-loop-i
decreases-loop-i l = 131 - l.i
