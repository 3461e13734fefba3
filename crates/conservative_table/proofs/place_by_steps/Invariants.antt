-- `conservative_table::place_by_steps` meets its contract: the minutes of the places passed are not later.
-- Assumes nothing.
use Prim.Native.Nat.{◌-◌, ◌≤◌}
use lib.ListN.{get_or}
use Rattle.conservative_table.proofs.place_by_steps.Given as goal

abbrev pub invariant-loop-k : goal.invariant-loop-k
invariant-loop-k l = get_or l.minutes (l.k - 1) 0 ≤ l.t
