-- `conservative_table::place_after` meets its contract: the place sought stays between the two bounds.
-- Assumes nothing.
use Prim.Native.Nat.{ℕ, ◌-◌, ◌≤◌, ◌<◌}
use mathlib.Core.List.{List}
use lib.ListN.{get_or}
use Rattle.conservative_table.proofs.place_after.Given as goal

pub record Inv (ms : List ℕ) (n t low high : ℕ) : Type 0 where
  pub some : 1 ≤ low
  pub order : low ≤ high
  pub inside : high ≤ n
  pub last : get_or ms (low - 1) 0 ≤ t
  pub next : high < n → t < get_or ms high 0

abbrev pub invariant-loop-low : goal.invariant-loop-low
invariant-loop-low l = Inv l.minutes l.count l.t l.low l.high

abbrev pub decreases-loop-low : goal.decreases-loop-low
decreases-loop-low l = l.high - l.low
