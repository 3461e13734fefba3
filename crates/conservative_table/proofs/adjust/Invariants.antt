-- `conservative_table::adjust` meets its contract: the places passed are changed.
-- Assumes nothing.
use Prim.Native.Nat.{ℕ, ◌≤◌, ◌<◌}
use mathlib.Core.Path.{◌≡◌}
use lib.ListN.{get_or}
use Rattle.conservative_table.specs.ListChanges.{changed}
use Rattle.conservative_table.proofs.adjust.Given as goal

abbrev pub invariant-loop-left : goal.invariant-loop-left
invariant-loop-left l =
    ((j : ℕ) → j < l.left-index → get_or l.left-items j 0 ≡ changed l.release l.nodes (get_or l.initial.left-items j 0))
    × ((j : ℕ) → l.left-index ≤ j → get_or l.left-items j 0 ≡ get_or l.initial.left-items j 0)
