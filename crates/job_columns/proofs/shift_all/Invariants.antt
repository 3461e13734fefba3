-- `job_columns::shift_all` meets its contract: the first k places have left.
-- Assumes nothing.
use Prim.Native.Nat.{ℕ, ◌≤◌}
use mathlib.Core.Path.{◌≡◌}
use mathlib.Core.List.{List}
use lib.ListN.{length, take}
use Rattle.lists.specs.Pads.{pad}
use Rattle.scheduler.specs.Limits.{slots}
use Rattle.job_columns.specs.Removal.{removes}
use Rattle.job_columns.proofs.shift_all.Given as goal

abbrev pub invariant-loop-k : goal.invariant-loop-k
invariant-loop-k l =
    (l.k ≤ l.count)
    × ((xs : List ℕ) → l.initial.list ≡ pad slots 0 xs → length xs ≡ l.live → l.list ≡ pad slots 0 (removes (take l.k l.gone) xs))
