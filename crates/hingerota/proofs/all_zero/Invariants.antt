-- `hingerota::all_zero` meets its contract: the numbers passed are 0.
-- Assumes nothing.
use mathlib.Core.Path.{◌≡◌}
use Prim.Native.Nat.{◌≤◌}
use lib.ListN.{length, drop}
use Rattle.lists.specs.Every.{every}
use Rattle.hingerota.specs.Checks.{is_zero}
use Rattle.hingerota.proofs.all_zero.Given as goal

abbrev pub invariant-loop-n : goal.invariant-loop-n
invariant-loop-n l = (l.n-index ≤ length l.numbers) × (every is_zero l.numbers ≡ every is_zero (drop l.n-index l.numbers))
