-- `hingerota::in_order` meets its contract: the records passed stand in order, and the others decide.
-- Assumes nothing.
use mathlib.Core.Path.{◌≡◌}
use mathlib.Core.Bool.{true}
use Prim.Native.Nat.{◌≤◌}
use lib.ListN.{drop}
use Rattle.hingerota.specs.Checks.{in_order}
use Rattle.hingerota.proofs.in_order.Given as goal

abbrev pub invariant-loop-r : goal.invariant-loop-r
invariant-loop-r l = (l.r-index ≤ 64) × (in_order true l.r-items ≡ in_order l.live (drop l.r-index l.r-items))
