-- `Profile::copied` meets its contract: the points passed are copied.
-- Assumes nothing.
use Prim.Native.Nat.{ℕ, ◌≤◌}
use mathlib.Core.Path.{◌≡◌}
use mathlib.Core.List.{List}
use Rattle.lists.specs.Pads.{pad}
use Rattle.spans.specs.declared.Point.{Point}
use Rattle.conservative_profile.specs.StoredProfile.{places, no_point}
use Rattle.conservative_table.specs.Points.{points_of}
use Rattle.conservative_profile.proofs.Profile.copied.Given as goal

pub record Inv (ms fs : List ℕ) (n : ℕ) (ps : List Point) (i : ℕ) : Type 0 where
  pub to : i ≤ n
  pub few : n ≤ 129
  pub is : ps ≡ pad places no_point (points_of ms fs i)

abbrev pub invariant-loop-i : goal.invariant-loop-i
invariant-loop-i l = Inv l.minutes l.free l.count l.points l.i
