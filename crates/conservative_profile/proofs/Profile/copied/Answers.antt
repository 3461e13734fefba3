-- `Profile::copied` meets its contract: the points passed are copied.
-- Assumes nothing.
use Prim.Native.Nat.{ℕ}
use mathlib.Core.Path.{◌≡◌, ap, ◌∙◌}
use native.Mathlib.Omega.{arith}
use Rattle.lists.specs.Pads.{pad}
use Rattle.conservative_profile.specs.StoredProfile.{places, no_point}
use Rattle.conservative_table.specs.Points.{points_of}
use Rattle.conservative_profile.specs.CopiedPoints.{copy_few, copied_none, copied_more, copied_all}
use Rattle.conservative_profile.proofs.Profile.copied.Goals as goal

pub loop-i-init : goal.loop-i-init
unfolding pad
loop-i-init c = record { to = omega arith; few = copy_few c.requires; is = copied_none c.args.minutes.now c.args.free.now }

pub loop-i-preserved : goal.loop-i-preserved
loop-i-preserved c =
    let l = c.loop-i in
    record {
      to = omega arith;
      few = l.invariant.few;
      is = copied_more c.args.minutes.now c.args.free.now l.points l.i l.invariant.is (omega arith);
    }

pub returns : goal.returns
returns c =
    let l = c.loop-i in
    let e : l.i ≡ c.args.count = omega (arith, l.invariant.to) in
    λ q. copied_all l.points (l.invariant.is ∙ ap (λ (i : ℕ). pad places no_point (points_of c.args.minutes.now c.args.free.now i)) e) q
