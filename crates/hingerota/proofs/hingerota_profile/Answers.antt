-- `hingerota_profile` meets its contract: the points that `profile` gives fill the front of the list.
-- Assumes nothing.
use Rattle.std.specs.Prelude.{◌≡◌, ◌<◌, length}
use Rattle.std.proofs.Common.{ap, arith, add-one, rules}
use Rattle.std.proofs.Math.Path.{refl}
use Rattle.hingerota.specs.ProfileContract.{point_at, points_written, host_points_fits, host_points_few}
use Rattle.lent_lemmas.proofs.Fills.{filled_next, filled_length}
use Rattle.hingerota.proofs.hingerota_profile.Goals as goal
use Rattle.hingerota.proofs.hingerota_profile.Goals.{After-into}

pub loop-i-init : goal.loop-i-init
loop-i-init c = (search rules, refl)

-- there is room for the next one
below : (c : After-into) → c.loop-i.i < length c.loop-i.points
below c =
    let a = c.args in
    let p = c.profile-p in
    let room = host_points_fits a.d.now (length a.points.now) p.result p.ensures in
    omega (arith, c.loop-i-test.true, ap length c.loop-i.invariant.1, filled_length c.loop-i.i (point_at p.result) a.points.now (omega arith))

pub offset_bounds-points-i : goal.offset_bounds-points-i
offset_bounds-points-i c = let l = below (goal.at.offset_bounds-points-i c).After-into in search rules

pub bounds-points-i : goal.bounds-points-i
bounds-points-i c = below (goal.at.bounds-points-i c).After-into

pub offset_bounds-p-i : goal.offset_bounds-p-i
offset_bounds-p-i c = omega (arith, c.loop-i-test.true, host_points_few c.args.d.now _ _ c.requires c.profile-p.ensures)

pub bounds-p-i : goal.bounds-p-i
bounds-p-i c = omega (arith, c.loop-i-test.true, host_points_few c.args.d.now _ _ c.requires c.profile-p.ensures)

pub loop-i-preserved : goal.loop-i-preserved
loop-i-preserved c =
    let a = c.args in
    let p = c.profile-p in
    let l = c.loop-i in
    let room = host_points_fits a.d.now (length a.points.now) p.result p.ensures in
    let next = filled_next l.i (point_at p.result) a.points.now (omega (arith, c.loop-i-test.true)) in
    (omega arith, rw (l.invariant.1, c.into.ensures, add-one) next)

pub returns : goal.returns
returns c =
    let a = c.args in
    let p = c.profile-p in
    let l = c.loop-i in
    let z : l.i ≡ p.result.count = omega (arith, l.invariant.0) in
    rw (l.invariant.1, z) (points_written a.d.now a.points.now p.result p.ensures)
