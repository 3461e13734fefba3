-- `lent_calls::profile` meets its contract: what `calls::profile` gives is written to the front of the list.
-- Assumes nothing.
use Rattle.std.proofs.Common.{arith}
use Rattle.lent_calls.specs.ProfileContract.{points_few, points_shown}
use Rattle.lent_calls.proofs.profile.Goals as goal

pub write_to-requires : goal.write_to-requires
write_to-requires c =
    let f = points_few c.args.d.now _ _ c.requires c.profile.ensures in
    (omega arith, (f.0, omega (arith, f.1)))

pub returns : goal.returns
returns c =
    rw (c.write_to.ensures.0, c.write_to.ensures.1) (points_shown c.args.d.now c.args.points.now _ c.profile.ensures)
