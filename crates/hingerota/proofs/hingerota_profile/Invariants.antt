-- `hingerota_profile` meets its contract: the points so far are written.
-- Assumes nothing.
use Rattle.std.specs.Prelude.{◌≡◌, ◌≤◌}
use Rattle.hingerota.specs.ProfileContract.{point_at}
use Rattle.lent_lemmas.proofs.Fills.{filled}
use Rattle.hingerota.proofs.hingerota_profile.Given as goal

abbrev pub invariant-loop-i : goal.invariant-loop-i
invariant-loop-i l = (l.i ≤ l.p.count) × (l.points ≡ filled l.i (point_at l.p) l.fn.points)
