use Prim.Native.Nat.{◌+◌, ◌≤◌}
use native.Mathlib.Numerals.{add-one}
use native.Mathlib.Omega.{arith}
use Rattle.lists.specs.Lists.{length_keep_le}
use Rattle.scheduler.specs.Limits.{slots}
use Rattle.scheduler.specs.Times.{hold_le, units_le}
use Rattle.scheduler.specs.Jobs.{is_waiting}
use Rattle.scheduler.specs.Model.{view}
use Rattle.easy.proofs.latest_end.Goals.{After-waiting}
use Rattle.easy.proofs.latest_end.Goals as goal

-- at most 64 wait
few : (c : After-waiting) → c.waiting.result ≤ slots
few c =
    omega (arith, c.waiting.ensures, length_keep_le is_waiting (view c.args.d).jobs, c.requires.holds.few)

pub overflow_cast-rank : goal.overflow_cast-rank
overflow_cast-rank c = omega (arith, few c)

pub overflow_add-rank : goal.overflow_add-rank
overflow_add-rank c = omega (arith, few c)

pub overflow_mul-result : goal.overflow_mul-result
overflow_mul-result c =
    rw c.unit.ensures (omega (arith, units_le c.args.d.settings (c.waiting.result + 1) 65 (omega (arith, few (goal.at.overflow_mul-result c).After-waiting))))

pub overflow_add-result : goal.overflow_add-result
unfolding view
overflow_add-result c =
    rw c.unit.ensures
    (omega (arith, units_le c.args.d.settings (c.waiting.result + 1) 65 (omega (arith, few (goal.at.overflow_add-result c).After-waiting)), c.requires.holds.clock_to))

pub overflow_add-result-2 : goal.overflow_add-result-2
unfolding view
overflow_add-result-2 c =
    rw c.unit.ensures
    (omega (
      arith,
      units_le c.args.d.settings (c.waiting.result + 1) 65 (omega (arith, few (goal.at.overflow_add-result-2 c).After-waiting)),
      c.requires.holds.clock_to,
      c.hold_time.ensures,
      hold_le c.args.d.settings c.args.estimate,
    ))

pub returns : goal.returns
unfolding view
returns c = rw (c.waiting.ensures, c.unit.ensures, c.hold_time.ensures, add-one)
