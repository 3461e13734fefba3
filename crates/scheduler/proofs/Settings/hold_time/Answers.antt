use native.Mathlib.Omega.{arith}
use Rattle.scheduler.specs.Times.{hold_is, hold_le}
use Rattle.scheduler.proofs.Settings.hold_time.Goals as goal

pub overflow_add-result : goal.overflow_add-result
overflow_add-result c =
    let a = c.args in
    omega (arith, c.run_time.ensures, c.cleanup.ensures, hold_is a.self a.estimate, hold_le a.self a.estimate)
