-- `season_writing::put_ended` meets its contract.
-- Assumes nothing.
use native.Mathlib.Omega.{arith}
use Rattle.scheduler.specs.Times.{hold_is, hold_le}
use Rattle.season_writing.proofs.put_ended.Goals as goal

pub slowdown-slow-requires : goal.slowdown-slow-requires
slowdown-slow-requires c =
    let S = c.args.settings in
    let e = c.args.job.estimate in
    omega (arith, c.run_time.ensures, c.requires, hold_is S e, hold_le S e)

pub returns : goal.returns
returns c =
    rw (c.slowdown-slow.ensures, c.min-ran.ensures, c.run_time.ensures, c.saturating_sub-wait.ensures) at c.put_row.ensures
