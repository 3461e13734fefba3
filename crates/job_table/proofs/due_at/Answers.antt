-- `job_table::due_at` meets its contract: before the estimate is over no run ends.
-- Assumes nothing.
use native.Mathlib.Omega.{arith}
use mathlib.Core.Path.{◌≡◌, ap}
use mathlib.Core.Bool.{true, false}
use borrow.Author.Tests.{ne_eqb}
use Rattle.scheduler.specs.States.{running?, cleaning?}
use Rattle.scheduler.specs.Jobs.{is_running, is_cleaning}
use Rattle.scheduler.specs.Settings.{end_of}
use Rattle.scheduler.specs.Times.{end_is, run_from}
use Rattle.job_table.proofs.due_at.Goals as goal

pub returns-in-Running : goal.returns-in-Running
returns-in-Running c =
    let a = c.args in
    let S = a.settings in
    let j = a.job in
    let r : is_running j ≡ true = ap running? c.in-Running.is in
    let n : is_cleaning j ≡ false = ap cleaning? c.in-Running.is in
    rw (r, n, ne_eqb (end_of S j) a.minute (λ q. omega (arith, end_is S j, run_from S j.estimate c.requires.1.0)))
