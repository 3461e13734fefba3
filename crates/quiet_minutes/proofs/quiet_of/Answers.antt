-- `quiet_minutes::quiet_of` meets its contract.
-- Assumes nothing.
use native.Mathlib.Omega.{arith}
use Rattle.scheduler.specs.Times.{cleanup_le, hold_is, hold_le, run_from}
use Rattle.quiet_minutes.specs.QuietCount.{unused_quiet, waiting_quiet, running_quiet, cleaning_quiet, later_quiet}
use Rattle.quiet_minutes.specs.QuietCount.{waiting_due, running_due, cleaning_due}
use Rattle.quiet_minutes.proofs.quiet_of.Goals as goal

pub returns-then-last-job : goal.returns-then-last-job
returns-then-last-job c =
    let a = c.args in
    (c.requires.2, omega arith, later_quiet a.settings a.clock a.last a.job c.requires.1 (omega arith), λ l. absurd (omega arith))

-- the estimate is not over by then
pub returns-then-last-job-2 : goal.returns-then-last-job-2
returns-then-last-job-2 c =
    let a = c.args in (
      c.requires.2,
      omega arith,
      running_quiet a.settings a.clock a.last a.job c.in-Running.is (λ h. omega (arith, run_from a.settings a.job.estimate c.requires.1.0)),
      λ l. absurd (omega arith),
    )

pub overflow_add-job-in-Running : goal.overflow_add-job-in-Running
overflow_add-job-in-Running c =
    let a = c.args in
    omega (arith, c.run_time.ensures, hold_le a.settings a.job.estimate, hold_is a.settings a.job.estimate, c.requires.0.0)

pub overflow_add-job-in-Cleanup : goal.overflow_add-job-in-Cleanup
overflow_add-job-in-Cleanup c =
    omega (arith, c.cleanup.ensures, cleanup_le c.args.settings, c.requires.0.1)

pub returns-in-Unused : goal.returns-in-Unused
returns-in-Unused c =
    let a = c.args in
    (c.requires.2, omega arith, unused_quiet a.settings a.clock a.last a.job c.in-Unused.is, λ l. absurd (omega arith))

pub returns-in-Waiting : goal.returns-in-Waiting
returns-in-Waiting c =
    let a = c.args in
    let e = c.in-Waiting.is in
    let b = c.before-in-Waiting.ensures in (
      b.0,
      b.1,
      waiting_quiet a.settings a.clock c.before-in-Waiting.result a.job e b.2,
      waiting_due a.settings c.before-in-Waiting.result a.last a.job e b.3,
    )

pub returns-else-last-job-2 : goal.returns-else-last-job-2
returns-else-last-job-2 c =
    let a = c.args in
    let b = c.before-in-Running.ensures in (
      b.0,
      b.1,
      running_quiet a.settings a.clock c.before-in-Running.result a.job c.in-Running.is (rw c.run_time.ensures at b.2),
      running_due a.settings c.before-in-Running.result a.last a.job c.in-Running.is (rw c.run_time.ensures at b.3),
    )

pub returns-in-Cleanup : goal.returns-in-Cleanup
returns-in-Cleanup c =
    let a = c.args in
    let b = c.before-in-Cleanup.ensures in (
      b.0,
      b.1,
      cleaning_quiet a.settings a.clock c.before-in-Cleanup.result a.job c.in-Cleanup.is (rw c.cleanup.ensures at b.2),
      cleaning_due a.settings c.before-in-Cleanup.result a.last a.job c.in-Cleanup.is (rw c.cleanup.ensures at b.3),
    )
