-- `scheduler::Settings::longest_within` meets its contract: the wall time must be within what the cleanup leaves.
-- Assumes nothing.
use native.Mathlib.Omega.{arith}
use Rattle.scheduler.specs.Times.{longest_after, longest_none}
use Rattle.scheduler.proofs.Settings.longest_within.Goals as goal

pub returns-then-minutes-cleanup : goal.returns-then-minutes-cleanup
returns-then-minutes-cleanup c = longest_none c.args.self c.args.minutes (omega (arith, c.cleanup-cleanup.ensures, c.if-minutes-cleanup.true))

pub returns : goal.returns
returns c =
    let a = c.args in
    rw (c.min.ensures, c.longest.ensures)
    (longest_after a.self a.minutes (omega (arith, c.cleanup-cleanup.ensures, c.if-minutes-cleanup.false)) c.longest_within.ensures)
