-- `conservative_kept::freed` meets its contract.
-- Assumes nothing.
use native.Mathlib.Omega.{arith}
use Rattle.scheduler.specs.Times.{hold_le, cleanup_le}
use Rattle.conservative_kept.proofs.freed.Goals as goal

pub given_back-requires : goal.given_back-requires
given_back-requires c = (
  c.requires.0.0,
  omega (arith, c.hold_time-hold.ensures, hold_le c.args.settings c.args.job.estimate),
  c.requires.1,
  omega (arith, c.cleanup.ensures, cleanup_le c.args.settings),
)

pub returns : goal.returns
returns c = rw (c.given_back.ensures, c.cleanup.ensures, c.hold_time-hold.ensures)
