-- `conservative_kept::tick` meets its contract: the points move with the clock, and the index with them.
-- Assumes nothing.
use native.Mathlib.Omega.{arith}
use Rattle.scheduler.specs.Model.{view}
use Rattle.conservative_kept.specs.Tick.{tick_stays_put, advances, ticked_profile}
use Rattle.conservative_kept.proofs.tick.Goals as goal

pub advance-n-requires : goal.advance-n-requires
unfolding view
advance-n-requires c =
    (advances (view c.args.d) c.requires.0.holds c.requires.1.profile (omega arith), c.requires.1.indexed)

pub returns-then-clock-lt-HORIZON : goal.returns-then-clock-lt-HORIZON
unfolding view
returns-then-clock-lt-HORIZON c =
    let a = c.advance-n.ensures in (
      c.tick-given.ensures,
      record {
        profile = ticked_profile (view c.args.d) c.requires.0.holds c.requires.1.profile (omega arith) a.0;
        indexed = a.1;
      },
    )

pub returns-else-clock-lt-HORIZON : goal.returns-else-clock-lt-HORIZON
unfolding view
returns-else-clock-lt-HORIZON c =
    (c.tick-given.ensures, rw (tick_stays_put (view c.args.d) (omega arith)) c.requires.1)
