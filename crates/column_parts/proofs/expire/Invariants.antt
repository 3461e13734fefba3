-- `column_parts::expire` meets its contract: the jobs before the place have been looked at, and the one in it is due.
-- Assumes nothing.
use Prim.Native.Nat.{◌-◌, ◌≤◌, ◌<◌}
use mathlib.Core.Path.{◌≡◌}
use lib.ListN.{get_or}
use Rattle.scheduler.specs.Limits.{slots}
use Rattle.column_parts.specs.Held.{MinuteIn, SweepingIn}
use Rattle.column_parts.proofs.expire.Given as goal

abbrev pub invariant-loop-done : goal.invariant-loop-done
invariant-loop-done l =
    (l.done.at ≤ l.columns.live) × (l.columns.live ≤ slots) × (l.done.at < l.columns.live → get_or l.columns.dues l.done.at 0 ≡ l.minute)
    × ((k : MinuteIn l.minute l.cleanup l.initial.columns)
    → SweepingIn k.model l.ended l.gone l.columns l.done)

abbrev pub decreases-loop-done : goal.decreases-loop-done
decreases-loop-done l = l.columns.live - l.done.at
