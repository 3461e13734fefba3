-- `conservative_columns::start_due` meets its contract: the jobs before place `at` that were due have started.
-- Assumes nothing.
use Prim.Native.Nat.{◌-◌, ◌<◌, ◌≤◌}
use Rattle.scheduler.specs.Limits.{slots}
use mathlib.Core.Path.{◌≡◌}
use lib.ListN.{get_or}
use Rattle.conservative_columns.specs.Due.{Starts}
use Rattle.conservative_columns.specs.Held.{StartingIn}
use Rattle.job_columns.specs.Held.{Retimed}
use Rattle.conservative_columns.proofs.start_due.Given as goal

abbrev pub invariant-loop-at : goal.invariant-loop-at
invariant-loop-at l =
    ((q : StartingIn l.initial.columns l.holds l.starting l.minute l.cleanup) → Starts q l.at l.n l.columns.states l.columns.dues l.columns.starts l.started)
    × (l.at < l.live → get_or l.columns.dues l.at 0 ≡ l.minute) × Retimed l.initial.columns l.columns × (l.n ≤ l.at) × (l.live ≤ slots)

abbrev pub decreases-loop-at : goal.decreases-loop-at
decreases-loop-at l = l.live - l.at
