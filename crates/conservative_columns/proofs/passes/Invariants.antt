-- `conservative_columns::passes` meets its contract: it is the turn of the job in place `at`, and the lists are the profile of the jobs.
-- Assumes nothing.
use Prim.Native.Nat.{◌<◌}
use Rattle.scheduler.specs.Limits.{slots}
use Rattle.conservative_columns.specs.Held.{PassingIn}
use Rattle.job_columns.specs.Held.{Retimed}
use Rattle.conservative_columns.specs.Passes.{Turns, column_turns_left}
use Rattle.conservative_columns.proofs.passes.Given as goal

abbrev pub invariant-loop-turns : goal.invariant-loop-turns
invariant-loop-turns l =
    ((q : PassingIn l.initial.columns l.holds l.initial.minutes l.initial.free l.count l.clock l.cleanup)
    → Turns q l.columns.states l.columns.dues l.columns.starts l.at l.turns l.n l.minutes l.free)
    × Retimed l.initial.columns l.columns × (l.turns < l.live → l.at < slots)

abbrev pub decreases-loop-turns : goal.decreases-loop-turns
decreases-loop-turns l =
    column_turns_left l.columns.starts l.turns
