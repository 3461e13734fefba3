-- `conservative_columns::begin` meets its contract: the jobs in the first places have their hold times.
-- Assumes nothing.
use Prim.Native.Nat.{◌≤◌}
use mathlib.Core.Path.{◌≡◌}
use mathlib.Core.List.{List}
use lib.ListN.{length, take}
use Rattle.scheduler.specs.declared.Job.{Job}
use Rattle.job_columns.specs.Columns.{Column, estimate_of}
use Rattle.job_columns.specs.JobColumns.{hold_of}
use Rattle.conservative_columns.proofs.begin.Given as goal

abbrev pub invariant-loop-i : goal.invariant-loop-i
invariant-loop-i l =
    (l.i ≤ l.live) × ((js : List Job) → Column estimate_of js l.estimates → length js ≡ l.live → Column (hold_of l.settings) (take l.i js) l.holds)
