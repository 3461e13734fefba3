-- `job_columns::Columns::next_due` meets its contract: the soonest of the places passed.
-- Assumes nothing.
use Prim.Native.Nat.{ℕ, ◌≤◌}
use mathlib.Core.Path.{◌≡◌}
use mathlib.Core.List.{List, map}
use lib.ListN.{length, take}
use Rattle.scheduler.specs.declared.Job.{Job}
use Rattle.job_columns.specs.Columns.{Column}
use Rattle.job_columns.specs.JobColumns.{never}
use Rattle.job_columns.specs.Searches.{soonest}
use Rattle.job_columns.proofs.Columns.next_due.Given as goal

abbrev pub invariant-loop-i : goal.invariant-loop-i
invariant-loop-i l =
    (l.i ≤ l.self.live) × ((f : Job → ℕ) (js : List Job) → Column f js l.self.dues → length js ≡ l.self.live → l.first ≡ soonest never (map f (take l.i js)))
