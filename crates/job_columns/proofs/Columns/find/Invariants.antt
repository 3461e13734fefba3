-- `job_columns::Columns::find` meets its contract: the ticket stands neither before `low` nor from `high` on.
-- Assumes nothing.
use Prim.Native.Nat.{◌-◌, ◌≤◌}
use mathlib.Core.Path.{◌≡◌}
use mathlib.Core.List.{List}
use lib.ListN.{length}
use Rattle.scheduler.specs.declared.Job.{Job}
use Rattle.scheduler.specs.Table.{ticket_of}
use Rattle.jobs.specs.Order.{Asc}
use Rattle.job_columns.specs.Columns.{Column}
use Rattle.job_columns.specs.Searches.{Between}
use Rattle.job_columns.proofs.Columns.find.Given as goal

abbrev pub invariant-loop-low : goal.invariant-loop-low
invariant-loop-low l =
    (l.low ≤ l.high) × (l.high ≤ l.self.live) × ((js : List Job) → Column ticket_of js l.self.tickets → Asc 1 js → length js ≡ l.self.live → Between js l.ticket l.low l.high)

abbrev pub decreases-loop-low : goal.decreases-loop-low
decreases-loop-low l = l.high - l.low
