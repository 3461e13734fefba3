-- `job_columns::gather` meets its contract: the first jobs are in their slots, and the slots after them are unused.
-- Assumes nothing.
use Prim.Native.Nat.{◌≤◌}
use mathlib.Core.Path.{◌≡◌}
use lib.ListN.{take}
use Rattle.lists.specs.Pads.{pad}
use Rattle.scheduler.specs.Limits.{slots}
use Rattle.scheduler.specs.Jobs.{unused}
use Rattle.scheduler.specs.Settings.{cleanup as cleanupOf}
use Rattle.job_columns.specs.Held.{ColumnsOfScheduler}
use Rattle.job_columns.proofs.gather.Given as goal

abbrev pub invariant-loop-i : goal.invariant-loop-i
invariant-loop-i l =
    (l.i ≤ l.columns.live) × (l.columns.live ≤ slots) × (l.cleanup ≡ cleanupOf l.settings)
    × ((k : ColumnsOfScheduler l.settings l.clock l.next l.columns l.promises l.submitted l.ranks l.forecasts)
    → l.jobs ≡ pad slots unused (take l.i k.model.jobs))
