-- `job_columns::spread` meets its contract: the columns are those of the live jobs passed.
-- Assumes nothing.
use Prim.Native.Nat.{◌≤◌}
use mathlib.Core.Path.{◌≡◌}
use lib.ListN.{length, take}
use Rattle.scheduler.specs.Model.{view}
use Rattle.job_columns.specs.Held.{FieldsOf}
use Rattle.job_columns.proofs.spread.Given as goal

abbrev pub invariant-loop-i : goal.invariant-loop-i
invariant-loop-i l =
    (l.i ≤ length (view l.d).jobs) × FieldsOf l.d.settings (take l.columns.live (view l.d).jobs) l.columns l.promises
    l.submitted l.ranks l.forecasts × (l.columns.live ≡ l.i)
