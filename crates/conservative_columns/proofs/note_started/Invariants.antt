-- `conservative_columns::note_started` meets its contract: those in the first places are listed.
-- Assumes nothing.
use Prim.Native.Nat.{◌≤◌}
use mathlib.Core.List.{List}
use Rattle.scheduler.specs.declared.Job.{Job}
use Rattle.job_columns.specs.Columns.{Whole}
use Rattle.conservative_columns.specs.Started.{Compared, Noted}
use Rattle.conservative_columns.proofs.note_started.Given as goal

abbrev pub invariant-loop-i : goal.invariant-loop-i
invariant-loop-i l =
    (l.i ≤ l.columns.live) × (l.n ≤ l.i) × Whole l.started × ((js ks : List Job) (c : Compared js ks l.columns.tickets l.was l.columns.states l.columns.live) → Noted c l.i l.started l.n)
