-- `conservative_plan::replan_kept` meets its contract: it is the turn of slot i, and the lists are the profile of the slots.
-- Assumes nothing.
use mathlib.Core.Path.{◌≡◌}
use mathlib.Core.List.{List}
use Prim.Native.Nat.{ℕ}
use Rattle.scheduler.specs.Limits.{slots}
use Rattle.scheduler.specs.declared.Scheduler.{Scheduler}
use Rattle.scheduler.specs.Model.{view}
use Rattle.scheduler.specs.Table.{with_jobs}
use Rattle.conservative_plan.specs.Pass.{turns_left, Turning}
use Rattle.conservative_plan.proofs.replan_kept.Given as goal

pub record Inv (d e : Scheduler) (i turns n : ℕ) (ms fs : List ℕ) : Type 0 where
  pub scheduler_is : e ≡ with_jobs d e.jobs
  pub turning : Turning slots (view d).settings d.clock d.jobs e.jobs i turns n ms fs

abbrev pub invariant-loop-turns : goal.invariant-loop-turns
invariant-loop-turns l = Inv l.initial.e l.e l.i l.turns l.n l.minutes l.free

abbrev pub decreases-loop-turns : goal.decreases-loop-turns
decreases-loop-turns l = turns_left l.e.jobs l.turns
