-- `migration::migrate` meets its contract: it is the turn of slot i, and the lists are the profile of the plan and its index.
-- Assumes nothing.
use mathlib.Core.Path.{◌≡◌}
use mathlib.Core.List.{List}
use Prim.Native.Nat.{ℕ}
use Rattle.scheduler.specs.declared.Scheduler.{Scheduler}
use Rattle.scheduler.specs.declared.Settings.{Settings}
use Rattle.scheduler.specs.Table.{with_jobs}
use Rattle.scheduler.specs.Model.{view}
use Rattle.migration_rules.specs.Migration.{promise_settings}
use Rattle.migration.specs.Replanning.{Replanning}
use Rattle.migration.proofs.migrate.Given as goal

pub record Inv (settings : Settings) (d e : Scheduler) (i n : ℕ) (ms fs lo hi : List ℕ) : Type 0 where
  pub settings-are : settings ≡ promise_settings d.settings
  pub scheduler_is : e ≡ with_jobs d e.jobs
  pub turn : Replanning (view d) e.jobs i n ms fs lo hi

abbrev pub invariant-loop-i : goal.invariant-loop-i
invariant-loop-i l = Inv l.settings l.initial.e l.e l.i l.count l.minutes l.free l.low l.high
