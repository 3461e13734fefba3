use mathlib.Core.Path.{◌≡◌}
use mathlib.Core.List.{List}
use Prim.Native.Nat.{ℕ, ◌≤◌}
use lib.ListN.{length, take}
use Rattle.lists.specs.Pads.{pad}
use Rattle.scheduler.specs.declared.Scheduler.{Scheduler}
use Rattle.conservative_rules.specs.Conservative.{begun}
use Rattle.conservative.proofs.newly_running.Given as goal

pub record Inv (before after : Scheduler) (list : List ℕ) (n i : ℕ) : Type 0 where
  pub low : i ≤ 64
  pub few : n ≤ i
  pub count_is : n ≡ length (begun (take i before.jobs) (take i after.jobs))
  pub list_is : list ≡ pad 64 0 (begun (take i before.jobs) (take i after.jobs))

abbrev pub invariant-loop-i : goal.invariant-loop-i
invariant-loop-i l = Inv l.before l.after l.list l.n l.i
