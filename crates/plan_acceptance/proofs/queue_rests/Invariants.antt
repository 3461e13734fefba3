-- `plan_acceptance::queue_rests` meets its contract. The invariant: what is asked of the jobs that are left is what is asked of all.
-- Assumes nothing.
use Prim.Native.Nat.{ℕ, ◌-◌, ◌≤◌}
use mathlib.Core.Path.{◌≡◌}
use mathlib.Core.Bool.{Bool}
use lib.ListN.{drop}
use Rattle.scheduler.specs.declared.Job.{Job}
use Rattle.scheduler.specs.declared.Scheduler.{Scheduler}
use Rattle.easy_rules.specs.Easy.{queue}
use Rattle.lists.specs.EveryLoop.{every_from}
use Rattle.plan_acceptance.specs.Queue.{rests_at}
use Rattle.plan_acceptance.proofs.queue_rests.Given as goal

-- what is asked of each
abbrev pub asked : (minute spare extra : ℕ) → Scheduler → ℕ → Job → Bool
asked minute spare extra d = rests_at d.settings spare extra (minute - d.clock) minute

abbrev pub invariant-loop-j : goal.invariant-loop-j
invariant-loop-j l =
    (l.ahead ≤ l.j-index)
    × (every_from (asked l.minute l.spare l.extra l.fn.d) l.ahead (queue (drop l.j-index l.fn.d.jobs)) ≡ every_from (asked l.minute l.spare l.extra l.fn.d) 0 (queue l.fn.d.jobs))
