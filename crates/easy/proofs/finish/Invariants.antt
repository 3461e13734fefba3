-- `easy::finish` meets its contract. The first loop surveys the slots, the second writes the starts, the third the
-- forecast of a new head.
-- Assumes nothing.
use Prim.Native.Nat.{◌≤◌}
use mathlib.Core.Path.{◌≡◌}
use mathlib.Core.List.{map, ◌++◌}
use lib.ListN.{length, take, drop}
use Rattle.scheduler.specs.Model.{view}
use Rattle.easy_rules.specs.Easy.{settled, noting}
use Rattle.easy_engine.specs.Survey.{Passed, Begins}
use Rattle.easy.specs.Noting.{told}
use Rattle.easy.proofs.finish.Given as goal

abbrev pub invariant-loop-i : goal.invariant-loop-i
invariant-loop-i l =
    (l.running ≤ l.i) × (l.waiting ≤ l.i)
    × Passed l.fn.p.scheduler (take l.i l.fn.p.scheduler.jobs) l.running l.waiting l.spare l.held l.ends l.terms l.asked l.estimates l.waiters l.places

abbrev pub invariant-loop-k : goal.invariant-loop-k
invariant-loop-k l =
    Begins l.initial.e (settled (view l.initial.e)).started l.e l.list l.k × (length l.e.jobs ≡ 64)

abbrev pub invariant-loop-j : goal.invariant-loop-j
invariant-loop-j l =
    l.j-items ≡ map (noting (told l.head l.forecast)) (take l.j-index l.initial.j-items) ++ drop l.j-index l.initial.j-items
