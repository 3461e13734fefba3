-- `plan_acceptance::Survey::used_at` meets its contract. The invariant: the sum and what the jobs that are left take is the whole.
-- Assumes nothing.
use Prim.Native.Nat.{◌+◌}
use native.Mathlib.Omega.{arith}
use mathlib.Core.Path.{◌≡◌}
use lib.ListN.{drop}
use Rattle.lists.specs.Lists as lists
use Rattle.conservative_laws.specs.Validity.{taken}
use Rattle.plan_acceptance.specs.Plan.{Planned, used_first, used_step, used_done, used_low}
use Rattle.plan_acceptance.proofs.Survey.used_at.Goals.{After-taken-sum}
use Rattle.plan_acceptance.proofs.Survey.used_at.Goals as goal

-- one step
step : (c : After-taken-sum)
    → let l = c.loop-i in
    let a = c.args in
    (p : Planned a.self.now.held a.self.now.froms a.self.now.untils a.self.now.count)
    → c.taken-sum.result + lists.sum (taken p.settings a.minute) (drop (l.i + 1) p.jobs) ≡ lists.sum (taken p.settings a.minute) (drop l.i p.jobs)
step c p =
    let l = c.loop-i in
    used_step p c.args.minute l.i c.taken-sum.result (omega arith) c.taken-sum.ensures

pub loop-i-init : goal.loop-i-init
loop-i-init c = (λ p. omega (arith, used_first p c.args.minute))

pub overflow_add-sum : goal.overflow_add-sum
overflow_add-sum c =
    let l = c.loop-i in
    omega (arith, l.invariant c.requires, step c c.requires, used_low c.requires c.args.minute)

pub loop-i-preserved : goal.loop-i-preserved
loop-i-preserved c =
    let l = c.loop-i in
    λ p. omega (arith, l.invariant p, step c p)

pub returns : goal.returns
returns c =
    let l = c.loop-i in
    λ p. omega (arith, l.invariant p, used_done p c.args.minute l.i (omega arith))
