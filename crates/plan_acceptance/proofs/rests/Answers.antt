-- `plan_acceptance::rests` meets its contract.
-- Assumes nothing.
use Prim.Native.Nat.{ℕ, ◌*◌, ◌≤◌}
use native.Mathlib.Omega.{arith}
use mathlib.Core.Path.{◌≡◌, ap}
use mathlib.Core.Bool.{true}
use borrow.Author.Tests.{eq-eqb, ne_eqb}
use Rattle.scheduler.specs.Times.{units_le}
use Rattle.plan_acceptance.specs.Queue.{bound_at, bound_past, bound_kept}
use Rattle.plan_acceptance.proofs.rests.Goals.{After-unit-unit, Else-job-unit}
use Rattle.plan_acceptance.proofs.rests.Goals as goal

-- this many units are no more than 64 of the longest
product : (u : After-unit-unit) (n : ℕ) → n ≤ 64 → n * u.unit-unit.result ≤ 647040
product u n l = omega (arith, ap (λ (k : ℕ). n * k) u.unit-unit.ensures, units_le u.args.settings n 64 l)

-- past the first test
kept : (w : Else-job-unit) → let a = w.args in bound_at a.settings a.minute a.ahead a.job ≡ true
kept w =
    let a = w.args in
    bound_kept a.settings a.minute a.ahead a.job w.unit-unit.ensures w.if-job-unit.false

pub overflow_mul-job : goal.overflow_mul-job
overflow_mul-job c = omega (arith, product (goal.at.overflow_mul-job c).After-unit-unit c.args.job.rank c.requires.rank_to)

pub overflow_add-job : goal.overflow_add-job
overflow_add-job c =
    omega (arith, product (goal.at.overflow_add-job c).After-unit-unit c.args.job.rank c.requires.rank_to, c.requires.submitted_to)

pub overflow_mul-ahead : goal.overflow_mul-ahead
overflow_mul-ahead c = omega (arith, product (goal.at.overflow_mul-ahead c).After-unit-unit c.args.ahead c.requires.few)

pub overflow_add-minute : goal.overflow_add-minute
overflow_add-minute c =
    omega (arith, product (goal.at.overflow_add-minute c).After-unit-unit c.args.ahead c.requires.few, c.requires.early)

pub returns-then-job-unit : goal.returns-then-job-unit
returns-then-job-unit c =
    let a = c.args in
    rw (bound_past a.settings a.minute a.ahead a.job c.unit-unit.ensures c.if-job-unit.true)

pub returns-then-ahead-eq0 : goal.returns-then-ahead-eq0
returns-then-ahead-eq0 c = rw (kept (goal.at.returns-then-ahead-eq0 c).Else-job-unit, eq-eqb _ _ c.if-ahead-eq0.true)

pub returns-then-job-ne0 : goal.returns-then-job-ne0
returns-then-job-ne0 c = rw (kept (goal.at.returns-then-job-ne0 c).Else-job-unit, ne_eqb _ _ c.if-ahead-eq0.false, ne_eqb _ _ c.if-job-ne0.true)

pub returns : goal.returns
returns c =
    rw (c.may_pass.ensures, kept (goal.at.returns c).Else-job-unit, ne_eqb _ _ c.if-ahead-eq0.false, eq-eqb _ _ c.if-job-ne0.false)
