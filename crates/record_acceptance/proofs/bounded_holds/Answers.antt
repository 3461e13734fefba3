-- `record_acceptance::bounded_holds` meets its contract: a rank in range keeps the sum low, and a difference is compared.
-- Assumes nothing.
use mathlib.Core.Path.{◌≡◌, sym, ◌∙◌}
use Prim.Native.Nat.{◌+◌, ◌*◌, ◌≤◌}
use native.Mathlib.Omega.{arith}
use borrow.Author.Rules.{rules}
use borrow.Author.Tests.{le-leb}
use Rattle.lists.specs.Tests.{leb_sub}
use Rattle.scheduler.specs.declared.Settings.{Settings}
use Rattle.scheduler.specs.declared.Job.{Job}
use Rattle.scheduler.specs.Limits.{horizon}
use Rattle.scheduler.specs.Settings.{unit, hold_time}
use Rattle.scheduler.specs.Times.{hold_le, units_le}
use Rattle.record_acceptance.proofs.bounded_holds.Goals as goal

-- a rank in range keeps the bound low
low : (S : Settings) (j : Job) → j.rank ≤ 64 → j.rank * unit S + hold_time S j.estimate ≤ horizon
low S j r = omega (arith, units_le S j.rank 64 r, hold_le S j.estimate)

pub overflow_mul-after : goal.overflow_mul-after
overflow_mul-after c =
    let r : c.args.j.rank ≤ 64 = search rules in
    rw c.unit.ensures (omega (arith, low c.args.settings c.args.j r))

pub overflow_add-after : goal.overflow_add-after
overflow_add-after c =
    let r : c.args.j.rank ≤ 64 = search rules in
    rw (c.hold_time.ensures, c.unit.ensures) (omega (arith, low c.args.settings c.args.j r))

pub overflow_sub-result : goal.overflow_sub-result
overflow_sub-result c =
    let r : c.args.j.rank ≤ 64 = search rules in
    rw (c.hold_time.ensures, c.unit.ensures) (low c.args.settings c.args.j r)

pub returns-else-not-is_waiting : goal.returns-else-not-is_waiting
returns-else-not-is_waiting c =
    let S = c.args.settings in
    let j = c.args.j in
    let r : j.rank ≤ 64 = search rules in
    let l : 1 ≤ j.rank = search rules in
    let b = j.rank * unit S in
    let m = hold_time S j.estimate in
    let q : j.submitted + (b + m) ≡ j.submitted + b + m = omega arith in
    let e = leb_sub horizon (b + m) j.submitted (low S j r) in
    rw (c.hold_time.ensures, c.unit.ensures, le-leb 1 j.rank l, le-leb j.rank 64 r, le-leb j.submitted c.args.now c.if-j-now.true, sym c.is_waiting.ensures ∙ c.if-not-is_waiting.false, e, q)
