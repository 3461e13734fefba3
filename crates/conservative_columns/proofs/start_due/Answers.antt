-- `conservative_columns::start_due` meets its contract: the jobs before place `at` that were due have started.
-- Assumes nothing.
use Prim.Native.Nat.{◌+◌}
use native.Mathlib.Omega.{arith}
use mathlib.Core.Path.{◌≡◌, refl, ap}
use Rattle.job_columns.specs.declared.Columns.{Columns}
use Rattle.job_columns.specs.Held.{Retimed, retimed_on}
use Rattle.conservative_columns.specs.Held.{StartingIn}
use Rattle.conservative_columns.specs.Due.{Starts, starts_begin, few_started, starts_next, clears, run_there, run_low, starts_past, starts_now, starts_end, starts_nobody}
use Rattle.conservative_columns.proofs.start_due.Goals.{In-loop-at, Joined-columns-at-eq1}
use Rattle.conservative_columns.proofs.start_due.Goals.{else-columns-at-eq1, then-columns-at-eq1}
use Rattle.conservative_columns.proofs.start_due.Goals as goal

-- this place has been looked at too
one_more : (c : Joined-columns-at-eq1) → (q : StartingIn c.args.columns.now c.args.holds.now c.args.starting c.args.minute c.args.cleanup)
    → Starts q (c.loop-at.at + 1) c.if-columns-at-eq1.n c.if-columns-at-eq1.columns.states c.if-columns-at-eq1.columns.dues c.if-columns-at-eq1.columns.starts c.if-columns-at-eq1.started
one_more c q =
    let l = c.loop-at in
    let v = l.invariant.0 q in
    let t = c.loop-at-test.true in
    elim c.if-columns-at-eq1.branch [
      | then-columns-at-eq1 w ↦ rw (w.columns-is, w.started-is, w.n-is, ap (λ (x : Columns). x.tickets) l.invariant.2)
          (starts_now q v t w.if-columns-at-eq1.true (l.invariant.1 t) (w.begin.ensures.begun _ _ _ _ _ _ _ _ v.columns t (run_there q v t)))
      | else-columns-at-eq1 w ↦ rw (w.columns-is, w.started-is, w.n-is) (starts_past q v t w.if-columns-at-eq1.false)
    ]

retimed : (c : Joined-columns-at-eq1) → Retimed c.args.columns.now c.if-columns-at-eq1.columns
retimed c =
    let e = c.loop-at.invariant.2 in
    elim c.if-columns-at-eq1.branch [
      | then-columns-at-eq1 w ↦ rw w.columns-is (retimed_on c.args.columns.now c.loop-at.columns w.begin.new.self e w.begin.ensures.retimed)
      | else-columns-at-eq1 w ↦ rw w.columns-is e
    ]

-- so many are live
live : (c : Joined-columns-at-eq1) → c.if-columns-at-eq1.columns.live ≡ c.args.columns.now.live
live c = ap (λ (x : Columns). x.live) (retimed c)

pub first_due-at-requires : goal.first_due-at-requires
first_due-at-requires c = (omega arith, c.requires.0.few)

pub loop-at-init : goal.loop-at-init
loop-at-init c =
    let f = c.first_due-at.ensures in
    (λ q. starts_next q (starts_begin q _ c.requires.1) f, f.here, refl, omega arith, c.requires.0.few)

pub overflow_sub-holds : goal.overflow_sub-holds
overflow_sub-holds c =
    let q = c.requires.0 in
    clears q (c.loop-at.invariant.0 q) c.loop-at-test.true

pub begin-requires : goal.begin-requires
begin-requires c =
    let q = c.requires.0 in
    (omega (arith, c.loop-at-test.true, q.few), q.minute_to, run_low q (c.loop-at.invariant.0 q) c.loop-at-test.true)

pub first_due-at-requires-in-loop-at : goal.first_due-at-requires-in-loop-at
first_due-at-requires-in-loop-at c =
    let e = live (goal.at.first_due-at-requires-in-loop-at c).Joined-columns-at-eq1 in
    (omega (arith, e, c.loop-at-test.true), omega (arith, e, c.requires.0.few))

pub loop-at-smaller : goal.loop-at-smaller
loop-at-smaller c = omega (arith, c.first_due-at-in-loop-at.ensures.from_to, c.loop-at-test.true)

pub loop-at-preserved : goal.loop-at-preserved
loop-at-preserved c =
    let f = rw (live (goal.at.loop-at-preserved c).Joined-columns-at-eq1) at c.first_due-at-in-loop-at.ensures in (
      λ q. starts_next q (one_more (goal.at.loop-at-preserved c).Joined-columns-at-eq1 q) f,
      f.here,
      retimed (goal.at.loop-at-preserved c).Joined-columns-at-eq1,
      omega (arith, few_started c.requires.0 (one_more (goal.at.loop-at-preserved c).Joined-columns-at-eq1 c.requires.0), f.from_to),
      c.requires.0.few,
    )

pub returns-then-starting-eq0 : goal.returns-then-starting-eq0
returns-then-starting-eq0 c = record { started = λ q. starts_nobody q c.if-starting-eq0.true _ c.requires.1; retimed = refl }

pub returns : goal.returns
returns c = record { started = λ q. starts_end q (c.loop-at.invariant.0 q) c.loop-at-test.false; retimed = c.loop-at.invariant.2 }
