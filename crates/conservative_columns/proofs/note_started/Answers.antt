-- `conservative_columns::note_started` meets its contract: those in the first places are listed.
-- Assumes nothing.
use native.Mathlib.Omega.{arith}
use lib.ListN.{length-set}
use Rattle.conservative_columns.specs.Started.{noted_none, noted_yes, noted_waits, noted_ran, noted_all}
use Rattle.conservative_columns.proofs.note_started.Goals.{else-columns-i-eq2, else-columns-i-eq2-via-else-columns-i-eq2, else-columns-i-eq2-via-then-columns-i-eq2+else-was-i-eq1, then-columns-i-eq2+then-was-i-eq1}
use Rattle.conservative_columns.proofs.note_started.Goals as goal

pub loop-i-init : goal.loop-i-init
loop-i-init c = (omega arith, omega arith, c.requires.1, λ js ks k. noted_none k _ c.requires.1)

pub loop-i-preserved : goal.loop-i-preserved
loop-i-preserved c =
    let l = c.loop-i in
    let t = c.loop-i-test.true in
    let p = c.requires.0 in
    elim c.if-columns-i-eq2.branch [
      | then-columns-i-eq2+then-was-i-eq1 w ↦ rw (w.started-is, w.n-is) (
        omega (arith, t),
        omega (arith, l.invariant.1),
        simp length-set l.invariant.2,
        λ js ks k. noted_yes k t (omega (arith, l.invariant.1, t, p)) w.if-columns-i-eq2.true w.if-was-i-eq1.true (l.invariant.3 js ks k),
      )
      | else-columns-i-eq2 w ↦ rw (w.started-is, w.n-is) (
        omega (arith, t),
        omega (arith, l.invariant.1),
        l.invariant.2,
        λ js ks k. elim w.else-columns-i-eq2.branch [
          | else-columns-i-eq2-via-then-columns-i-eq2+else-was-i-eq1 v ↦ noted_ran k t v.if-was-i-eq1.false (l.invariant.3 js ks k)
          | else-columns-i-eq2-via-else-columns-i-eq2 v ↦ noted_waits k t v.if-columns-i-eq2.false (l.invariant.3 js ks k)
        ],
      )
    ]

pub returns : goal.returns
returns c = λ js ks k. noted_all k c.loop-i-test.false (c.loop-i.invariant.3 js ks k)
