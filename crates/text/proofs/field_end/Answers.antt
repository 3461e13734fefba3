-- `text::field_end` meets its contract: a field that ends from here on ends from the start on.
-- Assumes nothing.
use mathlib.Core.Logic.{inl, inr}
use native.Mathlib.Omega.{arith}
use Rattle.text.specs.LineFieldLaws.{field_hit, field_miss, field_none}
use Rattle.text.proofs.field_end.Goals.{then-text-i-eq-TAB-via-then-text-i-eq-TAB, then-text-i-eq-TAB-via-else-text-i-eq-TAB+then-text-i-eq-NEWLINE}
use Rattle.text.proofs.field_end.Goals as goal

pub returns-then-text-i-eq-TAB : goal.returns-then-text-i-eq-TAB
returns-then-text-i-eq-TAB c =
    let hit = field_hit c.args.text.now c.loop-i.i (omega arith) in
    elim c.then-text-i-eq-TAB.branch [
      | then-text-i-eq-TAB-via-then-text-i-eq-TAB w ↦ omega (arith, hit (inl w.if-text-i-eq-TAB.true))
      | then-text-i-eq-TAB-via-else-text-i-eq-TAB+then-text-i-eq-NEWLINE w ↦ omega (arith, hit (inr w.if-text-i-eq-NEWLINE.true))
    ]

pub loop-i-preserved : goal.loop-i-preserved
loop-i-preserved c =
    omega (arith, field_miss c.args.text.now c.loop-i.i (omega arith) c.if-text-i-eq-TAB.false c.if-text-i-eq-NEWLINE.false)

pub returns : goal.returns
returns c =
    let l = c.loop-i in
    let a = c.args in
    grind (arith, c.max.ensures, l.invariant, field_none a.text.now l.i, field_none a.text.now a.from)
