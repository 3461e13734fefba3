-- `text::find_byte` meets its contract: the first such byte from here on is the first from the start on.
-- Assumes nothing.
use native.Mathlib.Omega.{arith}
use Rattle.text.specs.Prefixes.{upto_hit, upto_miss, upto_end}
use Rattle.text.proofs.find_byte.Goals as goal

pub returns-then-s-i : goal.returns-then-s-i
returns-then-s-i c =
    let l = c.loop-i in
    let a = c.args in
    omega (arith, upto_hit a.byte a.s.now l.i (omega arith) c.if-s-i.true)

pub loop-i-preserved : goal.loop-i-preserved
loop-i-preserved c =
    let l = c.loop-i in
    let a = c.args in
    omega (arith, upto_miss a.byte a.s.now l.i (omega arith) c.if-s-i.false)

pub returns : goal.returns
returns c =
    let l = c.loop-i in
    let a = c.args in
    grind (arith, c.max.ensures, l.invariant, upto_end a.byte a.s.now l.i, upto_end a.byte a.s.now a.from)
