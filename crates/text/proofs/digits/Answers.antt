-- `text::digits` meets its contract: the value so far, and what is left to read.
-- Assumes nothing.
use mathlib.Core.Path.{refl, sym, ◌∙◌}
use native.Mathlib.Omega.{arith}
use Rattle.std.proofs.Math.Logic.{⊎_elim}
use borrow.Author.Rules.{rules}
use Rattle.text.specs.NumberLaws.{ten_zero, ten_more, ten_low, digits_more, digits_low, digits_high, digits_end}
use Rattle.text.proofs.digits.Goals as goal

pub loop-b-init : goal.loop-b-init
loop-b-init c = (search rules, omega (arith, ten_zero), refl)

pub returns-then-not-is_ascii_digit : goal.returns-then-not-is_ascii_digit
returns-then-not-is_ascii_digit c =
    let other = rw c.if-not-is_ascii_digit.true at c.is_ascii_digit.ensures.cases in
    let l = c.loop-b in
    let part = c.args.part.now in
    ⊎_elim
    (λ low. sym (digits_low part l.b-index l.v (omega arith) low) ∙ l.invariant.2)
    (λ high. sym (digits_high part l.b-index l.v (omega arith) (omega arith) high) ∙ l.invariant.2)
    other

pub overflow_mul-v : goal.overflow_mul-v
overflow_mul-v c = omega (arith, ten_low c.loop-b.b-index (omega arith))

pub overflow_add-v : goal.overflow_add-v
overflow_add-v c =
    let digit = rw c.if-not-is_ascii_digit.false at c.is_ascii_digit.ensures.cases in
    omega (arith, digit.1, c.from.ensures, ten_low c.loop-b.b-index (omega arith))

pub loop-b-preserved : goal.loop-b-preserved
loop-b-preserved c =
    let l = c.loop-b in
    let digit = rw c.if-not-is_ascii_digit.false at c.is_ascii_digit.ensures.cases in (
      omega arith,
      omega (arith, digit.1, c.from.ensures, ten_more l.b-index),
      rw c.from.ensures (sym (digits_more c.args.part.now l.b-index l.v (omega arith) digit.0 digit.1) ∙ l.invariant.2),
    )

pub returns : goal.returns
returns c =
    let l = c.loop-b in
    sym (digits_end c.args.part.now l.b-index l.v (omega arith)) ∙ l.invariant.2
