-- `text::put_number` meets its contract: with the digits of what is left before those written, the number stands there.
-- Assumes nothing.
use mathlib.Core.Path.{◌≡◌, refl, sym, ap, ◌∙◌}
use Prim.Native.Nat.{ℕ, ◌+◌, ◌/◌, ◌%◌}
use native.Mathlib.Omega.{arith}
use lib.ListN.{length, set, length-set}
use lib.Seq.{sets}
use borrow.Author.Rules.{rules}
use Rattle.text.specs.Numbers.{decimal_of}
use Rattle.text.specs.NumberLaws.{decimal_one, decimal_some, decimal_more, decimal_length}
use Rattle.text.specs.WriterLaws.{sets_last}
use Rattle.text.proofs.put_number.Goals as goal

pub overflow_sub-i : goal.overflow_sub-i
overflow_sub-i c = omega (arith, decimal_some c.args.v)

pub loop-rest-init : goal.loop-rest-init
loop-rest-init c =
    let some = decimal_some c.args.v in
    record { size = refl; place = omega arith; inside = omega arith; written = refl }

pub overflow_sub-i-in-loop-rest : goal.overflow_sub-i-in-loop-rest
overflow_sub-i-in-loop-rest c = omega (arith, decimal_length c.loop-rest.rest c.loop-rest-test.true, decimal_some (c.loop-rest.rest / 10))

pub loop-rest-preserved : goal.loop-rest-preserved
loop-rest-preserved c =
    let l = c.loop-rest in
    let at = c.args.at in
    let D = decimal_of (l.rest / 10) in
    let digit = 48 + l.rest % 10 in
    let size = decimal_length l.rest c.loop-rest-test.true in
    let some = decimal_some (l.rest / 10) in
    let e : l.i ≡ at + length D = omega arith in
    record {
      size = simp length-set l.invariant.size;
      place = omega arith;
      inside = omega arith;
      written =
          ap (λ (j : ℕ). sets (set l.out j digit) at D) e
          ∙ sym (sets_last l.out at D digit)
          ∙ ap (sets l.out at) (sym (decimal_more l.rest c.loop-rest-test.true))
          ∙ l.invariant.written;
    }

pub returns : goal.returns
returns c =
    let l = c.loop-rest in
    let at = c.args.at in
    let one = decimal_one l.rest c.loop-rest-test.false in
    let e : l.i ≡ at = omega (arith, ap length one) in (
      search rules,
      ap (λ (j : ℕ). set l.out j (48 + l.rest)) e ∙ ap (sets l.out at) (sym one) ∙ l.invariant.written,
    )
