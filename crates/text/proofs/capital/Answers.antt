-- `text::capital` meets its contract.
-- Assumes nothing.
use native.Mathlib.Omega.{arith}
use lib.ListN.{length, get_or}
use Rattle.std.proofs.Math.Logic.{⊎_elim}
use borrow.Author.Tests.{eq-eqb, ne_eqb, lt-ltb, le-ltb}
use Rattle.text.specs.Letters.{capital_of}
use Rattle.text.proofs.capital.Goals as goal

pub returns-in-len1 : goal.returns-in-len1
unfolding capital_of
returns-in-len1 c =
    let letter = rw c.if-is_ascii_uppercase.true at c.is_ascii_uppercase.ensures.cases in
    rw (c.from.ensures, eq-eqb (length c.args.part.now) 1 (omega arith), le-ltb _ 65 letter.0, le-ltb 90 _ letter.1)

pub returns-in_default : goal.returns-in_default
unfolding capital_of
returns-in_default c = rw (ne_eqb (length c.args.part.now) 1 (λ e. omega (arith, c.in_default.len_below)))

pub returns-in_default-2 : goal.returns-in_default-2
unfolding capital_of
returns-in_default-2 c =
    let other = rw c.if-is_ascii_uppercase.false at c.is_ascii_uppercase.ensures.cases in
    rw (eq-eqb (length c.args.part.now) 1 (omega arith))
    (⊎_elim (λ low. rw (lt-ltb _ 65 low)) (λ high. rw (le-ltb (get_or c.args.part.now 0 0) 65 (omega arith), lt-ltb 90 _ high)) other)

pub returns-in_default-3 : goal.returns-in_default-3
unfolding capital_of
returns-in_default-3 c = rw (ne_eqb (length c.args.part.now) 1 (λ e. omega (arith, c.in_default.len_at_least)))
