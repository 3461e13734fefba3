-- `text::number` meets its contract: the tests of its form are the definition's.
-- Assumes nothing.
use borrow.Author.Tests.{lt-ltb, le-ltb, le-leb, lt-leb, eq-eqb, ne_eqb}
use Rattle.text.specs.Numbers.{number_of}
use Rattle.text.proofs.number.Goals.{then-n-lt1-via-then-n-lt1, then-n-lt1-via-else-n-lt1+then-n-gt7, else-n-gt1-via-then-n-gt1+else-part-eq48, else-n-gt1-via-else-n-gt1}
use Rattle.text.proofs.number.Goals as goal

pub returns-then-n-lt1 : goal.returns-then-n-lt1
unfolding number_of
returns-then-n-lt1 c =
    elim c.then-n-lt1.branch [
      | then-n-lt1-via-then-n-lt1 w ↦ rw (lt-leb 1 _ w.if-n-lt1.true)
      | then-n-lt1-via-else-n-lt1+then-n-gt7 w ↦ rw (le-leb 1 _ w.if-n-lt1.false, lt-leb _ 7 w.if-n-gt7.true)
    ]

pub returns-then-part-eq48 : goal.returns-then-part-eq48
unfolding number_of
returns-then-part-eq48 c =
    rw (le-leb 1 _ c.if-n-lt1.false, le-leb _ 7 c.if-n-gt7.false, lt-ltb 1 _ c.if-n-gt1.true, eq-eqb _ 48 c.if-part-eq48.true)

pub returns : goal.returns
unfolding number_of
returns c =
    rw (c.digits.ensures, le-leb 1 _ c.if-n-lt1.false, le-leb _ 7 c.if-n-gt7.false)
    (elim c.else-n-gt1.branch [
      | else-n-gt1-via-then-n-gt1+else-part-eq48 w ↦ rw (lt-ltb 1 _ w.if-n-gt1.true, ne_eqb _ 48 w.if-part-eq48.false)
      | else-n-gt1-via-else-n-gt1 w ↦ rw (le-ltb 1 _ w.if-n-gt1.false)
    ])
