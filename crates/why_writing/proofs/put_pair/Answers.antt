-- `why_writing::put_pair` meets its contract: its words and numbers are written one after the other.
-- Assumes nothing.
use native.Mathlib.Omega.{arith}
use Rattle.text.specs.Numbers.{decimal_of}
use Rattle.why_writing.specs.ExactText.{writes, writes_then}
use Rattle.why_writing.specs.ListedText.{pair_length}
use Rattle.why_writing.proofs.put_pair.Goals as goal

pub put_word-a-requires : goal.put_word-a-requires
put_word-a-requires c =
    let a = c.args in omega (arith, pair_length a.first.now a.v a.second.now a.w)

pub put_number-b-requires : goal.put_number-b-requires
put_number-b-requires c =
    let a = c.args in
    omega (arith, pair_length a.first.now a.v a.second.now a.w, c.put_word-a.auto)

pub put_word-c-requires : goal.put_word-c-requires
put_word-c-requires c =
    let a = c.args in
    omega (arith, pair_length a.first.now a.v a.second.now a.w, c.put_word-a.auto, c.put_number-b.auto)

pub put_number-requires : goal.put_number-requires
put_number-requires c =
    let a = c.args in
    omega (arith, c.requires, pair_length a.first.now a.v a.second.now a.w, c.put_word-a.auto, c.put_word-a.ensures, c.put_number-b.auto, c.put_word-c.auto)

pub returns : goal.returns
returns c =
    let a = c.args in
    writes_then (writes a.first.now c.put_word-a.ensures) (writes_then (writes (decimal_of a.v) c.put_number-b.ensures)
    (writes_then (writes a.second.now c.put_word-c.ensures) (writes (decimal_of a.w) c.put_number.ensures)))
