-- `season_writing::put_row` meets its contract: its parts are written one after the other.
-- Assumes nothing.
use native.Mathlib.Omega.{arith}
use Rattle.text.specs.Numbers.{decimal_of}
use Rattle.text.specs.NumberLaws.{decimal_ten}
use Rattle.text.specs.WrittenBytes.{wrote, and_then}
use Rattle.season_rules.specs.Season.{row}
use Rattle.season_writing.proofs.put_row.Goals as goal

pub put_number-p-requires : goal.put_number-p-requires
put_number-p-requires c = omega (arith, decimal_ten c.args.a (omega arith))

pub put_field-q-requires : goal.put_field-q-requires
put_field-q-requires c =
    let a = c.args.a in
    omega (arith, decimal_ten a (omega arith))

pub put_last-requires : goal.put_last-requires
put_last-requires c =
    let a = c.args.a in
    omega (arith, decimal_ten a (omega arith))

pub returns : goal.returns
unfolding row
returns c =
    let a = c.args.a in
    and_then (wrote 10 _ _ (decimal_of a) _ _ (decimal_ten a (omega arith)) c.put_number-p.ensures)
    (and_then c.put_field-q.ensures c.put_last.ensures)
