-- `script_writing::put_field` meets its contract.
-- Assumes nothing.
use mathlib.Core.List.{[], ◌∷◌}
use native.Mathlib.Omega.{arith}
use Rattle.text.specs.Numbers.{decimal_of}
use Rattle.text.specs.NumberLaws.{decimal_ten}
use Rattle.text.specs.WrittenBytes.{wrote, and_then}
use Rattle.script_writing.proofs.put_field.Goals as goal

pub put_number-requires : goal.put_number-requires
put_number-requires c = omega (arith, decimal_ten c.args.v (omega arith))

pub returns : goal.returns
returns c =
    let v = c.args.v in
    and_then (wrote 1 _ _ (9 ∷ []) _ _ (omega arith) c.put_byte-p.ensures)
    (wrote 10 _ _ (decimal_of v) _ _ (decimal_ten v (omega arith)) c.put_number.ensures)
