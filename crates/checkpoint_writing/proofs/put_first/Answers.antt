-- `checkpoint_writing::put_first` meets its contract.
-- Assumes nothing.
use native.Mathlib.Omega.{arith}
use Rattle.text.specs.Numbers.{decimal_of}
use Rattle.text.specs.NumberLaws.{decimal_ten}
use Rattle.text.specs.WrittenBytes.{wrote}
use Rattle.checkpoint_writing.proofs.put_first.Goals as goal

pub put_number-requires : goal.put_number-requires
put_number-requires c = omega (arith, decimal_ten c.args.v (omega arith))

pub returns : goal.returns
returns c =
    let v = c.args.v in
    wrote 10 _ _ (decimal_of v) _ _ (decimal_ten v (omega arith)) c.put_number.ensures
