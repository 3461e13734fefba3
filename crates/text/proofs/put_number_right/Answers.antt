-- `text::put_number_right` meets its contract: spaces, and then the number.
-- Assumes nothing.
use native.Mathlib.Omega.{arith}
use Rattle.text.specs.Numbers.{decimal_of}
use Rattle.text.specs.RightSet.{right_written}
use Rattle.text.proofs.put_number_right.Goals as goal

pub returns : goal.returns
returns c =
    right_written c.args.width _ _ _ (decimal_of c.args.v) _ _ _ _ c.number_len.ensures (omega arith) c.put_spaces-p.ensures
    c.put_number.ensures
