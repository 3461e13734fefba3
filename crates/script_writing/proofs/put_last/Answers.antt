-- `script_writing::put_last` meets its contract.
-- Assumes nothing.
use mathlib.Core.List.{[], ◌∷◌}
use native.Mathlib.Omega.{arith}
use Rattle.text.specs.WrittenBytes.{wrote, and_then}
use Rattle.script_writing.proofs.put_last.Goals as goal

pub returns : goal.returns
returns c =
    and_then c.put_field-p.ensures (wrote 1 _ _ (10 ∷ []) _ _ (omega arith) c.put_byte.ensures)
