-- `status_page::put_rest` meets its contract.
-- Assumes nothing.
use mathlib.Core.List.{[], ◌∷◌}
use native.Mathlib.Omega.{arith}
use Rattle.text.specs.WrittenBytes.{wrote, and_then}
use Rattle.status_page.proofs.put_rest.Goals as goal

pub returns : goal.returns
returns c =
    and_then c.put_spaces-p.ensures (wrote 1 _ _ (10 ∷ []) _ _ (omega arith) c.put_byte.ensures)
