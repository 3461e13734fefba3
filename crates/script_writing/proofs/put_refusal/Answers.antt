-- `script_writing::put_refusal` meets its contract: its parts are written one after the other.
-- Assumes nothing.
use native.Mathlib.Omega.{arith}
use Rattle.script_rules.specs.Writing.{no_word, no_row}
use Rattle.text.specs.WrittenBytes.{wrote, with_room, and_then}
use Rattle.script_writing.proofs.put_refusal.Goals as goal

pub returns : goal.returns
unfolding no_row
returns c =
    let start = wrote 2 _ _ no_word _ _ (omega arith) c.put_word-p.ensures in
    with_room (and_then start (rw c.code.ensures at c.put_last.ensures)) _ (omega arith)
