-- `script_writing::put_row` meets its contract: its parts are written one after the other.
-- Assumes nothing.
use native.Mathlib.Omega.{arith}
use lib.ListN.{length}
use Rattle.script_rules.specs.Writing.{row}
use Rattle.text.specs.WrittenBytes.{wrote, and_then}
use Rattle.script_writing.proofs.put_row.Goals as goal

pub returns : goal.returns
unfolding row
returns c =
    let w = c.args.word.now in
    and_then (wrote (length w) _ _ w _ _ (omega arith) c.put_word-p.ensures) (and_then c.put_field-q.ensures c.put_last.ensures)
