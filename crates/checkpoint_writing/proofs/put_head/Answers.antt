-- `checkpoint_writing::put_head` meets its contract: each kind has its word.
-- Assumes nothing.
use native.Mathlib.Omega.{arith}
use Rattle.text.specs.WrittenBytes.{wrote}
use Rattle.checkpoint_writing.proofs.put_head.Goals as goal

pub returns-in-Conservative : goal.returns-in-Conservative
returns-in-Conservative c =
    rw c.in-Conservative.is (wrote 12 _ _ _ _ _ (omega arith) c.put_word.ensures)

pub returns-in-Easy : goal.returns-in-Easy
returns-in-Easy c =
    rw c.in-Easy.is (wrote 12 _ _ _ _ _ (omega arith) c.put_word-in-Easy.ensures)
