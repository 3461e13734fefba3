-- `checkpoint_writing::put_state` meets its contract: each state has its letter.
-- Assumes nothing.
use native.Mathlib.Omega.{arith}
use Rattle.text.specs.WrittenBytes.{wrote}
use Rattle.checkpoint_writing.proofs.put_state.Goals as goal

pub returns-in-Unused : goal.returns-in-Unused
returns-in-Unused c = rw c.in-Unused.is (wrote 2 _ _ _ _ _ (omega arith) c.put_word.ensures)

pub returns-in-Waiting : goal.returns-in-Waiting
returns-in-Waiting c = rw c.in-Waiting.is (wrote 2 _ _ _ _ _ (omega arith) c.put_word-in-Waiting.ensures)

pub returns-in-Running : goal.returns-in-Running
returns-in-Running c = rw c.in-Running.is (wrote 2 _ _ _ _ _ (omega arith) c.put_word-in-Running.ensures)

pub returns-in-Cleanup : goal.returns-in-Cleanup
returns-in-Cleanup c = rw c.in-Cleanup.is (wrote 2 _ _ _ _ _ (omega arith) c.put_word-in-Cleanup.ensures)
