-- `status_page::put_state` meets its contract: each state has its word.
-- Assumes nothing.
use Rattle.status_page.proofs.put_state.Goals as goal

pub returns-in-Unused : goal.returns-in-Unused
returns-in-Unused c = rw c.in-Unused.is c.put_word_right.ensures

pub returns-in-Waiting : goal.returns-in-Waiting
returns-in-Waiting c = rw c.in-Waiting.is c.put_word_right-in-Waiting.ensures

pub returns-in-Running : goal.returns-in-Running
returns-in-Running c = rw c.in-Running.is c.put_word_right-in-Running.ensures

pub returns-in-Cleanup : goal.returns-in-Cleanup
returns-in-Cleanup c = rw c.in-Cleanup.is c.put_word_right-in-Cleanup.ensures
