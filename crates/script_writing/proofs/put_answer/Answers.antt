-- `script_writing::put_answer` meets its contract: the lines of a call that is taken, or the line of a refusal.
-- Assumes nothing.
use mathlib.Core.Path.{sym, ◌∙◌}
use Rattle.script_writing.specs.AnswerText.{answer_text}
use Rattle.script_writing.proofs.put_answer.Goals as goal

pub returns-then-is_none : goal.returns-then-is_none
unfolding answer_text
returns-then-is_none c =
    rw (sym c.is_none.ensures ∙ c.if-is_none.true) c.put_taken.ensures

pub returns : goal.returns
unfolding answer_text
returns c =
    rw (sym c.is_none.ensures ∙ c.if-is_none.false) c.put_refusal.ensures
