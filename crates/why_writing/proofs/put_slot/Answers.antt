-- `why_writing::put_slot` meets its contract: the sentence of a waiting job, or nothing.
-- Assumes nothing.
use mathlib.Core.Path.{sym, ◌∙◌}
use Rattle.why_writing.specs.ExactText.{writes_none}
use Rattle.why_writing.proofs.put_slot.Goals as goal

pub overflow_sub-j : goal.overflow_sub-j
overflow_sub-j c =
    c.requires.1 (sym c.is_waiting.ensures ∙ c.if-is_waiting.true)

pub put_sentence-requires : goal.put_sentence-requires
put_sentence-requires c =
    (c.requires.0, rw (sym c.is_waiting.ensures ∙ c.if-is_waiting.true) at c.requires.2)

pub returns-then-is_waiting : goal.returns-then-is_waiting
returns-then-is_waiting c =
    rw (sym c.is_waiting.ensures ∙ c.if-is_waiting.true) c.put_sentence.ensures

pub returns : goal.returns
returns c = rw (sym c.is_waiting.ensures ∙ c.if-is_waiting.false) (writes_none _ _)
