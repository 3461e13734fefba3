-- `checkpoint_reading::read_state` meets its contract.
-- Assumes nothing.
use mathlib.Core.Path.{sym, ◌∙◌}
use Rattle.lists.specs.Tests.{case}
use Rattle.checkpoint_rules.specs.Texts.{state_of}
use Rattle.checkpoint_reading.proofs.read_state.Goals as goal

pub returns-then-is_word : goal.returns-then-is_word
unfolding state_of
returns-then-is_word c = rw (sym c.is_word.ensures ∙ c.if-is_word.true)

pub returns-then-is_word-2 : goal.returns-then-is_word-2
unfolding state_of
returns-then-is_word-2 c =
    rw (sym c.is_word.ensures ∙ c.if-is_word.false, sym c.is_word-2.ensures ∙ c.if-is_word-2.true)

pub returns : goal.returns
unfolding state_of
returns c =
    rw (c.then_some.ensures, sym c.is_word.ensures ∙ c.if-is_word.false, sym c.is_word-2.ensures ∙ c.if-is_word-2.false, sym c.is_word-3.ensures)
    (case c.is_word-3.result (λ t. rw t) (λ t. rw t))
