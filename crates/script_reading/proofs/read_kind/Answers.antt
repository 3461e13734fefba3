-- `script_reading::read_kind` meets its contract.
-- Assumes nothing.
use mathlib.Core.Path.{sym, ◌∙◌}
use Rattle.lists.specs.Tests.{case}
use Rattle.desk_lines.specs.DeskLine.{kind_of}
use Rattle.script_reading.proofs.read_kind.Goals as goal

pub returns-then-is_word : goal.returns-then-is_word
unfolding kind_of
returns-then-is_word c = rw (sym c.is_word.ensures ∙ c.if-is_word.true)

pub returns : goal.returns
unfolding kind_of
returns c =
    rw (c.then_some.ensures, sym c.is_word.ensures ∙ c.if-is_word.false, sym c.is_word-2.ensures)
    (case c.is_word-2.result (λ t. rw t) (λ t. rw t))
