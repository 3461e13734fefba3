-- `text::word_at` meets its contract: the tab is sought where it would be, and then the word before it.
-- Assumes nothing.
use mathlib.Core.Path.{sym, ◌∙◌}
use native.Mathlib.Omega.{arith}
use Rattle.text.specs.LineFieldLaws.{begins_not, begins_past, begins_word}
use Rattle.text.proofs.word_at.Goals as goal

pub returns-then-text-at : goal.returns-then-text-at
returns-then-text-at c =
    let a = c.args in
    sym (begins_past a.word.now a.text.now a.at (omega arith))

pub returns-then-text-at-2 : goal.returns-then-text-at-2
returns-then-text-at-2 c =
    let a = c.args in
    sym (begins_past a.word.now a.text.now a.at (omega arith))

pub returns-then-text-end-ne-TAB : goal.returns-then-text-end-ne-TAB
returns-then-text-end-ne-TAB c =
    let a = c.args in
    sym (begins_not a.word.now a.text.now a.at c.if-text-end-ne-TAB.true)

pub returns : goal.returns
returns c =
    let a = c.args in
    c.is_word.ensures ∙ sym (begins_word a.word.now a.text.now a.at (omega (arith, c.if-text-end-ne-TAB.false)))
