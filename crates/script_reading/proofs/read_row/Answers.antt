-- `script_reading::read_row` meets its contract: the words are tried one after the other.
-- Assumes nothing.
use mathlib.Core.Path.{refl, sym, ◌∙◌}
use native.Mathlib.Omega.{arith}
use Rattle.text.specs.LineFieldLaws.{begun}
use Rattle.script_rules.specs.Reading.{in_word, end_word, wait_word, drop_word}
use Rattle.script_reading.specs.LineReading.{up_to_nothing_at, up_to_word}
use Rattle.script_reading.specs.CommandFields.{says_in, says_end, says_wait, says_drop, says_nothing}
use Rattle.script_reading.proofs.read_row.Goals as goal

pub overflow_add-at : goal.overflow_add-at
overflow_add-at c = omega (arith, (begun in_word c.args.script.now c.args.at refl (sym c.word_at.ensures ∙ c.if-word_at.true)).within)

pub returns-then-word_at : goal.returns-then-word_at
returns-then-word_at c =
    let there = begun in_word _ _ refl (sym c.word_at.ensures ∙ c.if-word_at.true) in up_to_word _ in_word there (says_in _ _ there.fields_are) c.submission.ensures

pub overflow_add-at-then-word_at-2 : goal.overflow_add-at-then-word_at-2
overflow_add-at-then-word_at-2 c = omega (arith, (begun end_word c.args.script.now c.args.at refl (sym c.word_at-2.ensures ∙ c.if-word_at-2.true)).within)

pub returns-then-word_at-2 : goal.returns-then-word_at-2
returns-then-word_at-2 c =
    let there = begun end_word _ _ refl (sym c.word_at-2.ensures ∙ c.if-word_at-2.true) in up_to_word _ end_word there (says_end _ _ there.fields_are) c.departure.ensures

pub overflow_add-at-then-word_at-3 : goal.overflow_add-at-then-word_at-3
overflow_add-at-then-word_at-3 c = omega (arith, (begun wait_word c.args.script.now c.args.at refl (sym c.word_at-3.ensures ∙ c.if-word_at-3.true)).within)

pub returns-then-word_at-3 : goal.returns-then-word_at-3
returns-then-word_at-3 c =
    let there = begun wait_word _ _ refl (sym c.word_at-3.ensures ∙ c.if-word_at-3.true) in up_to_word _ wait_word there (says_wait _ _ there.fields_are) c.waiting.ensures

pub overflow_add-at-then-word_at-4 : goal.overflow_add-at-then-word_at-4
overflow_add-at-then-word_at-4 c = omega (arith, (begun drop_word c.args.script.now c.args.at refl (sym c.word_at-4.ensures ∙ c.if-word_at-4.true)).within)

pub returns-then-word_at-4 : goal.returns-then-word_at-4
returns-then-word_at-4 c =
    let there = begun drop_word _ _ refl (sym c.word_at-4.ensures ∙ c.if-word_at-4.true) in up_to_word _ drop_word there (says_drop _ _ there.fields_are) c.departure-then-word_at-4.ensures

pub returns : goal.returns
returns c =
    rw c.malformed.ensures
    (up_to_nothing_at _
    (says_nothing _
    (sym c.word_at.ensures ∙ c.if-word_at.false)
    (sym c.word_at-2.ensures ∙ c.if-word_at-2.false)
    (sym c.word_at-3.ensures ∙ c.if-word_at-3.false)
    (sym c.word_at-4.ensures ∙ c.if-word_at-4.false)))
