-- `script_reading::read_first` meets its contract.
-- Assumes nothing.
use mathlib.Core.Path.{sym, ap, ◌∙◌}
use native.Mathlib.Omega.{arith}
use Rattle.desk_lines.specs.DeskLine.{desk_word, with_kind, kind_of, opening_in}
use Rattle.script_reading.specs.Meaning.{follows, form_said, opening_of, with_read}
use Rattle.script_reading.proofs.read_first.Goals as goal

pub returns : goal.returns
unfolding opening_in
returns c =
    let line = c.args.line.now in
    rw (
      form_said line 8 desk_word c.field_count-count.ensures c.field-first.ensures c.has_form.ensures c.if-not-has_form.false,
      sym (ap kind_of c.field.ensures),
      sym c.read_kind-kind.ensures,
    )
    (c.opening.ensures
    ∙ (λ i. with_kind (follows c.read_kind-kind.result) (λ k. with_read line 6 2 (opening_of k) (omega arith) c.field_numbers.ensures i)))

pub returns-then-not-has_form : goal.returns-then-not-has_form
unfolding opening_in
returns-then-not-has_form c =
    let line = c.args.line.now in
    rw (form_said line 8 desk_word c.field_count-count.ensures c.field-first.ensures c.has_form.ensures c.if-not-has_form.true)
