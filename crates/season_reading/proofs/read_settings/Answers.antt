-- `season_reading::read_settings` meets its contract.
-- Assumes nothing.
use mathlib.Core.Path.{sym, ap, ◌∙◌}
use native.Mathlib.Omega.{arith}
use lib.ListN.{length}
use borrow.Author.Tests.{eq-eqb, ne_eqb}
use Rattle.text.specs.Fields.{fields_of}
use Rattle.desk_lines.specs.DeskLine.{with_kind, kind_of}
use Rattle.script_reading.specs.Meaning.{follows, with_read}
use Rattle.season_rules.specs.Reading.{opening_in}
use Rattle.season_reading.specs.Meaning.{opening_of}
use Rattle.season_reading.proofs.read_settings.Goals as goal

pub returns-then-field_count-ne4 : goal.returns-then-field_count-ne4
unfolding opening_in
returns-then-field_count-ne4 c =
    let line = c.args.line.now in
    rw (ne_eqb (length (fields_of line)) 4 (λ e. omega (arith, c.if-field_count-ne4.true, c.field_count.ensures)))

pub returns : goal.returns
unfolding opening_in
returns c =
    let line = c.args.line.now in
    rw (
      eq-eqb (length (fields_of line)) 4 (omega (arith, c.if-field_count-ne4.false, c.field_count.ensures)),
      sym (ap kind_of c.field.ensures),
      sym c.read_kind-kind.ensures,
    )
    (c.opening.ensures
    ∙ (λ i. with_kind (follows c.read_kind-kind.result) (λ k. with_read line 3 1 (opening_of k) (omega arith) c.field_numbers.ensures i)))
