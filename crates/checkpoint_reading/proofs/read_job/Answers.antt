-- `checkpoint_reading::read_job` meets its contract.
-- Assumes nothing.
use mathlib.Core.Path.{sym, ap, ◌∙◌}
use borrow.Author.Tests.{ne_eqb}
use Rattle.text.specs.Letters.{capital_of}
use Rattle.checkpoint_rules.specs.Texts.{state_of, job_in}
use Rattle.checkpoint_reading.specs.Meaning.{state_from, given_by, record_said}
use Rattle.checkpoint_reading.proofs.read_job.Goals as goal

pub returns-then-field_count-ne12 : goal.returns-then-field_count-ne12
unfolding job_in
returns-then-field_count-ne12 c = rw (ne_eqb _ 12 (λ z. c.if-field_count-ne12.true (c.field_count.ensures ∙ z)))

pub returns : goal.returns
returns c =
    c.«record».ensures
    ∙ ap given_by (record_said c.args.line.now c.field_numbers-first.ensures
    (c.read_state-state.ensures ∙ ap (λ x. state_from (state_of x)) c.field.ensures)
    c.field_numbers-times.ensures (c.capital-house.ensures ∙ ap capital_of c.field-2.ensures) c.field_numbers-kept.ensures
    (sym c.field_count.ensures ∙ c.if-field_count-ne12.false))
