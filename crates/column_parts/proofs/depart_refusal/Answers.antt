-- `column_parts::depart_refusal` meets its contract: by the state, then by the least.
-- Assumes nothing.
use mathlib.Core.Path.{sym, ◌∙◌}
use borrow.Author.Tests.{eq-eqb, ne_eqb}
use Rattle.column_parts.proofs.depart_refusal.Goals as goal

pub returns-then-is_early : goal.returns-then-is_early
returns-then-is_early c =
    rw (eq-eqb _ _ (c.if-state-leaves_from.true ∙ c.leaves_from.ensures), sym c.is_early.ensures ∙ c.if-is_early.true)

pub returns-then-state-leaves_from : goal.returns-then-state-leaves_from
returns-then-state-leaves_from c =
    rw (eq-eqb _ _ (c.if-state-leaves_from.true ∙ c.leaves_from.ensures), sym c.is_early.ensures ∙ c.if-is_early.false)

pub returns : goal.returns
returns c =
    rw (ne_eqb _ _ (λ e. c.if-state-leaves_from.false (e ∙ sym c.leaves_from.ensures))) c.not_there.ensures
