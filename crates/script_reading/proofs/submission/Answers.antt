-- `script_reading::submission` meets its contract: two numbers, and then a letter, or a number and a letter.
-- Assumes nothing.
use mathlib.Core.Path.{sym, ◌∙◌}
use Rattle.script_reading.specs.LineReading.{up_to_end, up_to_next, up_to_as}
use Rattle.script_reading.specs.CommandFields.{last, order_for, minutes_with, nodes_with, by_letter, by_number}
use Rattle.script_reading.proofs.submission.Goals as goal

pub returns-in_default-said-2 : goal.returns-in_default-said-2
returns-in_default-said-2 c =
    up_to_next _ c.number_after-a.ensures nodes_with c.in-Some.is
    (up_to_next _ c.number_after-b.ensures (minutes_with c.in-Some.nodes) c.in-Some-said.is
    (up_to_as _ (by_number _ _ _ (sym c.capital_after-h.ensures.says ∙ c.in_default-said-2.is)) c.submission_between.ensures))

pub returns : goal.returns
returns c =
    let r = c.capital_after-h.ensures in
    rw c.order.ensures
    (up_to_next _ c.number_after-a.ensures nodes_with c.in-Some.is
    (up_to_next _ c.number_after-b.ensures (minutes_with c.in-Some.nodes) c.in-Some-said.is
    (up_to_as _ (by_letter _ _ _ (sym r.says ∙ c.in-Some-said-2.is))
    (up_to_next _ r (last (order_for c.in-Some.nodes 0 c.in-Some-said.minutes)) c.in-Some-said-2.is
    (up_to_end _ _ _ (r.ends _ c.in-Some-said-2.is))))))
