-- `script_reading::submission_between` meets its contract: a number, a letter, and no field after them.
-- Assumes nothing.
use Rattle.script_reading.specs.CommandFields.{last, order_for, letter_with}
use Rattle.script_reading.specs.LineReading.{up_to_end, up_to_next}
use Rattle.script_reading.proofs.submission_between.Goals as goal

pub returns : goal.returns
returns c =
    let o = c.args in
    let r = c.capital_after-h.ensures in
    rw c.order.ensures
    (up_to_next _ c.number_after-a.ensures (letter_with o.nodes o.least) c.in-Some.is
    (up_to_next _ r (last (order_for o.nodes o.least c.in-Some.most)) c.in-Some-said.is (up_to_end _ _ _ (r.ends _ c.in-Some-said.is))))
