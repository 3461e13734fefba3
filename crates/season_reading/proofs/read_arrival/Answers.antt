-- `season_reading::read_arrival` meets its contract: four numbers, and no field after them.
-- Assumes nothing.
use mathlib.Core.Option.{none, some}
use Rattle.script_reading.specs.LineReading.{up_to_end, up_to_nothing, up_to_next}
use Rattle.season_reading.specs.ArrivalFields.{actual_with, estimate_with, nodes_with, minute_with, lists_row}
use Rattle.season_reading.proofs.read_arrival.Goals as goal

pub returns-in_default : goal.returns-in_default
returns-in_default c = rw c.malformed.ensures
    (lists_row _ _ none _ (up_to_nothing _ c.number_at-a.ensures minute_with c.in_default.is))

pub returns-in_default-said : goal.returns-in_default-said
returns-in_default-said c =
    rw c.malformed-in_default-said.ensures
    (lists_row _ _ none _
    (up_to_next _ c.number_at-a.ensures minute_with c.in-Some.is
    (up_to_nothing _ c.number_after-b.ensures (nodes_with c.in-Some.minute) c.in_default-said.is)))

pub returns-in_default-said-2 : goal.returns-in_default-said-2
returns-in_default-said-2 c =
    rw c.malformed-in_default-said-2.ensures
    (lists_row _ _ none _
    (up_to_next _ c.number_at-a.ensures minute_with c.in-Some.is
    (up_to_next _ c.number_after-b.ensures (nodes_with c.in-Some.minute) c.in-Some-said.is
    (up_to_nothing _ c.number_after-c.ensures (estimate_with c.in-Some.minute c.in-Some-said.nodes) c.in_default-said-2.is))))

pub returns-in_default-said-3 : goal.returns-in_default-said-3
returns-in_default-said-3 c =
    rw c.malformed-in_default-said-3.ensures
    (lists_row _ _ none _
    (up_to_next _ c.number_at-a.ensures minute_with c.in-Some.is
    (up_to_next _ c.number_after-b.ensures (nodes_with c.in-Some.minute) c.in-Some-said.is
    (up_to_next _ c.number_after-c.ensures (estimate_with c.in-Some.minute c.in-Some-said.nodes) c.in-Some-said-2.is
    (up_to_nothing _ c.number_after-d.ensures (actual_with c.in-Some.minute c.in-Some-said.nodes c.in-Some-said-2.estimate)
    c.in_default-said-3.is)))))

pub returns : goal.returns
returns c =
    let r = c.number_after-d.ensures in
    lists_row _ _ (some _) _
    (up_to_next _ c.number_at-a.ensures minute_with c.in-Some.is
    (up_to_next _ c.number_after-b.ensures (nodes_with c.in-Some.minute) c.in-Some-said.is
    (up_to_next _ c.number_after-c.ensures (estimate_with c.in-Some.minute c.in-Some-said.nodes) c.in-Some-said-2.is
    (up_to_next _ r (actual_with c.in-Some.minute c.in-Some-said.nodes c.in-Some-said-2.estimate) c.in-Some-said-3.is
    (up_to_end _ _ _ (r.ends _ c.in-Some-said-3.is))))))
