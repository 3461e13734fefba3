-- `season_turns::by_line` meets its contract.
-- Assumes nothing.
use mathlib.Core.Path.{◌≡◌, sym, ap, ◌∙◌}
use mathlib.Core.Bool.{true, false}
use borrow.Author.Tests.{le-leb, lt-leb}
use Rattle.scheduler.specs.Answers.{accepts}
use Rattle.season_rules.specs.Season.{arrival_refusal}
use Rattle.season_turns.proofs.by_line.Goals as goal

pub returns-then-a-clock : goal.returns-then-a-clock
returns-then-a-clock c =
    let t : accepts (arrival_refusal _ _) ≡ true = sym (ap accepts c.arrival_refusal-reason.ensures) ∙ sym c.is_none.ensures ∙ c.if-is_none.true in
    rw (c.in-Is.is, t, le-leb _ _ c.if-a-clock.true)

pub returns-then-is_none : goal.returns-then-is_none
returns-then-is_none c =
    let t : accepts (arrival_refusal _ _) ≡ true = sym (ap accepts c.arrival_refusal-reason.ensures) ∙ sym c.is_none.ensures ∙ c.if-is_none.true in
    rw (c.in-Is.is, t, lt-leb _ _ c.if-a-clock.false)

pub returns-then-live : goal.returns-then-live
returns-then-live c = rw (c.in-None.is, c.if-live.true)

pub returns-else-is_none : goal.returns-else-is_none
returns-else-is_none c =
    let t : accepts (arrival_refusal _ _) ≡ false = sym (ap accepts c.arrival_refusal-reason.ensures) ∙ sym c.is_none.ensures ∙ c.if-is_none.false in
    rw (c.in-Is.is, t, c.arrival_refusal-reason.ensures)

pub returns-in-Malformed : goal.returns-in-Malformed
returns-in-Malformed c = rw c.in-Malformed.is

pub returns-else-live : goal.returns-else-live
returns-else-live c = rw (c.in-None.is, c.if-live.false)
