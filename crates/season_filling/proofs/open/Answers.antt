-- `season_filling::open` meets its contract.
-- Assumes nothing.
use mathlib.Core.Path.{sym, ◌∙◌}
use Rattle.paging.specs.Players.{turned_as, turned_none}
use Rattle.script_turns.specs.FirstTurn.{opening_takes, opening_refuses, opening_lacks}
use Rattle.season_play.specs.Places.{place, closed}
use Rattle.season_play.specs.SeasonPlayer.{starts}
use Rattle.season_filling.proofs.open.Goals as goal

pub returns-then-is_none : goal.returns-then-is_none
returns-then-is_none c xs ys =
    let p = place c.args.p xs ys in
    turned_as (opening_takes (closed p) (starts p) _ _ _ _ c.in-Some.is c.open-opened.ensures
    (sym c.is_none.ensures ∙ c.if-is_none.true)) (turned_none _ _ _ _)

pub returns-else-is_none : goal.returns-else-is_none
returns-else-is_none c xs ys =
    let p = place c.args.p xs ys in
    turned_as (opening_refuses (closed p) (starts p) _ _ _ _ c.in-Some.is
    c.open-opened.ensures
    (sym c.is_none.ensures ∙ c.if-is_none.false)) (c.refuse.ensures xs ys)

pub returns-in-None : goal.returns-in-None
returns-in-None c xs ys =
    let p = place c.args.p xs ys in
    turned_as (opening_lacks (closed p) (starts p) _ _ c.in-None.is) (c.refuse-in-None.ensures xs ys)
