-- `script_turns::open` meets its contract.
-- Assumes nothing.
use mathlib.Core.Path.{sym, ◌∙◌}
use Rattle.paging.specs.Players.{turned_as, turned_none}
use Rattle.script_play.specs.Pieces.{starts}
use Rattle.script_turns.specs.FirstTurn.{opening_takes, opening_refuses}
use Rattle.script_turns.proofs.open.Goals as goal

pub returns-then-is_none : goal.returns-then-is_none
returns-then-is_none c =
    turned_as (opening_takes _ starts _ _ _ _ c.in-Some.is c.open-opened.ensures
    (sym c.is_none.ensures ∙ c.if-is_none.true)) (turned_none _ _ _ _)

pub returns-else-is_none : goal.returns-else-is_none
returns-else-is_none c =
    turned_as (opening_refuses _ starts _ _ _ _ c.in-Some.is
    c.open-opened.ensures
    (sym c.is_none.ensures ∙ c.if-is_none.false)) c.refuse.ensures
