-- `season_filling::first` meets its contract, by how the list begins.
-- Assumes nothing.
use mathlib.Core.Path.{sym}
use native.Mathlib.Omega.{arith}
use lib.Seq.{length-take-le}
use Rattle.text.specs.LineLaws.{begins_at}
use Rattle.paging.specs.Players.{turned_as, turned_none}
use Rattle.script_turns.specs.FirstTurn.{first_by, first_line}
use Rattle.season_rules.specs.Reading.{longest_list, opening_in}
use Rattle.season_play.specs.Places.{place, closed}
use Rattle.season_play.specs.SeasonPlayer.{starts}
use Rattle.season_filling.proofs.first.Goals as goal

-- the first line ends inside the list
pub slice_bounds-read_settings-end : goal.slice_bounds-read_settings-end
slice_bounds-read_settings-end c =
    let inside = begins_at longest_list _ c.first_line-begins.ensures c.in-Line.is in sym (length-take-le _ _ (omega (arith, inside)))

pub overflow_add-end : goal.overflow_add-end
overflow_add-end c = omega (arith, begins_at longest_list c.args.list.now c.first_line-begins.ensures c.in-Line.is)

pub returns-in-Nothing : goal.returns-in-Nothing
returns-in-Nothing c xs ys =
    let p = place c.args.p xs ys in
    turned_as (first_by (closed p) (starts p) opening_in longest_list _ c.first_line-begins.ensures c.in-Nothing.is) (turned_none _ _ _ _)

pub returns-in-Malformed : goal.returns-in-Malformed
returns-in-Malformed c xs ys =
    let p = place c.args.p xs ys in
    turned_as (first_by (closed p) (starts p) opening_in longest_list _ c.first_line-begins.ensures
    c.in-Malformed.is) (c.refuse.ensures xs ys)

pub returns-in-Line : goal.returns-in-Line
returns-in-Line c xs ys =
    let p = place c.args.p xs ys in
    turned_as (first_line (closed p) (starts p) opening_in longest_list _ c.first_line-begins.ensures c.in-Line.is c.read_settings-asked.ensures)
    (c.«open».ensures xs ys)
