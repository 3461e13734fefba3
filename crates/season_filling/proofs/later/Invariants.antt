-- `season_filling::later` meets its contract: each turn adds its lines to the page and takes them from what is left to print.
-- Assumes nothing.
use lib.ListN.{length}
use Rattle.paging.specs.PageFilling.{Filling}
use Rattle.scheduler.specs.Model.{view}
use Rattle.kept_calls.specs.KeptPoints.{KeptBeside}
use Rattle.script_writing.specs.AnswerText.{page_bytes}
use Rattle.season_reading.specs.Meaning.{Reads}
use Rattle.season_rules.specs.Season.{turns_left}
use Rattle.season_play.specs.Places.{place, going, season_of}
use Rattle.season_play.specs.SeasonPlayer.{season_player}
use Rattle.season_filling.proofs.later.Given as goal

abbrev pub invariant-loop-end : goal.invariant-loop-end
invariant-loop-end l =
    Filling (season_player l.list) page_bytes (place (going l.initial.at l.initial.above l.initial.highest l.initial.d) l.initial.arrivals l.initial.actuals) (length l.initial.page) l.page l.end (place (going l.at l.above l.highest l.d) l.arrivals l.actuals)
    × KeptBeside (view l.d) l.count l.points l.free l.low l.high × Reads l.list l.at l.above l.ahead

abbrev pub decreases-loop-end : goal.decreases-loop-end
decreases-loop-end l =
    turns_left (season_of l.list (place (going l.at l.above l.highest l.d) l.arrivals l.actuals))
