-- Seasons computed from the definitions: document 02, No. 6.
-- Assumes nothing.
use Rattle.std.specs.Prelude.{◌≡◌, refl}
use mathlib.Core.List.{List, [], ◌∷◌, flat_map}
use Prim.Native.String.{String}
use Rattle.spans.specs.Spans as spans
use Rattle.scheduler.specs.Answers.{verdict}
use Rattle.scheduler.specs.Settings as times
use Rattle.scheduler.specs.Refusals as refusals
use Rattle.scheduler.specs.Opening as opening
use Rattle.conservative_rules.specs.Conservative as conservative
use Rattle.easy_rules.specs.Easy as easy
use Rattle.text.specs.Fields.{fields_of}
use Rattle.text.specs.Numbers as numbers
use Rattle.text.specs.Quoted.{text_of}
use Rattle.text.specs.Words.{is_word}
use Rattle.desk_lines.specs.Lines.{lines_of}
use Rattle.desk_lines.specs.DeskLine as desk
use Rattle.script_rules.specs.Writing as writing
use Rattle.season_rules.specs.Reading as reading
use Rattle.season_rules.specs.Season as season
use Rattle.season_rules.specs.Season.{printout}

-- Conservative: the first job is over after 2 minutes, before its held time of 5; the second would run for 12 and is ended after its held time of
-- 10. An estimate above the longest is refused in its arrival minute, before the line below it, which arrives earlier and so does not wait.
abbrev promise_list : List String
promise_list = "promise 4 0 10" ∷ "0 4 5 2" ∷ "1 4 10 12" ∷ "1 1 11 1" ∷ "0 1 1 1" ∷ "2 0 5 1" ∷ "3 1 5 5" ∷ []

abbrev promise_prints : List String
promise_prints = "no 2" ∷ "no 17" ∷ "1 0 20" ∷ "no 1" ∷ "2 1 110" ∷ "3 9 140" ∷ []

-- EASY with 3 minutes of cleanup: the first job would run for 9 minutes and is ended after its held time of 5; its nodes are free in minute 8, when
-- the second starts, which is over after 2. All other lines are refused in minute 0, right after those above: one that lacks the form; an actual
-- run length of 0; 17 before 18; 17 by a line that is not the last above; 18 before 6; an arrival past the last minute.
abbrev loose_list : List String
loose_list = "loose 2 3 20" ∷ "0 2 5 9" ∷ "0 1 10 2" ∷ "x" ∷ "1 1 5 0" ∷ "0 1 5 0" ∷ "0 1 5 1" ∷ "1000001 1 5 0" ∷ "1000001 1 5 1" ∷ []

abbrev loose_prints : List String
loose_prints = "no 9" ∷ "no 18" ∷ "no 17" ∷ "no 17" ∷ "no 18" ∷ "no 6" ∷ "1 0 50" ∷ "2 8 100" ∷ []

pub season_computed : (printout (text_of promise_list) ≡ text_of promise_prints) × (printout (text_of loose_list) ≡ text_of loose_prints)
unfolding
    flat_map
    printout
    season.played
    season.turn_of
    season.turns_left
    season.text_of
    season.row
    season.arrival_refusal
    reading.opening_in
    reading.arrival_in
    fields_of
    is_word
    numbers.digits_from
    numbers.number_of
    numbers.decimal_by
    numbers.decimal_of
    lines_of
    desk.kind_of
    writing.no_row
    opening.opening
    opening.opening_refusal
    verdict
    times.longest
    times.cleanup
    times.run_time
    times.hold_time
    times.end_of
    times.unit
    times.until
    refusals.depart_refusal
    refusals.tick_refusal
    spans.takes
    spans.last_end
    spans.fits
    spans.earliest
    spans.changes
    spans.points
    spans.profile
    conservative.planned
    conservative.submit_refusal
    conservative.submitted
    conservative.advanced
    conservative.pass
    conservative.passes
    conservative.compressed
    conservative.departed
    conservative.ticked
    conservative.call
    easy.shadow
    easy.extra
    easy.qualifies
    easy.pick
    easy.settle
    easy.forecast
    easy.finished
    easy.submit_refusal
    easy.advanced
    easy.call
season_computed = (refl, refl)
