-- Where the limits of a season lie, computed from the definitions: document 02, No. 6.
-- Assumes nothing.
use Rattle.std.specs.Prelude.{◌≡◌, refl, ℕ, replicate}
use mathlib.Core.List.{List, [], ◌∷◌, flat_map}
use Prim.Native.String.{String}
use Rattle.scheduler.specs.declared.Kind.TheVariants.{Easy}
use Rattle.scheduler.specs.Answers.{verdict}
use Rattle.scheduler.specs.Settings as times
use Rattle.scheduler.specs.Refusals as refusals
use Rattle.easy_rules.specs.Easy as easy
use Rattle.text.specs.Fields.{fields_of}
use Rattle.text.specs.Numbers as numbers
use Rattle.text.specs.Quoted.{text_of}
use Rattle.desk_lines.specs.Lines.{lines_of}
use Rattle.script_rules.specs.Writing as writing
use Rattle.season_rules.specs.Reading as reading
use Rattle.season_rules.specs.Season as season
use Rattle.season_rules.specs.Season.{Season, played, remaining, beginning}

-- a season of EASY on 64 nodes that stands in a minute, with this many lines done with and these left
abbrev standing : (clock above : ℕ) → List String → Season
standing c k ls = record {
  model = record { settings = (reading.opening_with Easy 64 0 10).settings; clock = c; next = 1; jobs = [] };
  lines = lines_of (text_of ls);
  above = k;
  highest = 0;
  arrivals = [];
  actuals = [];
}

pub boundaries :
    -- "An arrival past the last minute is refused by 6", ahead of intake's checks; one in the last minute is played, and intake refuses it
    (remaining (standing 999999 0 ("1000000 0 5 1" ∷ "1000000 1 5 1" ∷ "1000001 0 5 1" ∷ [])) ≡ text_of ("no 1" ∷ "no 6" ∷ "no 6" ∷ []))
    -- "at most 4,096 lines [..]; further lines are refused by 9": one that lacks the form, the 4,096th and the 4,097th; none is counted at first
    × (remaining (standing 0 4094 ("x" ∷ "0 1 5 5" ∷ "0 1 5 5" ∷ [])) ≡ text_of ("no 9" ∷ "no 9" ∷ "1 0 50" ∷ []))
    × ((beginning (standing 0 0 []).model []).above ≡ 0)
    -- "all as house A with 63 places": of 64 lines the last is refused, and 63 jobs start
    × (played 64 (standing 0 0 (replicate 64 "0 1 5 5")) ≡ text_of ("no 15" ∷ []))
unfolding
    flat_map
    played
    season.turn_of
    season.turns_left
    season.text_of
    season.row
    season.arrival_refusal
    reading.arrival_in
    fields_of
    numbers.digits_from
    numbers.number_of
    numbers.decimal_by
    numbers.decimal_of
    lines_of
    writing.no_row
    verdict
    times.longest
    times.cleanup
    times.run_time
    times.hold_time
    times.end_of
    times.unit
    times.until
    refusals.depart_refusal
    refusals.tick_refusal
    easy.shadow
    easy.extra
    easy.qualifies
    easy.pick
    easy.settle
    easy.forecast
    easy.finished
    easy.submit_refusal
    easy.advanced
    easy.call
boundaries = (refl, refl, refl, refl)
