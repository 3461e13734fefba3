-- Document 02, No. 11, computed from the definitions: for each condition, in the order of its sentences, a text that meets it just so and is accepted,
-- and one that breaks it by one and is refused by 23. Then what is refused by 22, also where a condition is broken.
-- Assumes nothing.
use Rattle.std.specs.Prelude.{◌≡◌, refl, true, ◌&&◌, ℕ, eqb}
use mathlib.Core.List.{List, [], ◌∷◌, ◌++◌, flat_map}
use Prim.Native.String.{String}
use Rattle.lists.specs.Every.{every}
use Rattle.text.specs.Fields.{fields_of}
use Rattle.text.specs.Letters as letters
use Rattle.text.specs.Numbers as numbers
use Rattle.text.specs.Quoted.{fields, text_of}
use Rattle.text.specs.Words.{is_word}
use Rattle.spans.specs.Spans as spans
use Rattle.scheduler.specs.Settings as times
use Rattle.scheduler.specs.Answers.{code}
use Rattle.easy_rules.specs.Easy as easy
use Rattle.desk_lines.specs.Lines.{lines_of}
use Rattle.desk_lines.specs.DeskLine as desk
use Rattle.checkpoint_rules.specs.Acceptance as acceptance
use Rattle.checkpoint_rules.specs.Texts as texts

-- the number by which a text is refused; 0 if it is accepted
abbrev number : List ℕ → ℕ
number t = code (texts.restored t).refusal

pub record Boundary : Type 0 where
  pub just : List String
  pub past : List String

abbrev boundary : List String → List String → Boundary
boundary j p = record { just = j; past = p }

unfoldable pub boundaries : List Boundary
boundaries =
    -- "tickets ascend and lie below the next"
    boundary
    ("desk loose 5 9 2 14 60 4" ∷ "1 1 19 r 7 0 0 A 0 7 1 0" ∷ [])
    ("desk loose 5 9 1 14 60 4" ∷ "1 1 19 r 7 0 0 A 0 7 1 0" ∷ [])
    -- "all numbers, houses and shares are in range": the next ticket
    ∷ boundary
    ("desk loose 8 0 1 3 1 63" ∷ [])
    ("desk loose 8 0 0 3 1 63" ∷ [])
    -- the nodes of the machine
    ∷ boundary
    ("desk promise 1 999999 1 3 63 1" ∷ [])
    ("desk promise 0 999999 1 3 63 1" ∷ [])
    -- the clock
    ∷ boundary
    ("desk promise 5 1000000 1 1 63 1" ∷ [])
    ("desk promise 5 1000001 1 1 63 1" ∷ [])
    -- the cleanup
    ∷ boundary
    ("desk promise 4 100 61 30 63 1" ∷ [])
    ("desk promise 4 100 61 31 63 1" ∷ [])
    -- the places of both houses
    ∷ boundary
    ("desk loose 8 0 1 0 32 32" ∷ [])
    ("desk loose 8 0 1 0 31 32" ∷ [])
    -- the nodes of a job
    ∷ boundary
    ("desk loose 5 9 2 14 60 4" ∷ "1 1 19 r 7 0 0 A 0 7 1 0" ∷ [])
    ("desk loose 5 9 2 14 60 4" ∷ "1 0 19 r 7 0 0 A 0 7 1 0" ∷ [])
    -- its estimate
    ∷ boundary
    ("desk loose 1 989915 2 2 63 1" ∷ "1 1 1 c 989910 0 989915 A 0 989910 1 0" ∷ [])
    ("desk loose 1 989915 2 2 63 1" ∷ "1 1 0 c 989910 0 989915 A 0 989910 1 0" ∷ [])
    -- its house
    ∷ boundary
    ("desk loose 5 9 2 14 60 4" ∷ "1 1 19 r 7 0 0 A 0 7 1 0" ∷ [])
    ("desk loose 5 9 2 14 60 4" ∷ "1 1 19 r 7 0 0 C 0 7 1 0" ∷ [])
    -- "no house has more live than its places"
    ∷ boundary
    ("desk loose 4 12 3 5 63 1" ∷ "1 2 12 r 10 0 0 A 10 10 1 0" ∷ "2 4 44 w 0 0 0 B 0 10 1 30" ∷ [])
    ("desk loose 4 12 3 5 63 1" ∷ "1 2 12 r 10 0 0 B 10 10 1 0" ∷ "2 4 44 w 0 0 0 B 0 10 1 30" ∷ [])
    -- "least not above most"
    ∷ boundary
    ("desk promise 510 11 3 3 32 32" ∷ "2 3 2 r 11 11 0 A 2 0 0 0" ∷ [])
    ("desk promise 510 11 3 3 32 32" ∷ "2 3 1 r 11 11 0 A 2 0 0 0" ∷ [])
    -- "values a record lacks 0": an end, except in cleanup
    ∷ boundary
    ("desk loose 5 9 2 14 60 4" ∷ "1 1 19 r 7 0 0 A 0 7 1 0" ∷ [])
    ("desk loose 5 9 2 14 60 4" ∷ "1 1 19 r 7 0 1 A 0 7 1 0" ∷ [])
    -- of the Promise Desk: intake minute, r and forecast
    ∷ boundary
    ("desk loose 5 9 2 14 60 4" ∷ "1 1 19 r 7 0 0 A 0 7 1 0" ∷ [])
    ("desk promise 5 9 2 14 60 4" ∷ "1 1 19 r 7 0 0 A 0 7 1 0" ∷ [])
    -- of the Loose Desk: the promise, and a waiting start
    ∷ boundary
    ("desk loose 5 9 2 14 60 4" ∷ "1 1 19 r 7 0 0 A 0 7 1 0" ∷ [])
    ("desk loose 5 9 2 14 60 4" ∷ "1 1 19 w 7 0 0 A 0 7 1 0" ∷ [])
    -- "running stacks started by now and end after it"
    ∷ boundary
    ("desk promise 2 5 2 3 1 63" ∷ "1 2 5 r 1 1 0 B 1 0 0 0" ∷ [])
    ("desk promise 2 6 2 3 1 63" ∷ "1 2 5 r 1 1 0 B 1 0 0 0" ∷ [])
    -- "clearing ones started, then ended, by now and still hold nodes"
    ∷ boundary
    ("desk loose 5 9 2 14 60 4" ∷ "1 1 19 r 7 0 0 A 0 7 1 0" ∷ [])
    ("desk loose 5 9 2 14 60 4" ∷ "1 1 19 c 7 0 0 A 0 7 1 0" ∷ [])
    -- "Promise Desk starts lie by their promises"
    ∷ boundary
    ("desk promise 2 5 2 3 1 63" ∷ "1 2 5 r 1 1 0 B 1 0 0 0" ∷ [])
    ("desk promise 2 5 2 3 1 63" ∷ "1 2 5 r 2 1 0 B 1 0 0 0" ∷ [])
    -- "waiting ones after now"
    ∷ boundary
    ("desk promise 2 5 2 3 1 63" ∷ "1 2 5 r 1 1 0 B 1 0 0 0" ∷ [])
    ("desk promise 2 5 2 3 1 63" ∷ "1 2 5 w 1 1 0 B 1 0 0 0" ∷ [])
    -- "every minute fits the rack"
    ∷ boundary
    ("desk loose 3 7 7 0 60 4" ∷ "5 2 3 r 7 0 0 A 0 7 1 0" ∷ "6 1 1 r 7 0 0 B 0 7 1 0" ∷ [])
    ("desk loose 2 7 7 0 60 4" ∷ "5 2 3 r 7 0 0 A 0 7 1 0" ∷ "6 1 1 r 7 0 0 B 0 7 1 0" ∷ [])
    -- "every hold ends by the last minute"
    ∷ boundary
    ("desk promise 3 999980 9 0 63 1" ∷ "7 2 10 r 999976 999976 0 A 6 0 0 0" ∷ "8 1 20 r 999980 999980 0 B 0 0 0 0" ∷ [])
    ("desk promise 3 999980 9 1 63 1" ∷ "7 2 10 r 999976 999976 0 A 6 0 0 0" ∷ "8 1 20 r 999980 999980 0 B 0 0 0 0" ∷ [])
    -- "a Loose Desk is settled"
    ∷ boundary
    ("desk loose 2 11 5 0 1 63" ∷ "3 1 3 r 7 0 0 B 3 5 1 7" ∷ "4 2 8 w 0 0 0 B 0 10 1 26" ∷ [])
    ("desk loose 3 11 5 0 1 63" ∷ "3 1 3 r 7 0 0 B 3 5 1 7" ∷ "4 2 8 w 0 0 0 B 0 10 1 26" ∷ [])
    -- "with its head's forecast not before the present shadow"
    ∷ boundary
    ("desk loose 4 12 3 5 63 1" ∷ "1 2 12 r 10 0 0 A 10 10 1 0" ∷ "2 4 44 w 0 0 0 B 0 10 1 30" ∷ [])
    ("desk loose 4 12 3 6 63 1" ∷ "1 2 12 r 10 0 0 A 10 10 1 0" ∷ "2 4 44 w 0 0 0 B 0 10 1 30" ∷ [])
    -- "no other waiting one having any"
    ∷ boundary
    ("desk loose 8 12 5 1 1 63" ∷ "2 6 29 c 8 0 12 A 0 8 1 0" ∷ "3 4 18 w 0 0 0 B 0 11 1 39" ∷ "4 6 3 w 0 0 0 B 0 12 2 0" ∷ [])
    ("desk loose 8 12 5 1 1 63" ∷ "2 6 29 c 8 0 12 A 0 8 1 0" ∷ "3 4 18 w 0 0 0 B 0 11 1 39" ∷ "4 6 3 w 0 0 0 B 0 12 2 1" ∷ [])
    -- "intake minute, not after now"
    ∷ boundary
    ("desk loose 3 969760 2 0 63 1" ∷ "1 3 20 r 969760 0 0 B 9 969760 1 0" ∷ [])
    ("desk loose 3 969759 2 0 63 1" ∷ "1 3 20 r 969760 0 0 B 9 969760 1 0" ∷ [])
    -- "r at intake, 1 to 64"
    ∷ boundary
    ("desk loose 5 9 2 14 60 4" ∷ "1 1 19 r 7 0 0 A 0 7 1 0" ∷ [])
    ("desk loose 5 9 2 14 60 4" ∷ "1 1 19 r 7 0 0 A 0 7 0 0" ∷ [])
    -- "Each waiting one's last-minute rule must hold"
    ∷ boundary
    ("desk loose 3 979838 4 2 63 1" ∷ "1 1 21 r 979834 0 0 A 8 979834 1 0" ∷ "2 1 11 r 979838 0 0 A 10 979838 1 0" ∷ "3 3 1 w 0 0 0 A 0 979838 1 979861" ∷ [])
    ("desk loose 3 979838 4 2 63 1" ∷ "1 1 21 r 979834 0 0 A 8 979834 1 0" ∷ "2 1 11 r 979838 0 0 A 10 979838 1 0" ∷ "3 3 1 w 0 0 0 A 0 979838 2 979861" ∷ [])
    -- "shadow plus (10,080 + clearing) × the number waiting before it must not pass its bound"
    ∷ boundary
    ("desk loose 8 12 5 1 1 63" ∷ "2 6 29 c 8 0 12 A 0 8 1 0" ∷ "3 4 18 w 0 0 0 B 0 11 1 39" ∷ "4 6 3 w 0 0 0 B 0 12 2 0" ∷ [])
    ("desk loose 8 12 5 1 1 63" ∷ "2 6 29 c 8 0 12 A 0 8 1 0" ∷ "3 4 18 w 0 0 0 B 0 11 1 39" ∷ "4 6 3 w 0 0 0 B 0 12 1 0" ∷ [])
    ∷ []

-- each condition is just met, and just broken
pub each_boundary : every (λ (b : Boundary). eqb (number (text_of b.just)) 0 && eqb (number (text_of b.past)) 23) boundaries ≡ true
unfolding
    boundaries
    flat_map
    fields_of
    is_word
    numbers.digits_from
    numbers.number_of
    letters.capital_of
    lines_of
    desk.has_form
    desk.kind_of
    desk.opening_in
    texts.state_of
    texts.job_in
    texts.jobs_of
    texts.restored
    acceptance.desk_in_range
    acceptance.job_in_range
    acceptance.lacks_zero
    acceptance.minutes_fit
    acceptance.accepted_by
    acceptance.record_holds
    acceptance.accepted
    spans.takes
    times.longest
    times.cleanup
    times.run_time
    times.hold_time
    times.end_of
    times.unit
    times.until
    easy.shadow
    easy.extra
    easy.qualifies
    easy.pick
each_boundary = refl

-- 22: "a line lacks the form or is unclosed, or there is none .. 22 first"
unfoldable pub malformed : List (List ℕ)
malformed =
    -- there is none
    []
    -- unclosed
    ∷ fields "desk promise 10 0 1 0 63 1"
    ∷ (text_of ("desk promise 10 0 2 0 63 1" ∷ []) ++ fields "1 6 20 r 0 0 0 A 0 0 0 0")
    -- a field too few, and one too many
    ∷ text_of ("desk promise 10 0 2 0 63 1" ∷ "1 6 20 r 0 0 0 A 0 0 0" ∷ [])
    ∷ text_of ("desk promise 10 0 2 0 63 1" ∷ "1 6 20 r 0 0 0 A 0 0 0 0 0" ∷ [])
    -- a state that is none, a house in small letters, a leading zero
    ∷ text_of ("desk promise 10 0 2 0 63 1" ∷ "1 6 20 x 0 0 0 A 0 0 0 0" ∷ [])
    ∷ text_of ("desk promise 10 0 2 0 63 1" ∷ "1 6 20 r 0 0 0 a 0 0 0 0" ∷ [])
    ∷ text_of ("desk promise 10 0 2 0 63 1" ∷ "1 06 20 r 0 0 0 A 0 0 0 0" ∷ [])
    -- no `desk` line first, or a second one
    ∷ text_of ("1 6 20 r 0 0 0 A 0 0 0 0" ∷ [])
    ∷ text_of ("desk promise 10 0 2 0 63 1" ∷ "desk promise 10 0 2 0 63 1" ∷ [])
    -- a condition is broken, and a later line lacks the form
    ∷ text_of ("desk promise 0 0 2 0 63 1" ∷ "1 6 20 r 0 0 0 A 0 0 0" ∷ [])
    ∷ []

pub each_malformed : every (λ (t : List ℕ). eqb (number t) 22) malformed ≡ true
unfolding
    malformed
    flat_map
    fields_of
    is_word
    numbers.digits_from
    numbers.number_of
    letters.capital_of
    lines_of
    desk.has_form
    desk.kind_of
    desk.opening_in
    texts.state_of
    texts.job_in
    texts.jobs_of
    texts.restored
    acceptance.desk_in_range
    acceptance.job_in_range
    acceptance.lacks_zero
    acceptance.minutes_fit
    acceptance.accepted_by
    acceptance.record_holds
    acceptance.accepted
    spans.takes
    times.longest
    times.cleanup
    times.run_time
    times.hold_time
    times.end_of
    times.unit
    times.until
    easy.shadow
    easy.extra
    easy.qualifies
    easy.pick
each_malformed = refl
