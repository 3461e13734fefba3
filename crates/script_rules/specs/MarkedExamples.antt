-- The items that document 01 marks (m), as the rows of one table, checked by one theorem that is computed from the definitions.
-- Assumes nothing.
use Rattle.std.specs.Prelude.{◌≡◌, refl, cond, ℕ, eqb, drop}
use mathlib.Core.List.{List, [], ◌∷◌, map, flat_map}
use Rattle.std.proofs.Math.Option.{Option, none, some}
use Prim.Native.String.{String}
use Rattle.lists.specs.Lists.{All}
use Rattle.spans.specs.Spans as spans
use Rattle.walltime.specs.WallTime.{wall_time}
use Rattle.scheduler.specs.declared.Kind.{Kind}
use Rattle.scheduler.specs.declared.Kind.TheVariants.{Conservative, Easy}
use Rattle.scheduler.specs.Answers.{Forecast, code, verdict}
use Rattle.scheduler.specs.Settings as times
use Rattle.scheduler.specs.Refusals as refusals
use Rattle.scheduler.specs.Model.{Model}
use Rattle.scheduler.specs.Opening as opening
use Rattle.history.specs.Calls.{Command, ask, submit, order, Event, events, after, all_calls}
use Rattle.conservative_rules.specs.Conservative as conservative
use Rattle.easy_rules.specs.Easy as easy
use Rattle.guarantees.specs.Rules.{call}
use Rattle.text.specs.Letters as letters
use Rattle.text.specs.Fields.{fields_of}
use Rattle.text.specs.Numbers as numbers
use Rattle.text.specs.Quoted.{text_of}
use Rattle.text.specs.Words.{is_word}
use Rattle.desk_lines.specs.Lines.{lines_of}
use Rattle.desk_lines.specs.DeskLine as desk
use Rattle.script_rules.specs.Reading as reading
use Rattle.script_rules.specs.Writing as writing
use Rattle.script_rules.specs.Printout as script

-- an answer in numbers: the refusal's number; ticket and promise; tickets ended; tickets started; the new head and its forecast
pub record Said : Type 0 where
  pub number : ℕ
  pub took : List ℕ
  pub over : List ℕ
  pub start : List ℕ
  pub head : List ℕ

abbrev headed : Option Forecast → List ℕ
headed none = []
headed (some f) = f.ticket ∷ f.minute ∷ []

abbrev taken : ℕ → ℕ → List ℕ
taken t p = cond (eqb t 0) [] (t ∷ p ∷ [])

abbrev said : Event → Said
said e = record {
  number = code e.reply.refusal;
  took = taken e.reply.ticket e.reply.promise;
  over = e.reply.ended;
  start = e.reply.started;
  head = headed e.reply.head;
}

-- a machine of 10 nodes at minute 0, with ticket 1
abbrev fresh : Kind → Model
fresh k = opening.opening (record {
  settings = record { kind = k; nodes = 10; cleanup = 0; quota_a = 63; quota_b = 1; longest = 10080 };
  minute = 0;
  ticket = 1;
})

-- what a list of commands is answered
abbrev play : Kind → List Command → List Said
play k qs = map said (events call (fresh k) (all_calls call (fresh k) qs))

-- "after `in 6 20` and `in 8 10`": the answers to what comes then, and to one submission more
abbrev next : Kind → List Command → List Said
next k qs = drop 2 (play k (ask (submit (order 6 20)) ∷ ask (submit (order 8 10)) ∷ qs))

abbrev third : Kind → ℕ → ℕ → List Said
third k n e = next k (ask (submit (order n e)) ∷ [])

-- the scheduler after some submissions
abbrev with_jobs_of : List Command → Model
with_jobs_of qs = after call (fresh Easy) (all_calls call (fresh Easy) qs)

pub data Value : Type 0 where
  number : ℕ → Value
  answers : List Said → Value
  bytes : List ℕ → Value

pub record Row : Type 0 where
  pub got : Value
  pub want : Value

abbrev gives : ℕ → ℕ → Row
gives x y = record { got = number x; want = number y }

abbrev answered : List Said → List Said → Row
answered x y = record { got = answers x; want = answers y }

abbrev took : List ℕ → List ℕ → List ℕ → Said
took t s h = record { number = 0; took = t; over = []; start = s; head = h }

-- the day sheet of the example, with document 02's fields, and what it prints
abbrev sheet : List String
sheet = "desk promise 10 0 1 0 63 1" ∷ "in 6 20 A" ∷ "in 8 10 A" ∷ "in 4 25 A" ∷ "end 1" ∷ "wait 30" ∷ []

abbrev sheet_prints : List String
sheet_prints = "took 1 0" ∷ "start 1 0" ∷ "took 2 20" ∷ "took 3 30" ∷ "over 1 0" ∷ "start 2 0" ∷ "over 2 10" ∷ "start 3 10" ∷ []

unfoldable pub rows : List Row
rows =
    -- "1 gives 5; 120 gives 120; 121 gives 130; 481 gives 510"
    gives (wall_time 1) 5
    ∷ gives (wall_time 120) 120
    ∷ gives (wall_time 121) 130
    ∷ gives (wall_time 481) 510
    -- "Promise: `in 4 20` starts at 0. `in 4 21` is held 25 and gets 30": then one that needs all 10 nodes gets 55
    ∷ answered (third Conservative 4 20) (took (3 ∷ 0 ∷ []) (3 ∷ []) [] ∷ [])
    ∷ gives (wall_time 21) 25
    ∷ answered
    (next Conservative (ask (submit (order 4 21)) ∷ ask (submit (order 10 1)) ∷ []))
    (took (3 ∷ 30 ∷ []) [] [] ∷ took (4 ∷ 55 ∷ []) [] [] ∷ [])
    -- "Loose: the head's forecast is 20, extra 2."
    ∷ answered (play Easy (ask (submit (order 6 20)) ∷ ask (submit (order 8 10)) ∷ [])) (took (1 ∷ 0 ∷ []) (1 ∷ []) [] ∷ took (2 ∷ 0 ∷ []) [] (2 ∷ 20 ∷ []) ∷ [])
    ∷ gives (easy.extra (with_jobs_of (ask (submit (order 6 20)) ∷ ask (submit (order 8 10)) ∷ [])) 8) 2
    -- "`in 4 20` starts by (i); `in 2 100` by (ii); `in 3 21` waits."
    ∷ answered (third Easy 4 20) (took (3 ∷ 0 ∷ []) (3 ∷ []) [] ∷ [])
    ∷ answered (third Easy 2 100) (took (3 ∷ 0 ∷ []) (3 ∷ []) [] ∷ [])
    ∷ answered (third Easy 3 21) (took (3 ∷ 0 ∷ []) [] [] ∷ [])
    -- "Loose, rack of 10, running 5 and 3 nodes, both to 20, head needing 4: extra is 6, not 3."
    ∷ gives (easy.extra (with_jobs_of (ask (submit (order 5 20)) ∷ ask (submit (order 3 20)) ∷ ask (submit (order 4 20)) ∷ [])) 4) 6
    -- "Input .. prints exactly", byte for byte
    ∷ record { got = bytes (script.printout (text_of sheet)); want = bytes (text_of sheet_prints) }
    ∷ []

pub marked : All (λ (r : Row). r.got ≡ r.want) rows
unfolding
    rows
    flat_map
    fields_of
    is_word
    numbers.digits_from
    numbers.number_of
    letters.capital_of
    numbers.decimal_by
    numbers.decimal_of
    lines_of
    desk.has_form
    desk.kind_of
    desk.opening_in
    reading.command_in
    writing.row
    writing.no_row
    writing.rows_of
    writing.taken
    writing.text_of
    script.printed_all
    script.played
    script.printout
    opening.opening
    opening.opening_refusal
    verdict
    times.longest
    times.cleanup
    times.run_time
    times.hold_time
    times.end_of
    times.unit
    times.until
    refusals.depart_refusal
    refusals.tick_refusal
    refusals.wait_refusal
    spans.takes
    spans.last_end
    spans.fits
    spans.earliest
    spans.changes
    spans.points
    spans.profile
    conservative.planned
    conservative.submit_refusal
    conservative.submitted
    conservative.advanced
    conservative.pass
    conservative.passes
    conservative.compressed
    conservative.departed
    conservative.ticked
    conservative.call
    easy.shadow
    easy.extra
    easy.qualifies
    easy.pick
    easy.settle
    easy.forecast
    easy.finished
    easy.submit_refusal
    easy.advanced
    easy.call
marked = (refl, (refl, (refl, (refl, (refl, (refl, (refl, (refl, (refl, (refl, (refl, (refl, (refl, (refl, tt))))))))))))))
