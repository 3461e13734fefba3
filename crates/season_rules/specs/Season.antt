-- The printout of a season, for every list. Document 02, No. 6: "It plays them through either desk from minute 0 and ticket 1 until lines and
-- live stacks are all gone [...]. In each minute come the step (from minute 1), then ends at true length in ticket order, then arrivals in list
-- order."
-- Assumes nothing.
use Rattle.std.specs.Prelude.{Bool, true, false, not, cond, ◌&&◌, List, [], ◌∷◌, ◌++◌, ℕ, zero, suc, ◌+◌, ◌-◌, ◌*◌, ◌/◌, min, max, eqb, leb, ltb, length, get_or}
use Rattle.std.proofs.Math.Option.{Option, none, some}
use Rattle.lists.specs.Tests.{on}
use Rattle.lists.specs.Lists.{keep, first, elem, sum}
use Rattle.text.specs.Numbers.{decimal_of}
use Rattle.scheduler.specs.declared.Job.{Job}
use Rattle.scheduler.specs.declared.Refusal.{Refusal}
use Rattle.scheduler.specs.declared.Refusal.TheVariants as refusal
use Rattle.scheduler.specs.declared.Submission.{Submission}
use Rattle.scheduler.specs.Limits.{horizon}
use Rattle.scheduler.specs.Settings.{run_time}
use Rattle.scheduler.specs.Jobs.{is_running, is_cleaning}
use Rattle.scheduler.specs.Model.{Model}
use Rattle.scheduler.specs.Answers.{Reply, Result, accepts, code, verdict}
use Rattle.history.specs.Calls.{submit, order, complete, tick}
use Rattle.guarantees.specs.Rules.{call}
use Rattle.desk_lines.specs.Lines.{Line}
use Rattle.script_rules.specs.Writing.{no_row}
use Rattle.desk_lines.specs.DeskLine.{and_field}
use Rattle.script_rules.specs.Printout.{printout_by}
use Rattle.season_rules.specs.declared.Arrival.{Arrival}
use Rattle.season_rules.specs.Reading.{longest_list, most_lines, opening_of, arrival_of}

-- Where a season stands.
pub record Season : Type 0 where
  pub model : Model
  -- the lines still to be done with
  pub lines : List Line
  -- how many are done with, counted up to 4,096, and the highest arrival of those that have the form
  pub above : ℕ
  pub highest : ℕ
  -- of the jobs taken in, in the order of their tickets, which are 1 and up: the minute of arrival, and the actual run length
  pub arrivals : List ℕ
  pub actuals : List ℕ

-- by a ticket
abbrev pub of_ticket : List ℕ → ℕ → ℕ
of_ticket xs t = get_or xs (t - 1) 0

-- ## What is printed

module _ (s : Season) (j : Job) where
  abbrev pub actual : ℕ
  actual = of_ticket s.actuals j.ticket

  -- for how long the scheduler lets it run
  abbrev pub planned : ℕ
  planned = run_time s.model.settings j.estimate

  -- "Run is the true length or the held time, whichever is less."
  abbrev pub run : ℕ
  run = min actual planned

  abbrev pub wait : ℕ
  wait = j.start - of_ticket s.arrivals j.ticket

-- "bounded slowdown from document 001, with ten minutes as threshold: (wait + run) × 100, divided by the larger of run and 10, rounded down"
abbrev pub slowdown : (wait run : ℕ) → ℕ
slowdown w r = (w + r) * 100 / max r 10

unfoldable pub row : (a b c : ℕ) → List ℕ
row a b c = decimal_of a ++ (and_field (decimal_of b) ++ (and_field (decimal_of c) ++ (10 ∷ [])))

-- "its ticket, wait and bounded slowdown"
abbrev pub row_of : Season → Job → List ℕ
row_of s j = row j.ticket (wait s j) (slowdown (wait s j) (run s j))

abbrev pub rows_of : Season → List Job → List ℕ
rows_of s [] = []
rows_of s (j ∷ js) = row_of s j ++ rows_of s js

-- "It prints, as each stack ends": of the jobs before a call, those whose tickets are among the ended; "a refused line prints `no` and its
-- number"
abbrev pub ended_by_of : Season → Reply → List Job
ended_by_of s r = keep (λ (j : Job). elem j.ticket r.ended) s.model.jobs

unfoldable pub text_of : Season → Reply → List ℕ
text_of s r = cond (accepts r.refusal) (rows_of s (ended_by_of s r)) (no_row (code r.refusal))

-- ## What comes next

-- "17, an arrival before that of any formed line above; 18, a true length of 0"; "An arrival past the last minute is refused by 6, next after 18"
unfoldable pub arrival_refusal : (highest : ℕ) → Arrival → Refusal
arrival_refusal highest a =
    verdict
    ((ltb a.minute highest, refusal.ArrivalFalls)
    ∷ (eqb a.actual 0, refusal.NoRunLength)
    ∷ (ltb horizon a.minute, refusal.PastHorizon)
    ∷ [])

pub data Turn : Type 0 where
  -- a job ends at its actual run length
  ends : Job → Turn
  -- a line is refused without waiting for its minute: "for 9, 17, 18 and such an arrival right after the line above is done with"
  refuses : Refusal → Turn
  -- a job arrives
  arrives : Arrival → Turn
  -- a minute passes
  steps : Turn
  -- "until lines and live stacks are all gone"
  over : Turn

-- its actual run length ends it now, before its held time would
abbrev pub ends_now : Season → Job → Bool
ends_now s j = is_running j && (ltb (actual s j) (planned s j) && eqb (j.start + actual s j) s.model.clock)

abbrev pub by_jobs : List Job → Turn
by_jobs [] = over
by_jobs (j ∷ js) = steps

abbrev pub by_arrival : Season → Option Arrival → Turn
by_arrival s none = refuses refusal.Malformed
by_arrival s (some a) =
    let r = arrival_refusal s.highest a in cond (accepts r) (cond (leb a.minute s.model.clock) (arrives a) steps) (refuses r)

abbrev pub by_lines_of : Season → List Line → Turn
by_lines_of s [] = by_jobs s.model.jobs
by_lines_of s (l ∷ ls) = by_arrival s (arrival_of s.above l)

abbrev pub by_end_of : Season → Option Job → Turn
by_end_of s (some j) = ends j
by_end_of s none = by_lines_of s s.lines

-- After the step of a minute its ends, then its arrivals; once neither is left, the next step.
unfoldable pub turn_of : Season → Turn
turn_of s = by_end_of s (first (ends_now s) s.model.jobs)

-- ## What a turn prints, and where it leads

abbrev pub order_of : Arrival → Submission
order_of a = order a.nodes a.estimate

-- the model and the answer after a call
abbrev pub after : Season → Result → Season
after s r =
    record { model = r.model; lines = s.lines; above = s.above; highest = s.highest; arrivals = s.arrivals; actuals = s.actuals }

-- a line is done with
abbrev pub rest : List Line → List Line
rest [] = []
rest (l ∷ ls) = ls

abbrev pub first_arrival : (above : ℕ) → List Line → Option Arrival
first_arrival above [] = none
first_arrival above (l ∷ ls) = arrival_of above l

abbrev pub arrival_next : Season → Option Arrival
arrival_next s = first_arrival s.above s.lines

abbrev pub highest_with : ℕ → Option Arrival → ℕ
highest_with h none = h
highest_with h (some a) = max h a.minute

abbrev pub next_line : Season → Season
next_line s = record {
  model = s.model;
  lines = rest s.lines;
  above = min (suc s.above) most_lines;
  highest = highest_with s.highest (arrival_next s);
  arrivals = s.arrivals;
  actuals = s.actuals;
}

-- a job taken in is noted under its ticket, which is the next
abbrev pub with_job : Arrival → Season → Season
with_job a s = record {
  model = s.model;
  lines = s.lines;
  above = s.above;
  highest = s.highest;
  arrivals = s.arrivals ++ (a.minute ∷ []);
  actuals = s.actuals ++ (a.actual ∷ []);
}

abbrev pub noted : Arrival → Reply → Season → Season
noted a r s = cond (accepts r.refusal) (with_job a s) s

abbrev pub text_by : Season → Turn → List ℕ
text_by s (ends j) = text_of s (call s.model (complete j.ticket)).reply
text_by s (refuses r) = no_row (code r)
text_by s (arrives a) = text_of s (call s.model (submit (order_of a))).reply
text_by s steps = text_of s (call s.model tick).reply
text_by s over = []

abbrev pub season_by : Season → Turn → Season
season_by s (ends j) = after s (call s.model (complete j.ticket))
season_by s (refuses r) = next_line s
season_by s (arrives a) = let r = call s.model (submit (order_of a)) in noted a r.reply (next_line (after s r))
season_by s steps = after s (call s.model tick)
season_by s over = s

-- ## The whole

abbrev pub is_over : Turn → Bool
is_over (ends j) = false
is_over (refuses r) = false
is_over (arrives a) = false
is_over steps = false
is_over over = true

-- what the next n turns print; nothing comes after the last
unfoldable pub played : ℕ → Season → List ℕ
played zero s = []
played (suc n) s = let t = turn_of s in text_by s t ++ cond {A = Season → List ℕ} (is_over t) (λ z. []) (λ z. played n z) (season_by s t)

-- No season has more turns than these (`season_ends`): a line is done with once, and may bring a job, which ends once; and no minute comes
-- after the last.
abbrev pub unended : List Job → ℕ
unended js = sum (λ (j : Job). on (not (is_cleaning j)) 1) js

unfoldable pub turns_left : Season → ℕ
turns_left s = suc (2 * length s.lines + unended s.model.jobs + (horizon - s.model.clock))

abbrev pub remaining : Season → List ℕ
remaining s = played (turns_left s) s

-- "from minute 0 and ticket 1"
abbrev pub beginning : Model → List Line → Season
beginning m ls = record { model = m; lines = ls; above = 0; highest = 0; arrivals = []; actuals = [] }

-- "a refused first line stops the program"; "The day sheet's rules on size, numbers and line ends hold, with 262,144 bytes for 65,536"
unfoldable pub printout : List ℕ → List ℕ
printout s = printout_by longest_list opening_of (λ (m : Model) (ls : List Line). remaining (beginning m ls)) s
