-- Conservative backfilling: what each call gives (document 01: "Promise Desk", "When a desk says no").
-- Assumes nothing.
use Rattle.std.specs.Prelude.{Bool, true, ◌&&◌, cond, List, [], ◌∷◌, ◌++◌, map, ℕ, zero, suc, ◌+◌, ltb, eqb}
use Rattle.std.proofs.Math.Option.{none}
use Rattle.lists.specs.Lists.{sum}
use Rattle.spans.specs.declared.Span.{Span}
use Rattle.spans.specs.declared.Point.{Point}
use Rattle.spans.specs.Spans.{earliest, profile}
use Rattle.spans.specs.Index.{reads}
use Rattle.scheduler.specs.declared.State.{State}
use Rattle.scheduler.specs.declared.State.TheVariants.{Waiting, Running}
use Rattle.scheduler.specs.declared.Job.{Job}
use Rattle.scheduler.specs.declared.Submission.{Submission}
use Rattle.scheduler.specs.declared.Refusal.{Refusal}
use Rattle.scheduler.specs.declared.Refusal.TheVariants as refusal
use Rattle.scheduler.specs.declared.Departure.{Departure}
use Rattle.scheduler.specs.declared.Select.{Select}
use Rattle.scheduler.specs.declared.Select.TheVariants as select
use Rattle.scheduler.specs.Jobs.{is_waiting, is_running, fresh, job_at}
use Rattle.scheduler.specs.declared.Settings.{Settings}
use Rattle.scheduler.specs.Settings.{horizon, hold_time, until}
use Rattle.scheduler.specs.Table.{ended_of, remaining}
use Rattle.scheduler.specs.Model.{Model, ending, joined, with_model_jobs}
use Rattle.scheduler.specs.Answers.{Result, verdict, refuse}
use Rattle.scheduler.specs.Refusals.{judged, submit_tests, depart_refusal, tick_refusal}
use Rattle.scheduler.specs.declared.Amendment.{Amendment}
use Rattle.scheduler.specs.Amending.{named, kept_promise, in_place_refusal, in_place_of}
use Rattle.history.specs.Calls.{Rules, submit, depart, tick, amend, unchanged}

-- a job holds its nodes from its start or planned start on, until they are free again
abbrev pub span : Settings → Job → Span
span S j = record { from = j.start; until = until S j; nodes = j.nodes }

abbrev pub spans : Settings → List Job → List Span
spans S js = map (span S) js

-- ## Submission (document 01: "Intake")

-- "The planned start is the smallest minute, now or later, such that the stack's nodes are free in every minute of its held time."
-- Document 02, No. 3: "Held time plus clearing is what must fit the profile"
unfoldable pub planned : Model → Submission → ℕ
planned m o = earliest m.settings.nodes (spans m.settings m.jobs) m.clock o.nodes (hold_time m.settings o.estimate)

-- "If it is now, the stack starts."
abbrev pub state_at : ℕ → ℕ → State
state_at now s = cond (eqb s now) Running Waiting

-- "This start is its promise and never changes."
abbrev pub new_job : Model → Submission → ℕ → Job
new_job m o s = fresh m.next o (state_at m.clock s) s s

abbrev pub with_new : Model → Submission → ℕ → Model
with_new m o s = joined m (new_job m o s)

abbrev pub points : Model → List Point
points m = profile m.settings.nodes (spans m.settings m.jobs) m.clock

-- "intake 1, 2, .. 5, 6", and by document 02, No. 4, 14 first and 15 "in place of 4", where s is the planned start; by No. 5, 8 is out "of the
-- table and the intake order"
unfoldable pub submit_refusal : Model → Submission → ℕ → Refusal
submit_refusal m o s =
    verdict
    (submit_tests m o
    ((ltb (horizon m.settings) (s + hold_time m.settings o.estimate), refusal.PastHorizon)
    ∷ []))

-- document 02, No. 5: "and also gives how many it read": points of the profile before the submission, up to the end of the hold
abbrev pub reads_for : Model → Submission → ℕ → ℕ
reads_for m o s = reads (points m) o.nodes (s + hold_time m.settings o.estimate)

unfoldable pub submitted : Model → Submission → ℕ → Result
submitted m o s = record {
  reply = record {
    refusal = refusal.None;
    ticket = m.next;
    promise = s;
    reads = reads_for m o s;
    ended = [];
    started = cond (eqb s m.clock) (m.next ∷ []) [];
    head = none;
  };
  model = with_new m o s;
}

-- ## What an early end, a withdrawal and a tick share

-- a job with the planned start s; it starts if that is now
abbrev pub placed : ℕ → ℕ → Job → Job
placed now s j = job_at (state_at now s) s j

-- the tickets that wait before and run after
abbrev pub begun : List Job → List Job → List ℕ
begun [] ks = []
begun (j ∷ js) [] = []
begun (j ∷ js) (k ∷ ks) = cond (is_waiting j && is_running k) (j.ticket ∷ begun js ks) (begun js ks)

-- those that a test picks leave, and those that remain become `after`
unfoldable pub advanced : Model → ℕ → Select → List Job → Result
advanced m clock s after = record {
  reply = record {
    refusal = refusal.None;
    ticket = 0;
    promise = 0;
    reads = 0;
    ended = ended_of s m.jobs;
    started = begun (remaining m.settings clock s m.jobs) after;
    head = none;
  };
  model = record { settings = m.settings; clock = clock; next = m.next; jobs = after };
}

-- ## Early completion (document 01: "Early end") and withdrawal

-- "taken out of the plan and put in again at its smallest minute, the others staying at their places. One that comes to now starts."
abbrev pub moved : Settings → ℕ → List Job → Job → Job
moved S now others j =
    let s = earliest S.nodes (spans S others) now j.nodes (hold_time S j.estimate) in
    cond (is_waiting j) (placed now s j) j

-- "each waiting stack, once, in ticket order"; `done` are those that have had their turn
unfoldable pub pass : Settings → ℕ → List Job → List Job → List Job
pass S now done [] = []
pass S now done (j ∷ js) = let k : Job = moved S now (done ++ js) j in k ∷ pass S now (k ∷ done) js

abbrev pub start_of : Job → ℕ
start_of j = j.start

-- whether no job has come to another start
abbrev pub unmoved : List Job → List Job → Bool
unmoved [] ks = true
unmoved (j ∷ js) [] = true
unmoved (j ∷ js) (k ∷ ks) = eqb k.start j.start && unmoved js ks

-- document 02, No. 10: "Repeat the pass until a whole pass moves nothing", and at most n times
unfoldable pub passes : Settings → ℕ → (n : ℕ) → List Job → List Job
passes S now zero js = js
passes S now (suc n) js =
    let ks = pass S now [] js in
    let more = passes S now n ks in
    cond (unmoved js ks) ks more

-- The sum of the planned starts falls with each pass that moves a job, so that this number of passes is enough: the last one moves nothing
-- (`compressed_is`).
unfoldable pub compressed : Settings → ℕ → List Job → List Job
compressed S now js = passes S now (suc (sum start_of js)) js

-- "This replaces the single pass of document 01, for withdrawals too."
-- Document 02, No. 1: "A waiting stack can be withdrawn. The Promise Desk then moves the others as after an early end"
unfoldable pub departed : Model → Departure → ℕ → Result
departed m h t =
    advanced m m.clock (select.Departing h t)
    (compressed m.settings m.clock (remaining m.settings m.clock (select.Departing h t) m.jobs))

-- ## Tick (document 01: "Minute step")

-- "waiting stacks whose planned start is now start. Nothing else moves."
abbrev pub turned : ℕ → Job → Job
turned now j = cond (is_waiting j && eqb j.start now) (job_at Running j.start j) j

-- "The clock rises by one, stacks whose end is now leave"
unfoldable pub ticked : Model → Result
ticked m =
    advanced m (suc m.clock) (ending m)
    (map (turned (suc m.clock)) (remaining m.settings (suc m.clock) (ending m) m.jobs))

-- ## A corrected order in place (document 02, No. 13)

-- where those superseded come to be `after`: "the answer gives ticket and promise as intake's does"
unfoldable pub amended_to : Model → Amendment → List Job → Result
amended_to m a after = record {
  reply = record {
    refusal = refusal.None;
    ticket = a.ticket;
    promise = kept_promise (named m a);
    reads = 0;
    ended = [];
    started = begun (in_place_of m a).jobs after;
    head = none;
  };
  model = with_model_jobs m after;
}

-- "All waiting stacks, this one too, then move as after a withdrawal"
unfoldable pub amended : Model → Amendment → Result
amended m a = amended_to m a (compressed m.settings m.clock (in_place_of m a).jobs)

-- ## All calls

unfoldable pub call : Rules
call m (submit o) = let s = planned m o in judged m (submit_refusal m o s) (submitted m o s)
call m (depart h t) = judged m (depart_refusal m h t) (departed m h t)
call m tick = judged m (tick_refusal m) (ticked m)
call m (amend a) = judged m (in_place_refusal m a) (amended m a)
call m (unchanged r) = refuse m r
