-- EASY backfilling: what each call gives (document 01: "Loose Desk", "When a desk says no").
-- Assumes nothing.
use Rattle.std.specs.Prelude.{Bool, false, ◌&&◌, ◌||◌, cond, ℕ, zero, suc, ◌+◌, ◌-◌, ◌*◌, leb, ltb, eqb, length}
use mathlib.Core.List.{List, [], ◌∷◌, map, head?}
use Rattle.std.proofs.Math.Option.{Option, none, some}
use Rattle.lists.specs.Tests.{on}
use Rattle.lists.specs.Lists.{keep, first, sum}
use Rattle.lists.specs.Least.{least}
use Rattle.scheduler.specs.declared.State.TheVariants.{Waiting, Running}
use Rattle.scheduler.specs.declared.Job.{Job}
use Rattle.scheduler.specs.declared.Submission.{Submission}
use Rattle.scheduler.specs.declared.Refusal.{Refusal}
use Rattle.scheduler.specs.declared.Refusal.TheVariants as refusal
use Rattle.scheduler.specs.declared.Select.{Select}
use Rattle.scheduler.specs.declared.Select.TheVariants as select
use Rattle.scheduler.specs.Jobs.{is_waiting, is_holding, fresh, entered, foretold, job_at}
use Rattle.scheduler.specs.declared.Settings.{Settings}
use Rattle.scheduler.specs.Settings.{horizon, hold_time, unit, until}
use Rattle.scheduler.specs.Table.{nodes_held, ended_of}
use Rattle.scheduler.specs.Model.{Model, ending, joined, without, with_model_jobs}
use Rattle.scheduler.specs.Answers.{Result, Forecast, verdict, refuse}
use Rattle.scheduler.specs.Refusals.{judged, submit_tests, depart_refusal, tick_refusal}
use Rattle.scheduler.specs.Amending.{in_place_refusal, in_place_of}
use Rattle.history.specs.Calls.{Rules, submit, depart, tick, amend, unchanged}

-- ## The queue and the nodes

-- "Waiting stacks stand in ticket order; the first is the head."
abbrev pub queue : List Job → List Job
queue js = keep is_waiting js

abbrev pub head : Model → Option Job
head m = head? (queue m.jobs)

-- the nodes free now
abbrev pub free : Model → ℕ
free m = m.settings.nodes - nodes_held m.jobs

-- "running stacks with end ≤ that minute": those whose nodes are free again by then. Document 02, No. 3: during cleanup, "shadow, extra and demand
-- 3 count them as held by a stack running until these end"
abbrev pub over_by : Settings → ℕ → Job → Bool
over_by S t j = is_holding j && leb (until S j) t

abbrev pub freed : Settings → ℕ → Job → ℕ
freed S t j = on (over_by S t j) j.nodes

-- "the nodes free now and those of running stacks with end ≤ that minute together"
abbrev pub avail : Model → ℕ → ℕ
avail m t = free m + sum (freed m.settings t) m.jobs

-- "the shadow is the smallest minute at which" these "suffice for it". (By the longest hold time from now on all nodes are free.)
unfoldable pub shadow : Model → ℕ → ℕ
shadow m n = least (λ (t : ℕ). leb n (avail m t)) (unit m.settings) m.clock

-- "Extra is what is then free beyond the head's need, counting every stack that has ended by the shadow."
unfoldable pub extra : Model → ℕ → ℕ
extra m n = avail m (shadow m n) - n

-- ## Settling

-- "needs no more than the free nodes and either (i) has now + held ≤ shadow or (ii) needs no more than extra"; document 02, No. 3: "Held
-- time plus clearing is what must fit"
unfoldable pub qualifies : Model → Job → Job → Bool
qualifies m h j =
    leb j.nodes (free m)
    && (leb (m.clock + hold_time m.settings j.estimate) (shadow m h.nodes) || leb j.nodes (extra m h.nodes))

-- the job that starts next: the head "while the head's nodes are free now", otherwise "the first later stack" that qualifies
unfoldable pub pick : Model → List Job → Option Job
pick m [] = none
pick m (h ∷ later) = cond (leb h.nodes (free m)) (some h) (first (qualifies m h) later)

abbrev pub choice : Model → Option Job
choice m = pick m (queue m.jobs)

-- a job that starts now
abbrev pub begun : ℕ → Job → Job
begun now j = job_at Running now j

abbrev pub mark : ℕ → ℕ → Job → Job
mark now t j = cond (eqb j.ticket t) (begun now j) j

-- the job with that ticket starts now
abbrev pub begin : ℕ → Model → Model
begin t m = record { settings = m.settings; clock = m.clock; next = m.next; jobs = map (mark m.clock t) m.jobs }

pub record Settling : Type 0 where
  pub model : Model
  pub started : List ℕ

abbrev pub on_choice : {A B : Type 0} → Option A → B → (A → B) → B
on_choice none b f = b
on_choice (some a) b f = f a

-- "worked out afresh after each stack passed forward, until none qualifies": start one job and settle again, at most n times
unfoldable pub settle : ℕ → Model → Settling
settle zero m = record { model = m; started = [] }
settle (suc n) m =
    on_choice (choice m) (record { model = m; started = [] }) λ j.
    let rest = settle n (begin j.ticket m) in
    record { model = rest.model; started = j.ticket ∷ rest.started }

-- each start leaves one job fewer waiting
abbrev pub settled : Model → Settling
settled m = settle (length (queue m.jobs)) m

-- ## Calls

abbrev pub head_is : Option Job → Job → Bool
head_is none j = false
head_is (some h) j = eqb h.ticket j.ticket

-- "A stack that is head after a call and was not before gets the shadow then as its forecast."
unfoldable pub forecast : Model → Model → Option Forecast
forecast before after =
    on_choice (head after) none λ h.
    cond (head_is (head before) h) none (some (record { ticket = h.ticket; minute = shadow after h.nodes }))

-- document 02, No. 11: "Loose records now keep .. any forecast, until they leave"
abbrev pub noting : Forecast → Job → Job
noting f j = cond (eqb j.ticket f.ticket) (foretold f.minute j) j

abbrev pub noted : Option Forecast → Model → Model
noted none m = m
noted (some f) m = with_model_jobs m (map (noting f) m.jobs)

-- a call that found the scheduler as `before` and has done its own part: it settles and answers
unfoldable pub finished : Model → Model → ℕ → List ℕ → Result
finished before m ticket ended =
    let s = settled m in
    let f = forecast before s.model in
    record {
      reply = record {
        refusal = refusal.None;
        ticket = ticket;
        promise = 0;
        reads = 0;
        ended = ended;
        started = s.started;
        head = f;
      };
      model = noted f s.model;
    }

-- "r being the number waiting before plus one"
abbrev pub rank : Model → ℕ
rank m = suc (length (queue m.jobs))

-- "on the Loose Desk the promise, and a waiting stack's start, are 0"; document 02, No. 11: "Loose records now keep intake minute, .. r at
-- intake"
abbrev pub new_job : Model → Submission → Job
new_job m o = entered m.clock (rank m) (fresh m.next o Waiting 0 0)

-- "intake 1, 2, .. 5, 6", and by document 02, No. 4, 14 first and 15 "in place of 4"; 6: "now + r × 10,080 + held above it", and by No. 3,
-- "r × (10,080 + clearing)" and "Held time plus clearing"
unfoldable pub submit_refusal : Model → Submission → Refusal
submit_refusal m o =
    verdict
    (submit_tests m o
    ((ltb (horizon m.settings) (m.clock + rank m * unit m.settings + hold_time m.settings o.estimate), refusal.PastHorizon)
    ∷ []))

-- an early end, a withdrawal or a tick: runs end, jobs leave, and those that remain settle
unfoldable pub advanced : Model → ℕ → Select → Result
advanced m clock s = finished m (without m clock s) 0 (ended_of s m.jobs)

-- "After an intake (at the end of the queue), an early end or a minute step as above, the desk settles"; document 02, No. 1: of a withdrawal,
-- "the Loose Desk settles."
unfoldable pub call : Rules
call m (submit o) = judged m (submit_refusal m o) (finished m (joined m (new_job m o)) m.next [])
call m (depart h t) = judged m (depart_refusal m h t) (advanced m m.clock (select.Departing h t))
call m tick = judged m (tick_refusal m) (advanced m (suc m.clock) (ending m))
-- document 02, No. 13, in place: "All waiting stacks, this one too, then move as after a withdrawal"
call m (amend a) = judged m (in_place_refusal m a) (finished m (in_place_of m a) a.ticket [])
call m (unchanged r) = refuse m r
