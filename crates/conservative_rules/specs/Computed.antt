-- Document 01's slips of the Promise Desk and document 001's figure 2, computed from the definitions.
-- Assumes nothing.
use Rattle.std.specs.Prelude.{ℕ, ◌≡◌, refl, List, [], ◌∷◌, ◌++◌, map, replicate}
use Rattle.lists.specs.Lists.{keep}
use Rattle.spans.specs.Spans as spans
use Rattle.scheduler.specs.declared.Kind.TheVariants.{Conservative}
use Rattle.scheduler.specs.declared.State.{State}
use Rattle.scheduler.specs.declared.State.TheVariants.{Waiting, Running, Cleanup}
use Rattle.scheduler.specs.declared.Job.{Job}
use Rattle.scheduler.specs.declared.Refusal.{Refusal}
use Rattle.scheduler.specs.declared.Refusal.TheVariants as refusal
use Rattle.scheduler.specs.declared.Departure.{Departure}
use Rattle.scheduler.specs.declared.Departure.TheVariants.{Complete, Cancel}
use Rattle.scheduler.specs.declared.Select.TheVariants as select
use Rattle.scheduler.specs.Jobs as jobs
use Rattle.scheduler.specs.Jobs.{is_running}
use Rattle.scheduler.specs.declared.Settings.{Settings}
use Rattle.scheduler.specs.Table.{tickets_of, remaining}
use Rattle.scheduler.specs.Model.{Model}
use Rattle.scheduler.specs.Answers.{Reply, verdict}
use Rattle.scheduler.specs.Settings as times
use Rattle.scheduler.specs.Refusals as refusals
use Rattle.scheduler.specs.Opening.{opening_refusal, opening}
use Rattle.history.specs.Calls.{submit, order, complete, cancel, tick, after}
use Rattle.conservative_rules.specs.Conservative.{planned, points, submit_refusal, submitted, advanced, moved, pass, start_of, passes, compressed, departed}
use Rattle.conservative_rules.specs.Conservative.{ticked, call}

abbrev pub promise_of : Job → ℕ
promise_of j = j.promise

abbrev state_of : Job → State
state_of j = j.state

abbrev end_of : Job → ℕ
end_of j = j.end

-- a machine of 2 nodes, with this cleanup and this longest estimate
abbrev pub limited : (longest cleanup : ℕ) → Settings
limited l k = record { kind = Conservative; nodes = 2; cleanup = k; quota_a = 63; quota_b = 1; longest = l }

abbrev pub machine : ℕ → Settings
machine k = limited 10080 k

abbrev cleared : ℕ → ℕ → Model
cleared k minute = opening (record { settings = machine k; minute = minute; ticket = 1 })

abbrev fresh : ℕ → Model
fresh minute = cleared 0 minute

-- Document 001, figure 2: two jobs run, one until 5, one until 15. The first queued job needs both nodes and is promised 15, the second
-- needs one and is promised 5.
abbrev pub figure2 : Model
figure2 = after call (fresh 0) (submit (order 1 5) ∷ submit (order 1 15) ∷ submit (order 2 5) ∷ submit (order 1 10) ∷ [])

-- For comparison only: the whole queue replanned. All waiting jobs are taken out of the plan and put in again, one after another in
-- ticket order; those that have not had their turn are not in it.
unfoldable pub replan : Settings → ℕ → List Job → List Job → List Job
replan S now done [] = []
replan S now done (j ∷ js) = let k : Job = moved S now (done ++ keep is_running js) j in k ∷ replan S now (k ∷ done) js

abbrev pub replanned : Model → ℕ → List Job
replanned m t = replan m.settings m.clock [] (remaining m.settings m.clock (select.Departing Complete t) m.jobs)

-- the answer to the first job of such a machine, submitted at that minute
abbrev alone : ℕ → ℕ → ℕ → Refusal
alone minute n e = (call (fresh minute) (submit (order n e))).reply.refusal

abbrev alone_cleared : ℕ → ℕ → ℕ → Refusal
alone_cleared minute n e = (call (cleared 30 minute) (submit (order n e))).reply.refusal

-- the answer to the first job of a machine with that longest estimate
abbrev alone_limited : (longest estimate : ℕ) → Refusal
alone_limited l e = (call (opening (record { settings = limited l 0; minute = 0; ticket = 1 })) (submit (order 1 e))).reply.refusal

-- two jobs on both nodes, one after another, with 7 minutes of cleanup: at 0, at 5 and at 12, where the second starts; and the first ended in the
-- minute of its start
abbrev pair : Model
pair = after call (cleared 7 0) (submit (order 2 5) ∷ submit (order 2 10) ∷ [])

abbrev over : Model
over = after call pair (replicate 5 tick)

abbrev second : Reply
second = (call (after call over (replicate 6 tick)) tick).reply

abbrev at_once : Model
at_once = (call pair (complete 1)).model

abbrev fifth_tick : Reply
fifth_tick = (call (after call figure2 (replicate 4 tick)) tick).reply

abbrev early : Model
early = (call figure2 (complete 2)).model

-- what a single pass would leave where a job departs
abbrev once : Model → Departure → ℕ → List Job
once m h t = pass m.settings m.clock [] (remaining m.settings m.clock (select.Departing h t) m.jobs)

-- for figure 2 it leaves this: job 3 is planned for 15, and could begin at 10
abbrev pub gapped : List Job
gapped = jobs.fresh 1 (order 1 5) Running 0 0 ∷ jobs.fresh 3 (order 2 5) Waiting 15 15 ∷ jobs.fresh 4 (order 1 10) Running 0 5 ∷ []

-- five jobs one after another, the third and the last beside each other
abbrev stacked : Model
stacked = after call (fresh 0) (submit (order 2 5) ∷ submit (order 2 5) ∷ submit (order 1 5) ∷ submit (order 2 5) ∷ submit (order 1 5) ∷ [])

abbrev lowered : Model
lowered = (call stacked (cancel 2)).model

-- one job runs on both nodes until 5, the next needs both for 10 minutes, the third one
abbrev queued : Model
queued = after call (fresh 0) (submit (order 2 5) ∷ submit (order 2 10) ∷ submit (order 1 5) ∷ [])

abbrev withdrawn : Model
withdrawn = (call queued (cancel 2)).model

-- two jobs whose estimates are no held times: one runs on both nodes for 6 minutes, the next waits for a node for 1
abbrev rounded : Model
rounded = after call (fresh 0) (submit (order 2 6) ∷ submit (order 1 1) ∷ [])

pub examples : (tickets_of figure2.jobs ≡ 1 ∷ 2 ∷ 3 ∷ 4 ∷ [])
    × (map promise_of figure2.jobs ≡ 0 ∷ 0 ∷ 15 ∷ 5 ∷ [])
    × (points figure2 ≡ record { minute = 0; free = 0 } ∷ record { minute = 20; free = 2 } ∷ [])
    -- "less those of running stacks whose end is after t, less those of waiting stacks with start ≤ t < start + held"
    × (points rounded ≡ record { minute = 0; free = 0 } ∷ record { minute = 10; free = 1 } ∷ record { minute = 15; free = 2 } ∷ [])
    × (fifth_tick.ended ≡ 1 ∷ [])
    × (fifth_tick.started ≡ 4 ∷ [])
    -- "Promise, minute 999,990: `in 1 10` is taken", and `in 1 11` refused by 6; 1 comes before 6
    × (alone 999990 1 10 ≡ refusal.None)
    × (alone 999990 1 11 ≡ refusal.PastHorizon)
    × (alone 999990 3 11 ≡ refusal.NodesOutOfRange)
    -- "Replanning the whole queue after an early end can start a stack after its promise (document 001, figure 2). Only single moves,
    -- each never later, are right." When job 2 ends at 0, replanning puts job 3 at 5 and job 4 at 10, after its promise. Single moves
    -- start job 4 at once. Document 02, No. 10: "a free stretch that an earlier ticket could use, since a later one moved after it": one pass
    -- leaves job 3 at 15, the next moves it to 10.
    × (map start_of (replanned figure2 2) ≡ 0 ∷ 5 ∷ 10 ∷ [])
    × (tickets_of early.jobs ≡ 1 ∷ 3 ∷ 4 ∷ [])
    × (map promise_of early.jobs ≡ 0 ∷ 15 ∷ 5 ∷ [])
    × (once figure2 Complete 2 ≡ gapped)
    × (map start_of early.jobs ≡ 0 ∷ 10 ∷ 0 ∷ [])
    × ((call figure2 (complete 2)).reply.started ≡ 4 ∷ [])
    -- "for withdrawals too": job 4 takes what jobs 3 and 5 leave
    × (map start_of stacked.jobs ≡ 0 ∷ 5 ∷ 10 ∷ 15 ∷ 10 ∷ [])
    × (map start_of (once stacked Cancel 2) ≡ 0 ∷ 5 ∷ 15 ∷ 5 ∷ [])
    × (map start_of lowered.jobs ≡ 0 ∷ 5 ∷ 10 ∷ 5 ∷ [])
    × (map promise_of lowered.jobs ≡ 0 ∷ 10 ∷ 15 ∷ 10 ∷ [])
    -- document 02, No. 1: the second is withdrawn, and the third moves from 15 to 5; the first runs, and cannot be
    × (map start_of queued.jobs ≡ 0 ∷ 5 ∷ 15 ∷ [])
    × (tickets_of withdrawn.jobs ≡ 1 ∷ 3 ∷ [])
    × (map start_of withdrawn.jobs ≡ 0 ∷ 5 ∷ [])
    × ((call queued (cancel 2)).reply.ended ≡ [])
    × ((call queued (cancel 1)).reply.refusal ≡ refusal.NotWaiting)
    × ((call withdrawn (cancel 2)).reply.refusal ≡ refusal.NotWaiting)
    -- document 02, No. 3: held time and cleanup together must fit the plan and the last minute. The record keeps its end; nodes are taken until
    -- cleanup ends, and serve a start in that same minute; "An end of a clearing stack is refused by 7"
    × (alone_cleared 999960 1 10 ≡ refusal.None)
    × (alone_cleared 999960 1 11 ≡ refusal.PastHorizon)
    × (map start_of pair.jobs ≡ 0 ∷ 12 ∷ [])
    × (points pair ≡ record { minute = 0; free = 0 } ∷ record { minute = 29; free = 2 } ∷ [])
    × (map state_of over.jobs ≡ Cleanup ∷ Waiting ∷ [])
    × (map end_of over.jobs ≡ 5 ∷ 0 ∷ [])
    × (points over ≡ record { minute = 5; free = 0 } ∷ record { minute = 29; free = 2 } ∷ [])
    × (second.ended ≡ [])
    × (second.started ≡ 2 ∷ [])
    × (map end_of at_once.jobs ≡ 0 ∷ 0 ∷ [])
    × (map start_of at_once.jobs ≡ 0 ∷ 7 ∷ [])
    × ((call over (complete 1)).reply.refusal ≡ refusal.NotRunning)
    -- document 02, No. 6: "The limit on estimates reads the setting", not its held time, which is 510
    × (alone_limited 481 481 ≡ refusal.None)
    × (alone_limited 481 482 ≡ refusal.MinutesOutOfRange)
unfolding
    opening
    opening_refusal
    verdict
    times.longest
    times.cleanup
    times.run_time
    times.hold_time
    times.end_of
    times.until
    refusals.depart_refusal
    refusals.tick_refusal
    spans.takes
    spans.last_end
    spans.fits
    spans.earliest
    spans.changes
    spans.points
    spans.profile
    planned
    submit_refusal
    submitted
    advanced
    pass
    passes
    compressed
    departed
    ticked
    call
    replan
examples = (refl, refl, refl, refl, refl, refl, refl, refl, refl, refl, refl, refl, refl, refl, refl, refl, refl, refl, refl, refl, refl, refl, refl, refl, refl, refl, refl, refl, refl, refl, refl, refl, refl, refl, refl, refl, refl, refl, refl)
