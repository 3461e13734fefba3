-- Document 01's slips of the Loose Desk, one where two jobs might pass the head in one call, and document 02's cleanup, houses, longest estimate
-- and soonest minute, computed from the definitions.
-- Assumes nothing.
use Rattle.std.specs.Prelude.{◌≡◌, refl, List, [], ◌∷◌, map, ℕ, replicate}
use Rattle.std.proofs.Math.Option.{none, some}
use Rattle.scheduler.specs.declared.Kind.TheVariants.{Easy}
use Rattle.scheduler.specs.declared.Job.{Job}
use Rattle.scheduler.specs.declared.Tenant.TheVariants.{Nobody, A, B}
use Rattle.scheduler.specs.declared.Submission.{Submission}
use Rattle.scheduler.specs.declared.Refusal.{Refusal}
use Rattle.scheduler.specs.declared.Refusal.TheVariants as refusal
use Rattle.scheduler.specs.Model.{Model}
use Rattle.scheduler.specs.Answers.{verdict}
use Rattle.scheduler.specs.Settings as times
use Rattle.scheduler.specs.Refusals as refusals
use Rattle.scheduler.specs.Opening.{opening_refusal, opening}
use Rattle.history.specs.Calls.{Call, submit, order_between, order_of, order, complete, cancel, tick, after}
use Rattle.easy_rules.specs.EarliestStart.{earliest_start}
use Rattle.easy_rules.specs.Easy.{rank, shadow, extra, qualifies, pick, settle, forecast, finished, submit_refusal, advanced, call}

-- 63 places are A's and one is B's
abbrev limited : (longest cleanup nodes minute : ℕ) → Model
limited longest cleanup nodes minute =
    opening (record {
      settings = record { kind = Easy; nodes = nodes; cleanup = cleanup; quota_a = 63; quota_b = 1; longest = longest };
      minute = minute;
      ticket = 1;
    })

abbrev cleared : (cleanup nodes minute : ℕ) → Model
cleared cleanup nodes minute = limited 10080 cleanup nodes minute

abbrev fresh : ℕ → ℕ → Model
fresh nodes minute = cleared 0 nodes minute

-- "on a rack of 10 at minute 0, after `in 6 20` and `in 8 10`"
abbrev waited_for : Model
waited_for = after call (fresh 10 0) (submit (order 6 20) ∷ submit (order 8 10) ∷ [])

-- the start, the promise and the end in each record
abbrev stored : Model → List (ℕ × ℕ × ℕ)
stored m = map (λ (j : Job). (j.start, j.promise, j.end)) m.jobs

abbrev started : Model → Call → List ℕ
started m c = (call m c).reply.started

-- "rack of 10, running 5 and 3 nodes, both to 20, head needing 4"
abbrev together : Model
together = after call (fresh 10 0) (submit (order 5 20) ∷ submit (order 3 20) ∷ submit (order 4 5) ∷ [])

-- 6 nodes run to 20 and 4 to 100; the head needs 8, and two later jobs 2 each for 200 minutes
abbrev one_may_pass : Model
one_may_pass = after call (fresh 10 0) (submit (order 6 20) ∷ submit (order 4 100) ∷ submit (order 8 5) ∷ submit (order 2 200) ∷ submit (order 2 200) ∷ [])

-- behind the head one of 3 nodes for 21 minutes and one of 5
abbrev queued : Model
queued = after call waited_for (submit (order 3 21) ∷ submit (order 5 20) ∷ [])

-- the answer to the first job of a machine of 4 nodes, submitted at that minute
abbrev alone : ℕ → ℕ → Refusal
alone minute e = (call (fresh 4 minute) (submit (order 1 e))).reply.refusal

-- document 02, No. 3: the same two jobs as in `waited_for`, for 5 and 10 minutes, with 2 minutes of cleanup. The first ends at 5, in cleanup until
-- 7
abbrev short : Model
short = after call (cleared 2 10 0) (submit (order 6 5) ∷ submit (order 8 10) ∷ [])

abbrev over_at_5 : Model
over_at_5 = after call short (tick ∷ tick ∷ tick ∷ tick ∷ tick ∷ [])

-- it ends at 1, in cleanup until 3
abbrev over_at_1 : Model
over_at_1 = after call short (tick ∷ complete 1 ∷ [])

-- the answer to a job of the longest estimate on a machine of 1 node with 30 minutes of cleanup
abbrev longest : ℕ → Refusal
longest minute = (call (cleared 30 1 minute) (submit (order 1 10080))).reply.refusal

-- document 02, No. 6: the answer to the first job of a machine of 4 nodes whose longest estimate is 481, held for 510 minutes
abbrev alone_limited : ℕ → ℕ → Refusal
alone_limited minute e = (call (limited 481 0 4 minute) (submit (order 1 e))).reply.refusal

-- the answer to a submission
abbrev asking : Model → Submission → Refusal
asking m o = (call m (submit o)).reply.refusal

-- document 02, No. 4: A's places are all taken, by jobs that run and jobs that wait
abbrev crowded : Model
crowded = after call (fresh 10 0) (replicate 63 (submit (order 1 5)))

-- B's place is taken by a job that waits; by one that runs; and by that one once it is over, in cleanup until 2
abbrev b_waiting : Model
b_waiting = after call waited_for (submit (order_of B 3 21) ∷ [])

abbrev b_running : Model
b_running = after call (cleared 2 10 0) (submit (order_of B 1 5) ∷ [])

abbrev b_over : Model
b_over = after call b_running (complete 1 ∷ tick ∷ [])

-- document 02, No. 7: "A faded hand takes anything from 20 to 90 minutes": a machine of 4 nodes has 2 minutes of cleanup. Behind such a job wait
-- one of 4 nodes and one of 3, and a second runs beside it for 5 to 10 minutes
abbrev faded : Model
faded = after call (cleared 2 4 0)
    (submit (order_between A 3 20 90) ∷ submit (order_between A 1 5 10) ∷ submit (order 4 5) ∷ submit (order 3 120) ∷ submit (order 1 120) ∷ [])

-- the clock at 30, past the least of the first; and there the first is over
abbrev faded_later : Model
faded_later = after call faded (replicate 30 tick)

abbrev faded_over : Model
faded_over = after call faded_later (complete 1 ∷ tick ∷ [])

abbrev soonest : Model → ℕ → Refusal × ℕ
soonest m t = let e = earliest_start m t in (e.refusal, e.minute)

pub examples : ((call (call (fresh 10 0) (submit (order 6 20))).model (submit (order 8 10))).reply.head ≡ some (record { ticket = 2; minute = 20 }))
    -- "on the Loose Desk the promise, and a waiting stack's start, are 0"
    × (stored (after call (fresh 10 5) (submit (order 6 20) ∷ submit (order 8 10) ∷ [])) ≡ (5, 0, 0) ∷ (0, 0, 0) ∷ [])
    -- "r being the number waiting before plus one"
    × (rank waited_for ≡ 2)
    × (shadow waited_for 8 ≡ 20)
    × (extra waited_for 8 ≡ 2)
    × (started waited_for (submit (order 4 20)) ≡ 3 ∷ [])
    × (started waited_for (submit (order 2 100)) ≡ 3 ∷ [])
    × (started waited_for (submit (order 3 21)) ≡ [])
    -- "(i) has now + held ≤ shadow": a minute later 15 minutes end before 20, and 16, which are held for 20, after it
    × (started (after call waited_for (tick ∷ [])) (submit (order 4 15)) ≡ 3 ∷ [])
    × (started (after call waited_for (tick ∷ [])) (submit (order 4 16)) ≡ [])
    × (extra together 4 ≡ 6)
    -- the first that passes takes the extra nodes, and the rules are tested afresh for the second
    × (started one_may_pass (complete 1) ≡ 4 ∷ [])
    -- "Loose, rack of 4, minute 989,900, empty: `in 1 20` is taken, `in 1 21` refused by 6"
    × (alone 989900 20 ≡ refusal.None)
    × (alone 989900 21 ≡ refusal.PastHorizon)
    -- document 02, No. 1: the head is withdrawn, the next starts, and the one behind it hears a forecast; nobody is over
    × ((call queued (cancel 2)).reply.started ≡ 3 ∷ [])
    × ((call queued (cancel 2)).reply.head ≡ some (record { ticket = 4; minute = 20 }))
    × ((call queued (cancel 2)).reply.ended ≡ [])
    -- a later one is withdrawn, and the head stays; one that runs cannot be
    × ((call queued (cancel 4)).reply.head ≡ none)
    × ((call queued (cancel 1)).reply.refusal ≡ refusal.NotWaiting)
    -- document 02, No. 3: the shadow counts nodes in cleanup as held, and rule (i) asks for held time plus cleanup
    × (shadow short 8 ≡ 7)
    × (extra short 8 ≡ 2)
    × (started short (submit (order 4 5)) ≡ 3 ∷ [])
    × (started short (submit (order 4 6)) ≡ [])
    -- "after a planned or an early end alike": who is over is in cleanup, "its record, and no other, keeps its end"
    × (shadow over_at_5 8 ≡ 7)
    × (stored over_at_5 ≡ (0, 0, 5) ∷ (0, 0, 0) ∷ [])
    × (shadow over_at_1 8 ≡ 3)
    × (extra over_at_1 8 ≡ 2)
    × (stored over_at_1 ≡ (0, 0, 1) ∷ (0, 0, 0) ∷ [])
    -- "An end of a clearing stack is refused by 7."
    × ((call over_at_1 (complete 1)).reply.refusal ≡ refusal.NotRunning)
    -- once its nodes are free it leaves without a line, and the head starts in that same minute
    × (started (after call over_at_1 (tick ∷ [])) tick ≡ 2 ∷ [])
    × ((call (after call over_at_1 (tick ∷ [])) tick).reply.ended ≡ [])
    × (stored (after call over_at_1 (tick ∷ tick ∷ [])) ≡ (3, 0, 0) ∷ [])
    -- the last minute: now + r × (10,080 + cleanup) + held + cleanup. At 979,810 the sum without the last summand is 1,000,000
    × (longest 979780 ≡ refusal.None)
    × (longest 979810 ≡ refusal.PastHorizon)
    -- document 02, No. 6: "the bound and last-minute rule of the Loose Desk read its held time, which may be greater"; 2 reads the setting, and
    -- comes before 6
    × (alone_limited 999470 20 ≡ refusal.None)
    × (alone_limited 999470 21 ≡ refusal.PastHorizon)
    × (alone_limited 998980 481 ≡ refusal.None)
    × (alone_limited 998981 481 ≡ refusal.PastHorizon)
    × (alone_limited 998981 482 ≡ refusal.MinutesOutOfRange)
    -- document 02, No. 4: "only its share and its live stacks' number decide a lack of places", running, waiting or in cleanup
    × (asking crowded (order 1 5) ≡ refusal.QuotaFull)
    × (asking crowded (order_of B 1 5) ≡ refusal.None)
    × (asking b_waiting (order_of B 1 5) ≡ refusal.QuotaFull)
    × (asking b_waiting (order 1 5) ≡ refusal.None)
    × (asking b_running (order_of B 1 5) ≡ refusal.QuotaFull)
    × (asking b_over (order_of B 1 5) ≡ refusal.QuotaFull)
    × (asking (after call b_over (tick ∷ [])) (order_of B 1 5) ≡ refusal.None)
    -- 14 comes first, and 2 before 15
    × (asking crowded (order_of Nobody 0 0) ≡ refusal.UnknownTenant)
    × (asking crowded (order 1 0) ≡ refusal.MinutesOutOfRange)
    -- document 02, No. 7: for all 4 nodes and for 3 the first must be over; 1 node is free once the second is over, whichever jobs wait
    × (soonest faded 3 ≡ (refusal.None, 22))
    × (soonest faded 4 ≡ (refusal.None, 22))
    × (soonest faded 5 ≡ (refusal.None, 7))
    -- "or now if that is past, followed by clearing"; nodes in cleanup come free at their release
    × (soonest faded_later 3 ≡ (refusal.None, 32))
    × (soonest faded_later 5 ≡ (refusal.None, 30))
    × (soonest faded_over 3 ≡ (refusal.None, 32))
    -- "11 if it is not"
    × (soonest faded 1 ≡ (refusal.NotWaiting, 0))
    × (soonest faded 6 ≡ (refusal.NotWaiting, 0))
unfolding
    opening
    opening_refusal
    verdict
    times.longest
    times.cleanup
    times.run_time
    times.hold_time
    times.unit
    times.end_of
    times.until
    refusals.depart_refusal
    refusals.tick_refusal
    shadow
    extra
    qualifies
    pick
    settle
    forecast
    finished
    submit_refusal
    advanced
    call
    earliest_start
examples = (
  refl,
  refl,
  refl,
  refl,
  refl,
  refl,
  refl,
  refl,
  refl,
  refl,
  refl,
  refl,
  refl,
  refl,
  refl,
  refl,
  refl,
  refl,
  refl,
  refl,
  refl,
  refl,
  refl,
  refl,
  refl,
  refl,
  refl,
  refl,
  refl,
  refl,
  refl,
  refl,
  refl,
  refl,
  refl,
  refl,
  refl,
  refl,
  refl,
  refl,
  refl,
  refl,
  refl,
  refl,
  refl,
  refl,
  refl,
  refl,
  refl,
  refl,
  refl,
  refl,
  refl,
  refl,
  refl,
  refl,
)
