-- Document 02, No. 13, computed from the definitions, of both kinds: in place and growing, taken and refused.
-- Assumes nothing.
use Rattle.std.specs.Prelude.{◌≡◌, refl, List, [], ◌∷◌, map, ℕ}
use Rattle.std.proofs.Math.Option.{Option, none, some}
use Rattle.spans.specs.Spans as spans
use Rattle.scheduler.specs.declared.Kind.{Kind}
use Rattle.scheduler.specs.declared.Kind.TheVariants.{Conservative, Easy}
use Rattle.scheduler.specs.declared.Job.{Job}
use Rattle.scheduler.specs.declared.Amendment.{Amendment}
use Rattle.scheduler.specs.declared.Tenant.{Tenant}
use Rattle.scheduler.specs.declared.Tenant.TheVariants.{A, B}
use Rattle.scheduler.specs.declared.Refusal.{Refusal}
use Rattle.scheduler.specs.declared.Refusal.TheVariants as refusal
use Rattle.scheduler.specs.Model.{Model}
use Rattle.scheduler.specs.Answers.{Result, Forecast, verdict, refuse}
use Rattle.scheduler.specs.Settings as times
use Rattle.scheduler.specs.Refusals as refusals
use Rattle.scheduler.specs.Amending as scheduler
use Rattle.scheduler.specs.Opening.{opening_refusal, opening}
use Rattle.history.specs.Calls.{Call, submit, cancel, amend, unchanged, order, order_of, order_between, after}
use Rattle.conservative_rules.specs.Conservative as conservative
use Rattle.easy_rules.specs.Easy as easy
use Rattle.easy_rules.specs.EarliestStart.{earliest_start}
use Rattle.amend_rules.specs.Amending.{resubmitted, amended, resubmit_calls, amend_calls}

-- 10 nodes; B has one place
abbrev ten : Kind → (minute ticket : ℕ) → Model
ten k m t = opening (record {
  settings = record { kind = k; nodes = 10; cleanup = 0; quota_a = 63; quota_b = 1; longest = 10080 };
  minute = m;
  ticket = t;
})

-- document 01: "on a rack of 10 at minute 0, after `in 6 20` and `in 8 10`", and then `in 3 21`, which is B's
abbrev three : List Call
three = submit (order 6 20) ∷ submit (order 8 10) ∷ submit (order_of B 3 21) ∷ []

abbrev to : (ticket nodes most : ℕ) → Amendment
to t n e = record { ticket = t; nodes = n; estimate = e; least = 0 }

-- what is answered: ticket, promise, the tickets started, and a new head with its forecast
abbrev says : Result → Refusal × ℕ × ℕ × List ℕ × Option (ℕ × ℕ)
says o = (o.reply.refusal, o.reply.ticket, o.reply.promise, o.reply.started, heard o.reply.head)
  where
    heard : Option Forecast → Option (ℕ × ℕ)
    heard none = none
    heard (some f) = some (f.ticket, f.minute)

-- ticket, nodes, start and promise of each record
abbrev stored : Model → List (ℕ × ℕ × ℕ × ℕ)
stored m = map (λ (j : Job). (j.ticket, j.nodes, j.start, j.promise)) m.jobs

abbrev houses : Model → List (ℕ × Tenant)
houses m = map (λ (j : Job). (j.ticket, j.tenant)) m.jobs

-- ## The Promise Desk

abbrev promise : Model
promise = after conservative.call (ten Conservative 0 1) three

abbrev promised : Amendment → Result
promised a = amended conservative.call promise a

-- as it was; an estimate that grows within its held time; "two frames too many", and the next one begins now; so few that it begins now itself,
-- and the next one moves: the promises stay
pub promise_in_place : (stored promise ≡ (1, 6, 0, 0) ∷ (2, 8, 20, 20) ∷ (3, 3, 30, 30) ∷ [])
    × (says (promised (to 3 3 25)) ≡ (refusal.None, 3, 30, [], none))
    × (says (promised (to 2 6 10)) ≡ (refusal.None, 2, 20, 3 ∷ [], none))
    × (stored (promised (to 2 6 10)).model ≡ (1, 6, 0, 0) ∷ (2, 6, 20, 20) ∷ (3, 3, 0, 30) ∷ [])
    × (says (promised (to 2 4 10)) ≡ (refusal.None, 2, 20, 2 ∷ [], none))
    × (stored (promised (to 2 4 10)).model ≡ (1, 6, 0, 0) ∷ (2, 4, 0, 20) ∷ (3, 3, 10, 30) ∷ [])
unfolding opening_refusal opening verdict times.longest times.cleanup times.run_time times.hold_time times.until spans.takes spans.last_end spans.fits spans.earliest conservative.planned conservative.submit_refusal conservative.submitted conservative.pass conservative.passes conservative.compressed conservative.amended_to conservative.amended conservative.call scheduler.amend_refusal scheduler.in_place_refusal amended
promise_in_place = (refl, refl, refl, refl, refl, refl)

-- by a node; by the held time alone; by all nodes, and the withdrawal starts the next one; by the held time with fewer nodes, and it starts itself
-- too. B's only place goes to the new ticket
pub promise_grows : (says (promised (to 3 4 21)) ≡ (refusal.None, 4, 30, [], none))
    × (stored (promised (to 3 4 21)).model ≡ (1, 6, 0, 0) ∷ (2, 8, 20, 20) ∷ (4, 4, 30, 30) ∷ [])
    × (houses (promised (to 3 4 21)).model ≡ (1, A) ∷ (2, A) ∷ (4, B) ∷ [])
    × (says (promised (to 3 3 26)) ≡ (refusal.None, 4, 30, [], none))
    × (says (promised (to 2 10 10)) ≡ (refusal.None, 4, 25, 3 ∷ [], none))
    × (says (promised (to 2 1 11)) ≡ (refusal.None, 4, 0, 3 ∷ 4 ∷ [], none))
unfolding opening_refusal opening verdict refusals.depart_refusal times.longest times.cleanup times.run_time times.hold_time times.until spans.takes spans.last_end spans.fits spans.earliest conservative.planned conservative.submit_refusal conservative.submitted conservative.advanced conservative.departed conservative.pass conservative.passes conservative.compressed conservative.call scheduler.amend_refusal resubmitted amended
promise_grows = (refl, refl, refl, refl, refl, refl)

-- "11 for the named ticket, then 1, 2 and 19", of one that runs and of one that waits
abbrev reason : Amendment → Refusal
reason a = (promised a).reply.refusal

pub promise_refuses : (reason (record { ticket = 1; nodes = 11; estimate = 0; least = 1 }) ≡ refusal.NotWaiting)
    × (reason (record { ticket = 3; nodes = 11; estimate = 0; least = 1 }) ≡ refusal.NodesOutOfRange)
    × (reason (record { ticket = 3; nodes = 3; estimate = 0; least = 1 }) ≡ refusal.MinutesOutOfRange)
    × (reason (record { ticket = 3; nodes = 3; estimate = 21; least = 22 }) ≡ refusal.LeastAboveMost)
    × (reason (record { ticket = 3; nodes = 3; estimate = 21; least = 21 }) ≡ refusal.None)
unfolding opening_refusal opening verdict times.longest times.cleanup times.run_time times.hold_time times.until spans.takes spans.last_end spans.fits spans.earliest conservative.planned conservative.submit_refusal conservative.submitted conservative.pass conservative.passes conservative.compressed conservative.amended_to conservative.amended conservative.call scheduler.amend_refusal scheduler.in_place_refusal amended
promise_refuses = (refl, refl, refl, refl, refl)

-- ticket 999,999 has been given; the hold of the last one ends with the last minute
abbrev no_ticket_of : Model
no_ticket_of = after conservative.call (ten Conservative 0 999997) three

abbrev last_minutes : Model
last_minutes = after conservative.call (ten Conservative 999945 1) three

-- "and if either grows the rest of intake's .. If that intake is refused, the old order remains untouched": 5 and 6; the whole model is as it
-- was. In place none of them is asked
pub growth_refused : (amended conservative.call no_ticket_of (to 999998 10 10) ≡ refuse no_ticket_of refusal.NoTicketLeft)
    × (amended conservative.call last_minutes (to 3 3 26) ≡ refuse last_minutes refusal.PastHorizon)
    × (says (amended conservative.call no_ticket_of (to 999998 8 5)) ≡ (refusal.None, 999998, 20, [], none))
    × (says (amended conservative.call last_minutes (to 3 3 25)) ≡ (refusal.None, 3, 999975, [], none))
unfolding opening_refusal opening verdict refusals.depart_refusal times.longest times.cleanup times.run_time times.hold_time times.until spans.takes spans.last_end spans.fits spans.earliest conservative.planned conservative.submit_refusal conservative.submitted conservative.advanced conservative.departed conservative.pass conservative.passes conservative.compressed conservative.amended_to conservative.amended conservative.call scheduler.amend_refusal scheduler.in_place_refusal resubmitted amended
growth_refused = (refl, refl, refl, refl)

-- ## The Loose Desk

abbrev loose : Model
loose = after easy.call (ten Easy 7 1) three

abbrev settled : Amendment → Result
settled a = amended easy.call loose a

-- ticket, nodes, intake minute, r and forecast of each record
abbrev noted : Model → List (ℕ × ℕ × ℕ × ℕ × ℕ)
noted m = map (λ (j : Job). (j.ticket, j.nodes, j.submitted, j.rank, j.forecast)) m.jobs

-- an estimate that grows within its held time; a later job is within the extra nodes now and passes; the head waits on with fewer nodes, and the
-- next one passes by the extra that it leaves; the head starts, and the next one hears its forecast. "keeps .. on the Loose Desk its intake
-- minute, r and forecast"
pub loose_in_place : (noted loose ≡ (1, 6, 7, 1, 0) ∷ (2, 8, 7, 1, 27) ∷ (3, 3, 7, 2, 0) ∷ [])
    × (says (settled (to 3 3 25)) ≡ (refusal.None, 3, 0, [], none))
    × (says (settled (to 3 2 21)) ≡ (refusal.None, 3, 0, 3 ∷ [], none))
    × (says (settled (to 2 7 10)) ≡ (refusal.None, 2, 0, 3 ∷ [], none))
    × (noted (settled (to 2 7 10)).model ≡ (1, 6, 7, 1, 0) ∷ (2, 7, 7, 1, 27) ∷ (3, 3, 7, 2, 0) ∷ [])
    × (says (settled (to 2 4 10)) ≡ (refusal.None, 2, 0, 2 ∷ [], some (3, 17)))
    × (noted (settled (to 2 4 10)).model ≡ (1, 6, 7, 1, 0) ∷ (2, 4, 7, 1, 27) ∷ (3, 3, 7, 2, 17) ∷ [])
unfolding opening_refusal opening verdict times.longest times.cleanup times.run_time times.hold_time times.unit times.until easy.shadow easy.extra easy.qualifies easy.pick easy.settle easy.forecast easy.finished easy.submit_refusal easy.call scheduler.amend_refusal scheduler.in_place_refusal amended
loose_in_place = (refl, refl, refl, refl, refl, refl, refl)

-- by a node: the next one starts by the withdrawal, and the new ticket is head; by the held time alone, last in the queue; and with one node, for
-- which it starts at once too. r is that of its own intake: nobody waits once the old one is withdrawn and the next one has started
pub loose_grows : (says (settled (to 2 9 10)) ≡ (refusal.None, 4, 0, 3 ∷ [], some (4, 32)))
    × (noted (settled (to 2 9 10)).model ≡ (1, 6, 7, 1, 0) ∷ (3, 3, 7, 2, 0) ∷ (4, 9, 7, 1, 32) ∷ [])
    × (says (settled (to 3 3 26)) ≡ (refusal.None, 4, 0, [], none))
    × (noted (settled (to 3 3 26)).model ≡ (1, 6, 7, 1, 0) ∷ (2, 8, 7, 1, 27) ∷ (4, 3, 7, 2, 0) ∷ [])
    × (houses (settled (to 3 3 26)).model ≡ (1, A) ∷ (2, A) ∷ (4, B) ∷ [])
    × (says (settled (to 2 1 11)) ≡ (refusal.None, 4, 0, 3 ∷ 4 ∷ [], none))
unfolding opening_refusal opening verdict refusals.depart_refusal times.longest times.cleanup times.run_time times.hold_time times.unit times.until easy.shadow easy.extra easy.qualifies easy.pick easy.settle easy.forecast easy.finished easy.submit_refusal easy.advanced easy.call scheduler.amend_refusal resubmitted amended
loose_grows = (refl, refl, refl, refl, refl, refl)

-- one node, on which a job runs and two wait; at 979,835 the last one's hold just ends with the last minute where it starts at its bound
abbrev crowded : (minute ticket : ℕ) → Model
crowded m t = after easy.call (opening (record {
  settings = record { kind = Easy; nodes = 1; cleanup = 0; quota_a = 63; quota_b = 1; longest = 10080 };
  minute = m;
  ticket = t;
})) (submit (order 1 5) ∷ submit (order 1 5) ∷ submit (order 1 5) ∷ [])

-- 6 is judged with r as the withdrawal leaves it, which is 2 and not 3; 5; and 11, 1, 2 and 19: the whole model is as it was
pub loose_refuses : (amended easy.call (crowded 979835 1) (to 2 1 6) ≡ refuse (crowded 979835 1) refusal.PastHorizon)
    × (says (amended easy.call (crowded 979830 1) (to 2 1 6)) ≡ (refusal.None, 4, 0, [], some (3, 979835)))
    × (amended easy.call (crowded 0 999997) (to 999998 1 6) ≡ refuse (crowded 0 999997) refusal.NoTicketLeft)
    × (settled (record { ticket = 1; nodes = 11; estimate = 0; least = 1 }) ≡ refuse loose refusal.NotWaiting)
    × (settled (record { ticket = 3; nodes = 11; estimate = 0; least = 1 }) ≡ refuse loose refusal.NodesOutOfRange)
    × (settled (record { ticket = 3; nodes = 3; estimate = 0; least = 1 }) ≡ refuse loose refusal.MinutesOutOfRange)
    × (settled (record { ticket = 3; nodes = 3; estimate = 21; least = 22 }) ≡ refuse loose refusal.LeastAboveMost)
unfolding opening_refusal opening verdict refusals.depart_refusal times.longest times.cleanup times.run_time times.hold_time times.unit times.until easy.shadow easy.extra easy.qualifies easy.pick easy.settle easy.forecast easy.finished easy.submit_refusal easy.advanced easy.call scheduler.amend_refusal resubmitted amended
loose_refuses = (refl, refl, refl, refl, refl, refl, refl)

-- "its soonest minute counts afresh": a job that is not over before minute 10 holds 6 nodes, and 4 are free
abbrev behind : Model
behind = after easy.call (ten Easy 0 1) (submit (order_between A 6 10 20) ∷ submit (order 8 10) ∷ submit (order 5 21) ∷ [])

pub soonest_afresh : ((earliest_start behind 3).minute ≡ 10)
    × (says (amended easy.call behind (to 3 3 21)) ≡ (refusal.None, 3, 0, [], none))
    × ((earliest_start (amended easy.call behind (to 3 3 21)).model 3).minute ≡ 0)
    × ((earliest_start (amended easy.call behind (to 3 3 21)).model 2).minute ≡ 10)
unfolding opening_refusal opening verdict times.longest times.cleanup times.run_time times.hold_time times.unit times.until easy.shadow easy.extra easy.qualifies easy.pick easy.settle easy.forecast easy.finished easy.submit_refusal easy.call earliest_start scheduler.amend_refusal scheduler.in_place_refusal amended
soonest_afresh = (refl, refl, refl, refl)

-- ## The calls that they count as

pub counts_as : (amend_calls conservative.call promise (to 2 6 10) ≡ amend (to 2 6 10) ∷ [])
    × (amend_calls conservative.call promise (to 3 4 21) ≡ cancel 3 ∷ submit (order_of B 4 21) ∷ [])
    × (amend_calls conservative.call last_minutes (to 3 3 26) ≡ unchanged refusal.PastHorizon ∷ [])
    × (amend_calls conservative.call promise (to 1 6 20) ≡ unchanged refusal.NotWaiting ∷ [])
unfolding opening_refusal opening verdict refusals.depart_refusal times.longest times.cleanup times.run_time times.hold_time times.until spans.takes spans.last_end spans.fits spans.earliest conservative.planned conservative.submit_refusal conservative.submitted conservative.advanced conservative.departed conservative.pass conservative.passes conservative.compressed conservative.call scheduler.amend_refusal resubmit_calls amend_calls
counts_as = (refl, refl, refl, refl)
