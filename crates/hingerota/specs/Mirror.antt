-- A scheduler, its answers and an opening in numbers, as a host program holds them. An exported function can hold no enum, so a kind, a state and a
-- refusal are numbers. Document 01: "A record has ticket, nodes, estimate, state, start and promise"; document 02, No. 3: a record in cleanup, "and
-- no other, keeps its end"; No. 4: "Each record carries its house", its letter here.
-- Assumes nothing.
use Rattle.std.specs.Prelude.{◌≡◌, refl, map, cond, ℕ, eqb}
use Rattle.scheduler.specs.declared.Kind.{Kind}
use Rattle.scheduler.specs.declared.Kind.TheVariants.{Conservative, Easy}
use Rattle.scheduler.specs.declared.State.{State}
use Rattle.scheduler.specs.declared.State.TheVariants.{Unused, Waiting, Running, Cleanup}
use Rattle.scheduler.specs.Tenants.{tenant_of, letter_of}
use Rattle.scheduler.specs.declared.Job.{Job}
use Rattle.scheduler.specs.declared.Scheduler.{Scheduler}
use Rattle.scheduler.specs.declared.Submission.{Submission}
use Rattle.scheduler.specs.declared.Refusal.{Refusal}
use Rattle.scheduler.specs.declared.Refusal.TheVariants as refusal
use Rattle.scheduler.specs.declared.Tickets as scheduler-tickets
use Rattle.scheduler.specs.declared.Answer as scheduler-answer
use Rattle.scheduler.specs.declared.Outcome as scheduler-outcome
use Rattle.scheduler.specs.declared.Opened as scheduler-opened
use Rattle.scheduler.specs.Limits.{longest_estimate}
use Rattle.scheduler.specs.Jobs.{unused}
use Rattle.scheduler.specs.Answers.{code}
use Rattle.hingerota.specs.declared.Record.{Record}
use Rattle.hingerota.specs.declared.Order.{Order}
use Rattle.hingerota.specs.declared.Desk.{Desk}
use Rattle.hingerota.specs.declared.Tickets.{Tickets}
use Rattle.hingerota.specs.declared.Answer.{Answer}
use Rattle.hingerota.specs.declared.Outcome.{Outcome}
use Rattle.hingerota.specs.declared.Opened.{Opened}

-- ## The scheduler

-- 0 the Promise Desk, 1 the Loose Desk
abbrev pub kind_number : Kind → ℕ
kind_number Conservative = 0
kind_number Easy = 1

abbrev pub state_number : State → ℕ
state_number Unused = 0
state_number Waiting = 1
state_number Running = 2
state_number Cleanup = 3

abbrev pub mirror_job : Job → Record
mirror_job j = record {
  ticket = j.ticket;
  nodes = j.nodes;
  estimate = j.estimate;
  state = state_number j.state;
  tenant = letter_of j.tenant;
  least = j.least;
  start = j.start;
  promise = j.promise;
  end = j.end;
  submitted = j.submitted;
  rank = j.rank;
  forecast = j.forecast;
}

-- an unused slot is all zero here too
abbrev pub no_record : Record
no_record = mirror_job unused

unfoldable pub mirror : Scheduler → Desk
mirror d = record {
  kind = kind_number d.settings.kind;
  nodes = d.settings.nodes;
  cleanup = d.settings.cleanup;
  quota_a = d.settings.quota_a;
  quota_b = d.settings.quota_b;
  clock = d.clock;
  next = d.next;
  jobs = map mirror_job d.jobs;
}

-- what a host's order asks
abbrev pub wanted : Order → Submission
wanted o = record { nodes = o.nodes; estimate = o.estimate; tenant = tenant_of o.tenant; least = o.least }

-- ## Read back. A number that is no kind is read as the Promise Desk, and one that is no state as unused

abbrev pub kind_of : ℕ → Kind
kind_of n = cond (eqb n 1) Easy Conservative

abbrev pub state_of : ℕ → State
state_of n = cond (eqb n 1) Waiting (cond (eqb n 2) Running (cond (eqb n 3) Cleanup Unused))

abbrev pub read_record : Record → Job
read_record r = record {
  ticket = r.ticket;
  nodes = r.nodes;
  estimate = r.estimate;
  state = state_of r.state;
  tenant = tenant_of r.tenant;
  least = r.least;
  start = r.start;
  promise = r.promise;
  end = r.end;
  submitted = r.submitted;
  rank = r.rank;
  forecast = r.forecast;
}

-- and the longest estimate, which a desk has no number for, as 10,080 (document 02, No. 6: "elsewhere 10,080")
unfoldable pub read : Desk → Scheduler
read d = record {
  settings = record {
    kind = kind_of d.kind;
    nodes = d.nodes;
    cleanup = d.cleanup;
    quota_a = d.quota_a;
    quota_b = d.quota_b;
    longest = longest_estimate;
  };
  clock = d.clock;
  next = d.next;
  jobs = map read_record d.jobs;
}

-- ## What calls give

abbrev pub mirror_tickets : scheduler-tickets.Tickets → Tickets
mirror_tickets t = record { count = t.count; list = t.list }

-- "A refusal gives its number"
abbrev pub mirror_answer : scheduler-answer.Answer → Answer
mirror_answer a = record {
  refusal = code a.refusal;
  ticket = a.ticket;
  promise = a.promise;
  reads = a.reads;
  head = a.head;
  forecast = a.forecast;
  ended = mirror_tickets a.ended;
  started = mirror_tickets a.started;
}

-- read back too: no two answers have the same mirror
abbrev pub refusal_of : ℕ → Refusal
refusal_of n =
    cond (eqb n 1) refusal.NodesOutOfRange
    (cond (eqb n 2) refusal.MinutesOutOfRange
    (cond (eqb n 3) refusal.OpeningOutOfRange
    (cond (eqb n 5) refusal.NoTicketLeft
    (cond (eqb n 6) refusal.PastHorizon
    (cond (eqb n 7) refusal.NotRunning
    (cond (eqb n 9) refusal.Malformed
    (cond (eqb n 10) refusal.TooShort
    (cond (eqb n 11) refusal.NotWaiting
    (cond (eqb n 12) refusal.CleanupOutOfRange
    (cond (eqb n 13) refusal.QuotasOutOfRange
    (cond (eqb n 14) refusal.UnknownTenant
    (cond (eqb n 15) refusal.QuotaFull
    (cond (eqb n 16) refusal.LongestOutOfRange
    (cond (eqb n 17) refusal.ArrivalFalls
    (cond (eqb n 18) refusal.NoRunLength
    (cond (eqb n 19) refusal.LeastAboveMost
    (cond (eqb n 20) refusal.BeforeLeast
    (cond (eqb n 21) refusal.WantedMinutePast
    (cond (eqb n 22) refusal.TextMalformed
    (cond (eqb n 23) refusal.TextRejected refusal.None))))))))))))))))))))

abbrev pub read_tickets : Tickets → scheduler-tickets.Tickets
read_tickets t = record { count = t.count; list = t.list }

abbrev pub read_answer_of : Answer → scheduler-answer.Answer
read_answer_of a = record {
  refusal = refusal_of a.refusal;
  ticket = a.ticket;
  promise = a.promise;
  reads = a.reads;
  ended = read_tickets a.ended;
  started = read_tickets a.started;
  head = a.head;
  forecast = a.forecast;
}

refusal_back : (r : Refusal) → refusal_of (code r) ≡ r
refusal_back refusal.None = refl
refusal_back refusal.NodesOutOfRange = refl
refusal_back refusal.MinutesOutOfRange = refl
refusal_back refusal.OpeningOutOfRange = refl
refusal_back refusal.NoTicketLeft = refl
refusal_back refusal.PastHorizon = refl
refusal_back refusal.NotRunning = refl
refusal_back refusal.Malformed = refl
refusal_back refusal.TooShort = refl
refusal_back refusal.NotWaiting = refl
refusal_back refusal.CleanupOutOfRange = refl
refusal_back refusal.QuotasOutOfRange = refl
refusal_back refusal.UnknownTenant = refl
refusal_back refusal.QuotaFull = refl
refusal_back refusal.LongestOutOfRange = refl
refusal_back refusal.ArrivalFalls = refl
refusal_back refusal.NoRunLength = refl
refusal_back refusal.LeastAboveMost = refl
refusal_back refusal.BeforeLeast = refl
refusal_back refusal.WantedMinutePast = refl
refusal_back refusal.TextMalformed = refl
refusal_back refusal.TextRejected = refl

pub read_answer : (a : scheduler-answer.Answer) → read_answer_of (mirror_answer a) ≡ a
read_answer a = λ i. record {
  refusal = refusal_back a.refusal i;
  ticket = a.ticket;
  promise = a.promise;
  reads = a.reads;
  ended = a.ended;
  started = a.started;
  head = a.head;
  forecast = a.forecast;
}

abbrev pub mirror_outcome : scheduler-outcome.Outcome → Outcome
mirror_outcome o = record { answer = mirror_answer o.answer; desk = mirror o.scheduler }

abbrev pub mirror_opened : scheduler-opened.Opened → Opened
mirror_opened o = record { refusal = code o.refusal; desk = mirror o.scheduler }
