-- What calls answer. Document 01: "A refusal gives its number, no tickets, and the desk and any lent list unchanged."
-- Assumes nothing.
use Rattle.std.specs.Prelude.{Bool, cond, List, [], ◌∷◌, ℕ, eqb, take}
use Rattle.std.proofs.Math.Option.{Option, none, some}
use Rattle.scheduler.specs.declared.Refusal.{Refusal}
use Rattle.scheduler.specs.declared.Refusal.TheVariants as refusal
use Rattle.scheduler.specs.declared.Tickets.{Tickets}
use Rattle.scheduler.specs.declared.Answer.{Answer}
use Rattle.scheduler.specs.declared.Outcome.{Outcome}
use Rattle.scheduler.specs.declared.Scheduler.{Scheduler}
use Rattle.scheduler.specs.Table.{tickets}
use Rattle.scheduler.specs.Model.{Model, store}

-- the documents' number of each refusal; 0 if nothing is refused. 4 and 8 are no longer given; 17 and 18 are for a season's lines only
abbrev pub code : Refusal → ℕ
code refusal.None = 0
code refusal.NodesOutOfRange = 1
code refusal.MinutesOutOfRange = 2
code refusal.OpeningOutOfRange = 3
code refusal.NoTicketLeft = 5
code refusal.PastHorizon = 6
code refusal.NotRunning = 7
code refusal.Malformed = 9
code refusal.TooShort = 10
code refusal.NotWaiting = 11
code refusal.CleanupOutOfRange = 12
code refusal.QuotasOutOfRange = 13
code refusal.UnknownTenant = 14
code refusal.QuotaFull = 15
code refusal.LongestOutOfRange = 16
code refusal.ArrivalFalls = 17
code refusal.NoRunLength = 18
code refusal.LeastAboveMost = 19
code refusal.BeforeLeast = 20
code refusal.WantedMinutePast = 21
code refusal.TextMalformed = 22
code refusal.TextRejected = 23

-- "Where several apply, order": the first test that holds decides
unfoldable pub verdict : List (Bool × Refusal) → Refusal
verdict [] = refusal.None
verdict (t ∷ ts) = cond t.0 t.1 (verdict ts)

-- nothing is refused
abbrev pub accepts : Refusal → Bool
accepts r = eqb (code r) 0

-- a job that is head now and was not before, with its forecast
pub record Forecast : Type 0 where
  pub ticket : ℕ
  pub minute : ℕ

-- An answer: the refusal; of a submission the ticket, the promise and how many points were read for it; the tickets ended and started; the new
-- head.
pub record Reply : Type 0 where
  pub refusal : Refusal
  pub ticket : ℕ
  pub promise : ℕ
  pub reads : ℕ
  pub ended : List ℕ
  pub started : List ℕ
  pub head : Option Forecast

pub record Result : Type 0 where
  pub reply : Reply
  pub model : Model

abbrev pub head_ticket : Option Forecast → ℕ
head_ticket none = 0
head_ticket (some f) = f.ticket

abbrev pub head_minute : Option Forecast → ℕ
head_minute none = 0
head_minute (some f) = f.minute

-- the answer as the code gives it: what a call does not give is 0
abbrev pub answer : Reply → Answer
answer r = record {
  refusal = r.refusal;
  ticket = r.ticket;
  promise = r.promise;
  reads = r.reads;
  ended = tickets r.ended;
  started = tickets r.started;
  head = head_ticket r.head;
  forecast = head_minute r.head;
}

-- the tickets that an answer gives: places past the count say nothing
abbrev pub tickets_in : Tickets → List ℕ
tickets_in t = take t.count t.list

-- the new head that it gives: tickets begin at 1 (refusal 3: "first ticket outside 1 to 999,999"), so that a head of 0 says none
abbrev pub forecast_in : (head forecast : ℕ) → Option Forecast
forecast_in t f = cond (eqb t 0) none (some (record { ticket = t; minute = f }))

-- the reply that an answer of the code says: of every call it is the call's reply (`reply_back` in crates/guarantees/specs/Replies.antt)
abbrev pub reply_of : Answer → Reply
reply_of a = record {
  refusal = a.refusal;
  ticket = a.ticket;
  promise = a.promise;
  reads = a.reads;
  ended = tickets_in a.ended;
  started = tickets_in a.started;
  head = forecast_in a.head a.forecast;
}

abbrev pub outcome : Result → Outcome
outcome r = record { answer = answer r.reply; scheduler = store r.model }

abbrev pub no_tickets : Tickets
no_tickets = tickets []

-- a refused call: its reason and nothing else, and the model as it was
abbrev pub refusing : Refusal → Reply
refusing r = record { refusal = r; ticket = 0; promise = 0; reads = 0; ended = []; started = []; head = none }

abbrev pub refuse : Model → Refusal → Result
refuse m r = record { reply = refusing r; model = m }

abbrev pub refused_answer : Refusal → Answer
refused_answer r = answer (refusing r)

abbrev pub refused_outcome : Scheduler → Refusal → Outcome
refused_outcome d r = record { answer = refused_answer r; scheduler = d }
