-- What a call tells in numbers and in lent lists of tickets.
-- Assumes nothing.
use Rattle.std.specs.Prelude.{ℕ, ◌≡◌, refl, List}
use Rattle.scheduler.specs.declared.Refusal.{Refusal}
use Rattle.scheduler.specs.Answers.{Reply, refusing, head_ticket, head_minute}
use Rattle.scheduler.specs.Model.{Model}
use Rattle.job_columns.specs.Columns.{Whole}
use Rattle.column_parts.specs.Counted.{Told}
use Rattle.column_parts.specs.ColumnParts.{Listing}

-- the reply, in numbers; how many points were read is not told
pub record TellsReply (reply : Reply) (r : Told) (ended started : List ℕ) : Type 0 where
  pub refusal_is : r.refusal ≡ reply.refusal
  pub ticket_is : r.ticket ≡ reply.ticket
  pub promise_is : r.promise ≡ reply.promise
  pub head_is_lem : r.head ≡ head_ticket reply.head
  pub forecast_is : r.forecast ≡ head_minute reply.head
  pub ended_are : Listing reply.ended ended r.ended
  pub started_are : Listing reply.started started r.started

-- the clock and the next ticket after the call
pub record TellsModel (m : Model) (r : Told) : Type 0 where
  pub clock_is : r.clock ≡ m.clock
  pub next_is : r.next ≡ m.next

-- a refused call: its reason, and all numbers as they were
abbrev pub refused_told : Refusal → (clock next live count holding spare : ℕ) → Told
refused_told why clock next live count holding spare = record {
  refusal = why;
  ticket = 0;
  promise = 0;
  head = 0;
  forecast = 0;
  ended = 0;
  started = 0;
  clock = clock;
  next = next;
  live = live;
  count = count;
  holding = holding;
  spare = spare;
}

pub refused_tells : (why : Refusal) (clock next live count holding spare : ℕ) (ended started : List ℕ) → Whole ended → Whole started
    → TellsReply (refusing why) (refused_told why clock next live count holding spare) ended started
refused_tells why clock next live count holding spare ended started e s = record {
  refusal_is = refl;
  ticket_is = refl;
  promise_is = refl;
  head_is_lem = refl;
  forecast_is = refl;
  ended_are = record { whole = e; count_is = refl; first_are = refl };
  started_are = record { whole = s; count_is = refl; first_are = refl };
}
