-- An answer of the code loses nothing: for every call on a valid model, the answer says the call's reply. Places past a count say nothing, and a
-- head of 0 means none, since no ticket is 0. (`call_fits` in TicketCounts.antt says that the lists have room for all tickets.)
-- Assumes nothing.
use Rattle.std.specs.Prelude.{◌≡◌, refl, List, ℕ, ◌≤◌}
use Rattle.std.proofs.Math.Option.{Option, none, some}
use Rattle.std.proofs.Common.{arith, ne_eqb}
use Rattle.std.proofs.Math.Seq.{take-append_seam}
use Rattle.lists.specs.Pads.{pad}
use Rattle.scheduler.specs.declared.Kind.{Kind}
use Rattle.scheduler.specs.declared.Kind.TheVariants.{Conservative, Easy}
use Rattle.scheduler.specs.Table.{tickets}
use Rattle.scheduler.specs.Model.{Model}
use Rattle.scheduler.specs.Answers.{Reply, Forecast, head_ticket, head_minute, answer, tickets_in, forecast_in, reply_of}
use Rattle.jobs.specs.Order.{asc_in}
use Rattle.history.specs.Calls.{Call}
use Rattle.conservative_laws.specs.Obligations.{conservative_lawful}
use Rattle.easy_laws.specs.Obligations.{easy_lawful}
use Rattle.guarantees.specs.Rules.{rules_of, call}
use Rattle.guarantees.specs.Premise.{ValidBy, Valid}

tickets_back : (ts : List ℕ) → tickets_in (tickets ts) ≡ ts
unfolding tickets pad
tickets_back ts = take-append_seam ts _

forecast_back : (o : Option Forecast) → ((f : Forecast) → o ≡ some f → 1 ≤ f.ticket) → forecast_in (head_ticket o) (head_minute o) ≡ o
forecast_back none h = refl
forecast_back (some f) h = rw (ne_eqb f.ticket 0 (λ e. omega (arith, h f refl)))

-- a forecast names a job of the model, whose tickets begin at 1
head_from : (k : Kind) (m : Model) (c : Call) → ValidBy k m → (f : Forecast) → (rules_of k m c).reply.head ≡ some f → 1 ≤ f.ticket
head_from Conservative m c v f e =
    let o = conservative_lawful.forecasts m c f v e in
    omega (arith, o.is_u, asc_in 1 _ (conservative_lawful.valid m c v).sound.asc o.inside)
head_from Easy m c v f e =
    let w = (easy_lawful.forecasts m c f v e).waits in
    omega (arith, w.named, asc_in 1 _ (easy_lawful.valid m c v).ready.sound.asc w.isin)

pub head_ticket_lem : (m : Model) (c : Call) → Valid m → (f : Forecast) → (call m c).reply.head ≡ some f → 1 ≤ f.ticket
head_ticket_lem m c v = head_from m.settings.kind m c v

-- of any reply in which a head has a ticket
pub replied_back : (r : Reply) → ((f : Forecast) → r.head ≡ some f → 1 ≤ f.ticket) → reply_of (answer r) ≡ r
replied_back r h = λ i. record {
  refusal = r.refusal;
  ticket = r.ticket;
  promise = r.promise;
  reads = r.reads;
  ended = tickets_back r.ended i;
  started = tickets_back r.started i;
  head = forecast_back r.head h i;
}

pub reply_back : (m : Model) (c : Call) → Valid m → reply_of (answer (call m c).reply) ≡ (call m c).reply
reply_back m c v = replied_back (call m c).reply (head_ticket_lem m c v)
