-- Corrected orders (document 02, No. 13), above both kinds. One is taken in place, or it is a withdrawal and a submission. Here are also the calls
-- that it counts as in a list, and what a caller can tell of these calls by its one answer.
-- Assumes nothing.
use Rattle.std.specs.Prelude.{not, cond, List, [], ◌∷◌, ◌++◌, ℕ, eqb}
use Rattle.std.proofs.Math.Option.{Option, none, some}
use Rattle.lists.specs.Lists.{keep}
use Rattle.scheduler.specs.declared.Job.{Job}
use Rattle.scheduler.specs.declared.Submission.{Submission}
use Rattle.scheduler.specs.declared.Amendment.{Amendment}
use Rattle.scheduler.specs.declared.Refusal.TheVariants as refusal
use Rattle.scheduler.specs.Model.{Model}
use Rattle.scheduler.specs.Answers.{Result, Reply, Forecast, accepts, refuse}
use Rattle.scheduler.specs.Refusals.{judged}
use Rattle.scheduler.specs.Amending.{named, amend_refusal, grows, order_for}
use Rattle.history.specs.Calls.{Call, Event, Rules, submit, cancel, amend, unchanged}

-- ## What one gives

-- who hears a forecast: a head that the withdrawal made, otherwise one that the submission made
abbrev pub hears : Option Forecast → Option Forecast → Option Forecast
hears none f = f
hears (some g) f = some g

-- "either way the answer gives ticket and promise as intake's does": those of the submission. The tickets that the withdrawal started stand before
-- the one that the submission started
abbrev pub answered_both : Reply → Reply → Reply
answered_both w r = record {
  refusal = r.refusal;
  ticket = r.ticket;
  promise = r.promise;
  reads = r.reads;
  ended = [];
  started = w.started ++ r.started;
  head = hears w.head r.head;
}

abbrev pub both_of : Result → Result → Result
both_of w r = record { reply = answered_both w.reply r.reply; model = r.model }

-- "the old ticket is withdrawn and the order is taken in last with a new ticket, judged on the desk as the withdrawal leaves it. If that intake
-- is refused, the old order remains untouched." j is the old order's job
unfoldable pub resubmitted : Rules → Model → Amendment → Job → Result
resubmitted R m a j =
    let w = R m (cancel a.ticket) in
    let r = R w.model (submit (order_for a j)) in
    judged m r.reply.refusal (both_of w r)

-- "If neither nodes nor held time grow, it supersedes that record in place .. If either grows, the old ticket is withdrawn"
abbrev pub amended_of : Rules → Model → Amendment → Option Job → Result
amended_of R m a none = refuse m refusal.NotWaiting
amended_of R m a (some j) =
    let anew = resubmitted R m a j in
    let placed = R m (amend a) in
    cond (grows m.settings a j) anew placed

-- "Checks: 11 for the named ticket, then 1, 2 and 19, and if either grows the rest of intake's."
unfoldable pub amended : Rules → Model → Amendment → Result
amended R m a = judged m (amend_refusal m a) (amended_of R m a (named m a))

-- ## The calls that it counts as in a list of demand 3

-- One that grows counts as its withdrawal and its submission. If that submission is refused, it counts as one refused call, as document 01 says of
-- a `wait`: "as its steps or as one refused call". So the bound of the new ticket counts the jobs that wait once the old one is withdrawn.
unfoldable pub resubmit_calls : Rules → Model → Amendment → Job → List Call
resubmit_calls R m a j =
    let x = (R (R m (cancel a.ticket)).model (submit (order_for a j))).reply.refusal in
    cond (accepts x) (cancel a.ticket ∷ submit (order_for a j) ∷ []) (unchanged x ∷ [])

abbrev pub calls_of : Rules → Model → Amendment → Option Job → List Call
calls_of R m a none = unchanged refusal.NotWaiting ∷ []
calls_of R m a (some j) = let anew = resubmit_calls R m a j in cond (grows m.settings a j) anew (amend a ∷ [])

unfoldable pub amend_calls : Rules → Model → Amendment → List Call
amend_calls R m a = cond (accepts (amend_refusal m a)) (calls_of R m a (named m a)) (unchanged (amend_refusal m a) ∷ [])

-- ## These calls as a caller sees them, by the one answer

-- t is a new ticket: any other job that has started or become head did so by the withdrawal
abbrev pub head_else : ℕ → Option Forecast → Option Forecast
head_else t none = none
head_else t (some f) = cond (eqb f.ticket t) none (some f)

abbrev pub head_only : ℕ → Option Forecast → Option Forecast
head_only t none = none
head_only t (some f) = cond (eqb f.ticket t) (some f) none

abbrev pub of_withdrawal : Reply → Reply
of_withdrawal r = record {
  refusal = r.refusal;
  ticket = 0;
  promise = 0;
  reads = 0;
  ended = [];
  started = keep (λ (u : ℕ). not (eqb u r.ticket)) r.started;
  head = head_else r.ticket r.head;
}

abbrev pub of_submission : Reply → Reply
of_submission r = record {
  refusal = r.refusal;
  ticket = r.ticket;
  promise = r.promise;
  reads = r.reads;
  ended = [];
  started = keep (λ (u : ℕ). eqb u r.ticket) r.started;
  head = head_only r.ticket r.head;
}

abbrev pub event : Call → Reply → Event
event c r = record { call = c; reply = r }

-- refused; in place, under the ticket that it names; or under a new one, and then o is what was taken in
abbrev pub events_said : Amendment → Submission → Reply → List Event
events_said a o r =
    cond (accepts r.refusal)
    (cond (eqb r.ticket a.ticket)
    (event (amend a) r ∷ [])
    (event (cancel a.ticket) (of_withdrawal r) ∷ event (submit o) (of_submission r) ∷ []))
    (event (unchanged r.refusal) r ∷ [])
