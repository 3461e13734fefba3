-- Lists of calls. Document 01, "The list of calls in demand 3": "Each call, taken or refused, gets the desk that the last one handed
-- back"; "a `wait` as its steps or as one refused call"; "A profile leaves the desk as it is".
-- Assumes nothing.
use Rattle.std.specs.Prelude.{cond, List, [], ◌∷◌, ◌++◌, ℕ, replicate}
use Rattle.scheduler.specs.declared.Refusal.{Refusal}
use Rattle.scheduler.specs.declared.Submission.{Submission}
use Rattle.scheduler.specs.declared.Tenant.{Tenant}
use Rattle.scheduler.specs.declared.Tenant.TheVariants.{A}
use Rattle.scheduler.specs.declared.Departure.{Departure}
use Rattle.scheduler.specs.declared.Departure.TheVariants.{Complete, Cancel}
use Rattle.scheduler.specs.declared.Request.{Request}
use Rattle.scheduler.specs.declared.Request.TheVariants as request
use Rattle.scheduler.specs.Model.{Model}
use Rattle.scheduler.specs.Answers.{Reply, Result, accepts}
use Rattle.scheduler.specs.Refusals.{wait_refusal}
use Rattle.scheduler.specs.declared.Amendment.{Amendment}

pub data Call : Type 0 where
  submit : Submission → Call
  -- a job leaves: an early end, or a withdrawal (document 02, No. 1)
  depart : Departure → (ticket : ℕ) → Call
  tick : Call
  -- a corrected order that does not grow (document 02, No. 13). One that grows counts as its withdrawal and its submission (`amend_calls` in
  -- crates/amend_rules/specs/Amending.antt)
  amend : Amendment → Call
  -- a call that leaves the scheduler as it is, and answers with this refusal or none: a profile, a refused wait
  unchanged : Refusal → Call

-- what a line or an example asks: this many nodes, for a least and a most of minutes. Document 02, No. 7: "An order with one number has least 0."
abbrev pub order_between : Tenant → (nodes least most : ℕ) → Submission
order_between t n l e = record { nodes = n; estimate = e; tenant = t; least = l }

abbrev pub order_of : Tenant → (nodes estimate : ℕ) → Submission
order_of t n e = order_between t n 0 e

-- document 02, No. 4: "Document 01's examples are now read with .. all stacks A's"
abbrev pub order : (nodes estimate : ℕ) → Submission
order n e = order_of A n e

abbrev pub complete : ℕ → Call
complete t = depart Complete t

abbrev pub cancel : ℕ → Call
cancel t = depart Cancel t

-- the call that a request of the code asks for
abbrev pub asked : Request → Call
asked (request.Submit o) = submit o
asked (request.Depart h t) = depart h t
asked request.Tick = tick

-- what each call gives
abbrev pub Rules : Type 0
Rules = Model → Call → Result

pub record Event : Type 0 where
  pub call : Call
  pub reply : Reply

abbrev pub after : Rules → Model → List Call → Model
after R m [] = m
after R m (c ∷ cs) = after R (R m c).model cs

abbrev pub events : Rules → Model → List Call → List Event
events R m [] = []
events R m (c ∷ cs) = let r = R m c in record { call = c; reply = r.reply } ∷ events R r.model cs

-- as a caller has them: each call that was made with the reply received, as far as both lists go
abbrev pub events_of : List Call → List Reply → List Event
events_of [] rs = []
events_of (c ∷ cs) [] = []
events_of (c ∷ cs) (r ∷ rs) = record { call = c; reply = r } ∷ events_of cs rs

-- a command of a script's or a host's list: a call, or a wait
pub data Command : Type 0 where
  ask : Call → Command
  wait : (minutes : ℕ) → Command

abbrev pub calls_of : Model → Command → List Call
calls_of m (ask c) = c ∷ []
calls_of m (wait n) = cond (accepts (wait_refusal m n)) (replicate n tick) (unchanged (wait_refusal m n) ∷ [])

abbrev pub all_calls : Rules → Model → List Command → List Call
all_calls R m [] = []
all_calls R m (q ∷ qs) = calls_of m q ++ all_calls R (after R m (calls_of m q)) qs
