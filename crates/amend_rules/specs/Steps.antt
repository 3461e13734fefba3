-- Lists of calls with corrected orders among them (document 01, "The list of calls in demand 3": "Calls that later requests add on the same desk
-- join the list, with what those requests say of them. The words go by the calls and their answers").
-- Assumes nothing.
use Rattle.std.specs.Prelude.{◌&&◌, cond, List, [], ◌∷◌, ◌++◌, ℕ, eqb}
use Rattle.scheduler.specs.declared.Submission.{Submission}
use Rattle.scheduler.specs.declared.Amendment.{Amendment}
use Rattle.scheduler.specs.declared.Tenant.{Tenant}
use Rattle.scheduler.specs.declared.Tenant.TheVariants.{Nobody}
use Rattle.scheduler.specs.Model.{Model}
use Rattle.scheduler.specs.Answers.{Result, Reply}
use Rattle.history.specs.Calls as history
use Rattle.history.specs.Calls.{Call, Event, Rules, after}
use Rattle.history.specs.Book.{Entry, Book, is_waiting, enter_all}
use Rattle.amend_rules.specs.Amending.{amended, amend_calls, event, events_said}

-- ## What is asked, and the calls that it counts as

-- what gets one answer: a call, or a corrected order
pub data Step : Type 0 where
  ask : Call → Step
  corrects : Amendment → Step

abbrev pub stepped : Rules → Model → Step → Result
stepped R m (ask c) = R m c
stepped R m (corrects a) = amended R m a

abbrev pub step_calls : Rules → Model → Step → List Call
step_calls R m (ask c) = c ∷ []
step_calls R m (corrects a) = amend_calls R m a

-- "Each call, taken or refused, gets the desk that the last one handed back"
abbrev pub all_steps : Rules → Model → List Step → List Call
all_steps R m [] = []
all_steps R m (q ∷ qs) = step_calls R m q ++ all_steps R (stepped R m q).model qs

abbrev pub replies : Rules → Model → List Step → List Reply
replies R m [] = []
replies R m (q ∷ qs) = (stepped R m q).reply ∷ replies R (stepped R m q).model qs

-- and with waits, each "as its steps or as one refused call"
pub data Asked : Type 0 where
  step : Step → Asked
  wait : (minutes : ℕ) → Asked

abbrev pub asked_calls : Rules → Model → Asked → List Call
asked_calls R m (step q) = step_calls R m q
asked_calls R m (wait n) = history.calls_of m (history.wait n)

abbrev pub all_asked : Rules → Model → List Asked → List Call
all_asked R m [] = []
all_asked R m (q ∷ qs) = asked_calls R m q ++ all_asked R (after R m (asked_calls R m q)) qs

-- ## What they and their answers say

-- "The house is kept": that of the waiting job with this ticket, by the book
abbrev pub house_in : List Entry → (ticket : ℕ) → Tenant
house_in [] t = Nobody
house_in (x ∷ xs) t = let later = house_in xs t in cond (is_waiting x && eqb x.ticket t) x.tenant later

abbrev pub order_by : Book → Amendment → Submission
order_by b a = record { nodes = a.nodes; estimate = a.estimate; tenant = house_in b.entries a.ticket; least = a.least }

abbrev pub said_by : Book → Step → Reply → List Event
said_by b (ask c) r = event c r ∷ []
said_by b (corrects a) r = events_said a (order_by b a) r

-- what steps and the replies received say, as far as both lists go, from a book on; u is the unit of the bound, and nodes stay taken for k minutes
-- after the end
abbrev pub said_all : (u k : ℕ) → Book → List Step → List Reply → List Event
said_all u k b [] rs = []
said_all u k b (q ∷ qs) [] = []
said_all u k b (q ∷ qs) (r ∷ rs) = let es = said_by b q r in es ++ said_all u k (enter_all u k b es) qs rs
