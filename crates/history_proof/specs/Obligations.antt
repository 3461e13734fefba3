-- What a kind of scheduler owes of each single call. From this alone follow the guarantees of whole lists (Proof.antt), and that a ticket that is
-- over is in no later answer (Gone.antt).
-- Assumes nothing.
use Rattle.std.specs.Prelude.{◌≡◌, Bool, true, false, List, ◌++◌, map, ◌⊎◌, ℕ, suc, ◌+◌, ◌*◌, ◌≤◌, ◌<◌, length}
use Rattle.std.proofs.Math.Option.{Option, some}
use Rattle.lists.specs.Lists.{keep, elem, All, In}
use Rattle.scheduler.specs.declared.Kind.{Kind}
use Rattle.scheduler.specs.declared.Kind.TheVariants.{Conservative, Easy}
use Rattle.scheduler.specs.declared.Job.{Job}
use Rattle.scheduler.specs.declared.Tenant.{Tenant}
use Rattle.scheduler.specs.Jobs.{is_waiting}
use Rattle.scheduler.specs.Settings.{cleanup, unit, bound_of, quota}
use Rattle.scheduler.specs.Table.{nodes_held, live_of, tickets_of}
use Rattle.scheduler.specs.Model.{Model, Live}
use Rattle.scheduler.specs.Answers.{Forecast}
use Rattle.jobs.specs.Departing.{Ran}
use Rattle.jobs.specs.Soundness.{Sound}
use Rattle.history.specs.Calls.{Call, Rules}
use Rattle.history.specs.News.{Newcomer, amended_ticket, News, news_of, clock_after, amended_nodes, amended_least}
use Rattle.history.specs.Tickets.{next_after}
use Rattle.history.specs.Book.{Fate, waiting, running, cleaning, ended, withdrawn, fate_after, lowest, asked_of}
use Rattle.history.specs.Beginning.{fate_by}

-- ## What calls and answers can show of a job

pub record JobShown : Type 0 where
  pub ticket : ℕ
  pub nodes : ℕ
  pub promise : ℕ
  pub tenant : Tenant
  pub least : ℕ
  pub fate : Fate

abbrev pub shown : Job → JobShown
shown j = record {
  ticket = j.ticket;
  nodes = j.nodes;
  promise = j.promise;
  tenant = j.tenant;
  least = j.least;
  fate = fate_by j.state j.start j.end;
}

abbrev pub live : Fate → Bool
live waiting = true
live (running s) = true
live (cleaning s e) = true
live (ended s) = false
live (withdrawn w) = false

abbrev pub is_live_of : JobShown → Bool
is_live_of x = live x.fate

-- after an event that left the clock at c, where nodes stay taken for k minutes
abbrev pub remark : (k c : ℕ) → News → JobShown → JobShown
remark k c e x = record {
  ticket = x.ticket;
  nodes = asked_of amended_nodes e.amended x.fate x.ticket x.nodes;
  promise = x.promise;
  tenant = x.tenant;
  least = asked_of amended_least e.amended x.fate x.ticket x.least;
  fate = fate_after k c e x.ticket x.fate;
}

-- the jobs that are live after it
abbrev pub shown_after : (k c : ℕ) → News → List JobShown → List JobShown
shown_after k c e xs = keep is_live_of (map (remark k c e) xs)

-- the jobs that come
abbrev pub newly : Newcomer → JobShown
newly o = record { ticket = o.ticket; nodes = o.nodes; promise = o.promise; tenant = o.tenant; least = o.least; fate = waiting }

abbrev pub comers : News → List JobShown
comers e = map newly e.came

-- it tells what has changed: the jobs after it are those before it and those that come, as it says
abbrev pub Tells : Model → News → Model → Type 0
Tells m e m' = map shown m'.jobs ≡ shown_after (cleanup m'.settings) m'.clock e (map shown m.jobs ++ comers e)

-- what a call says, by its answer
abbrev pub said : Rules → Model → Call → News
said R m c = news_of c (R m c).reply

-- ## What is kept of a start

-- an aim: the minutes in which a job may start, and those in which it may wait
pub record Aim : Type 1 where
  pub may_start : ℕ → Type 0
  pub may_wait : ℕ → Type 0

-- to start by d
abbrev pub by : ℕ → Aim
by d = record { may_start = λ (s : ℕ). s ≤ d; may_wait = λ (w : ℕ). w < d }

-- A job with this fate has started as the aim says, or waits and is on course to: `Course m t`; or it was withdrawn in a minute in which it
-- might still wait.
abbrev pub Meets : Aim → (Model → ℕ → Type 0) → Model → ℕ → Fate → Type 0
Meets a Course m t waiting = Course m t
Meets a Course m t (running s) = a.may_start s
Meets a Course m t (cleaning s e) = a.may_start s
Meets a Course m t (ended s) = a.may_start s
Meets a Course m t (withdrawn w) = a.may_wait w

-- one that waited does so after the event
abbrev pub Kept : Aim → (Model → ℕ → Type 0) → ℕ → News → Model → Type 0
Kept a Course t e m = Meets a Course m t (fate_after (cleanup m.settings) m.clock e t waiting)

-- a job on course may still wait, and every call that does not withdraw it keeps it so or starts it so
pub record Keeps (R : Rules) (Valid : Model → Type 0) (a : Aim) (Course : Model → ℕ → Type 0) : Type 0 where
  pub rest : (m : Model) (t : ℕ) → Valid m → Course m t → a.may_wait m.clock
  pub keeps : (m : Model) (c : Call) (t : ℕ) → Valid m → Course m t → elem t (said R m c).withdrew ≡ false → Kept a Course t (said R m c) (R m c).model

-- ## Deadlines

-- the minute by which a job must start, fixed when it is submitted: its promise or its bound
abbrev pub deadline : Kind → ℕ → ℕ → ℕ
deadline Conservative promise bound = promise
deadline Easy promise bound = bound

-- "the clock at intake + r × 10,080", r "one more than the number of stacks waiting just before its intake"
abbrev pub bound_at : Model → ℕ
bound_at m = m.clock + suc (length (keep is_waiting m.jobs)) * unit m.settings

-- the tickets of those that wait, in order
abbrev pub waiting_tickets : Model → List ℕ
waiting_tickets m = tickets_of (keep is_waiting m.jobs)

-- the ticket of the head
abbrev pub lowest_waiting : Model → Option ℕ
lowest_waiting m = lowest (waiting_tickets m)

-- a job with this ticket waits; one comes
abbrev pub Queued : Model → ℕ → Type 0
Queued m t = elem t (waiting_tickets m) ≡ true

abbrev pub Comes : News → ℕ → Type 0
Comes e t = (o : Newcomer) × In o e.came × (o.ticket ≡ t)

-- `OnCourse m u b`: the job u waits, and will start by b
abbrev pub For : (Model → ℕ → ℕ → Type 0) → ℕ → Model → ℕ → Type 0
For OnCourse b m u = OnCourse m u b

pub record Lawful (k : Kind) (R : Rules) (Valid : Model → Type 0) (OnCourse : Model → ℕ → ℕ → Type 0) : Type 0 where
  pub kind_is : (m : Model) → Valid m → m.settings.kind ≡ k
  pub all_live : (m : Model) → Valid m → All Live m.jobs
  pub capacity : (m : Model) → Valid m → nodes_held m.jobs ≤ m.settings.nodes
  pub shares : (m : Model) → Valid m → (t : Tenant) → live_of t m.jobs ≤ quota m.settings t
  -- each call hands back a valid model with the same settings
  pub valid : (m : Model) (c : Call) → Valid m → Valid (R m c).model
  pub settings : (m : Model) (c : Call) → Valid m → (R m c).model.settings ≡ m.settings
  -- and its answer tells what has changed
  pub clock : (m : Model) (c : Call) → Valid m → (R m c).model.clock ≡ clock_after (said R m c) m.clock
  pub tells : (m : Model) (c : Call) → Valid m → Tells m (said R m c) (R m c).model
  -- a job on course for a deadline is kept so, and is so from its submission on
  pub keeps : (b : ℕ) → Keeps R Valid (by b) (For OnCourse b)
  pub joins : (m : Model) (c : Call) (o : Newcomer) → Valid m → In o (said R m c).came
      → let d = deadline k o.promise (bound_at m) in Kept (by d) (For OnCourse d) o.ticket (said R m c) (R m c).model
  -- a job that starts waited before or comes by the call, and is not withdrawn; a job that is withdrawn waited before
  pub starts : (m : Model) (c : Call) (t : ℕ) → Valid m → elem t (said R m c).started ≡ true
      → (elem t (said R m c).withdrew ≡ false) × (Queued m t ⊎ Comes (said R m c) t)
  pub withdraws : (m : Model) (c : Call) (t : ℕ) → Valid m → elem t (said R m c).withdrew ≡ true → Queued m t
  -- a job that is amended waited before
  pub amends : (m : Model) (c : Call) (t : ℕ) → Valid m → elem t (map amended_ticket (said R m c).amended) ≡ true → Queued m t
  -- a ticket given is not that of the head
  pub fresh : (m : Model) (c : Call) (o : Newcomer) → Valid m → In o (said R m c).came → lowest_waiting m ≡ some o.ticket → ⊥
  -- a forecast is kept, and on the Loose Desk a head that was not head before hears one
  pub forecasts : (m : Model) (c : Call) (f : Forecast) → Valid m → (said R m c).head ≡ some f → OnCourse (R m c).model f.ticket f.minute
  pub hears : k ≡ Easy → (m : Model) (c : Call) (h : ℕ) → Valid m → lowest_waiting (R m c).model ≡ some h → (lowest_waiting m ≡ some h → ⊥)
      → (f : Forecast) × ((said R m c).head ≡ some f) × (f.ticket ≡ h)

-- what it owes of tickets
pub record Ticketed (R : Rules) (Valid : Model → Type 0) (OnCourse : Model → ℕ → ℕ → Type 0) : Type 0 where
  -- live jobs have tickets of their own, given before
  pub sound : (m : Model) → Valid m → Sound m
  -- tickets are given upward by one
  pub next : (m : Model) (c : Call) → Valid m → (R m c).model.next ≡ next_after (said R m c).came m.next
  pub gives : (m : Model) (c : Call) (o : Newcomer) → Valid m → In o (said R m c).came → o.ticket ≡ m.next
  -- a job whose run ends was running, and had run for at least its least; and a job on course waits
  pub ends : (m : Model) (c : Call) (t : ℕ) → Valid m → elem t (said R m c).ended ≡ true → Ran m (clock_after (said R m c) m.clock) t
  pub waits : (m : Model) (t b : ℕ) → OnCourse m t b → Queued m t

-- what it owes of every valid model that a list of calls may start from: each waiting job is on course for its promise or its bound, and for its
-- forecast if it has one; the head has one
pub record Seeded (k : Kind) (Valid : Model → Type 0) (OnCourse : Model → ℕ → ℕ → Type 0) : Type 0 where
  pub waiting : (m : Model) (j : Job) → Valid m → In j m.jobs → is_waiting j ≡ true
      → OnCourse m j.ticket (deadline k j.promise (bound_of m.settings j))
  pub started : k ≡ Conservative → (m : Model) (j : Job) → Valid m → In j m.jobs → j.start ≤ j.promise
  pub forecasts : (m : Model) (j : Job) → Valid m → In j m.jobs → is_waiting j ≡ true → 1 ≤ j.forecast → OnCourse m j.ticket j.forecast
  pub heads : k ≡ Easy → (m : Model) (j : Job) → Valid m → In j m.jobs → is_waiting j ≡ true → lowest_waiting m ≡ some j.ticket → 1 ≤ j.forecast

-- what EASY owes of its records (document 02, No. 11): each job that is live after a call was live before, with the same bound, or comes by the
-- call, with the bound that its submission fixes
pub record Recorded (R : Rules) (Valid : Model → Type 0) : Type 0 where
  pub records : (m : Model) (c : Call) (k : Job) → Valid m → In k (R m c).model.jobs
      → ((j : Job) × In j m.jobs × (j.ticket ≡ k.ticket) × (bound_of m.settings k ≡ bound_of m.settings j))
      ⊎ (Comes (said R m c) k.ticket × (bound_of m.settings k ≡ bound_at m))
