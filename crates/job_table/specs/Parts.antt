-- The part that a call does on the table, whatever the kind: what it gives, and the refusals by numbers.
-- Assumes nothing.
use Rattle.std.specs.Prelude.{ℕ, suc, ◌≡◌, refl, Bool, true, false, cond, List, [], min, ltb, get_or}
use Rattle.std.proofs.Common.{arith}
use Rattle.std.proofs.Math.Option.{Option, none, some}
use borrow.Author.Tests.{ltb-true, ltb-false}
use Rattle.lists.specs.Tests.{case, true_false}
use Rattle.scheduler.specs.declared.Settings.{Settings}
use Rattle.scheduler.specs.declared.Job.{Job}
use Rattle.scheduler.specs.declared.Scheduler.{Scheduler}
use Rattle.scheduler.specs.declared.Submission.{Submission}
use Rattle.scheduler.specs.declared.Departure.{Departure}
use Rattle.scheduler.specs.declared.Departure.TheVariants.{Complete, Cancel}
use Rattle.scheduler.specs.declared.Refusal.{Refusal}
use Rattle.scheduler.specs.declared.Refusal.TheVariants as refusal
use Rattle.scheduler.specs.declared.Select.{Select}
use Rattle.scheduler.specs.declared.Select.TheVariants as select
use Rattle.scheduler.specs.Limits.{slots, horizon}
use Rattle.scheduler.specs.Jobs.{unused, too_early, ends_at, released_at}
use Rattle.scheduler.specs.Settings.{cleanup}
use Rattle.scheduler.specs.Table.{live_of, tickets, ended_of}
use Rattle.scheduler.specs.Model.{Model, ending, store, view, without}
use Rattle.scheduler.specs.Answers.{verdict, accepts}
use Rattle.scheduler.specs.Refusals.{tests_by, not_there_of, depart_refusal, tick_refusal}
use Rattle.job_table.specs.declared.Part.{Part}
use Rattle.job_table.specs.declared.Due.{Due}
use Rattle.job_table.specs.declared.Due.TheVariants as due

pub record Own : Type 0 where
  pub refusal : Refusal
  pub ticket : ℕ
  pub ended : List ℕ
  -- the ticket that was withdrawn, 0 if none was
  pub withdrawn : ℕ
  pub model : Model

-- a job comes
abbrev pub coming : ℕ → Model → Own
coming t m = record { refusal = refusal.None; ticket = t; ended = []; withdrawn = 0; model = m }

abbrev pub refused_own : Model → Refusal → Own
refused_own m r = record { refusal = r; ticket = 0; ended = []; withdrawn = 0; model = m }

-- a refused call changes nothing
abbrev pub judged_own : Model → Refusal → Own → Own
judged_own m r o = cond (accepts r) o (refused_own m r)

-- jobs leave
abbrev pub leaving : Model → ℕ → Select → ℕ → Own
leaving m clock s w = record { refusal = refusal.None; ticket = 0; ended = ended_of s m.jobs; withdrawn = w; model = without m clock s }

abbrev pub withdrawn_by : Departure → ℕ → ℕ
withdrawn_by Complete t = 0
withdrawn_by Cancel t = t

-- an early completion or a withdrawal
abbrev pub departing : Model → Departure → ℕ → Own
departing m h t = judged_own m (depart_refusal m h t) (leaving m m.clock (select.Departing h t) (withdrawn_by h t))

-- a tick
abbrev pub ticking : Model → Own
ticking m = judged_own m (tick_refusal m) (leaving m (suc m.clock) (ending m) 0)

-- a part that is not refused is what it does, and a refused one leaves the model
module _ (m : Model) (r : Refusal) (o : Own) where
  pub own_taken : accepts (judged_own m r o).refusal ≡ true → (accepts r ≡ true) × (judged_own m r o ≡ o)
  own_taken e = case (accepts r) (λ a. (a, rw a)) (λ a. true_false (accepts r) (rw a at e) a)

  pub own_refused : o.refusal ≡ refusal.None → accepts (judged_own m r o).refusal ≡ false
      → (accepts r ≡ false) × (judged_own m r o ≡ refused_own m r)
  own_refused n e = case (accepts r) (λ a. true_false true refl (rw (a, n) at e)) (λ a. (a, rw a))

-- as the code has it
abbrev pub part : Own → Part
part o = record { refusal = o.refusal; ticket = o.ticket; ended = tickets o.ended; withdrawn = o.withdrawn; scheduler = store o.model }

-- a part that gives no tickets
abbrev pub bare_part : Refusal → Scheduler → Part
bare_part r d = record { refusal = r; ticket = 0; ended = tickets []; withdrawn = 0; scheduler = d }

abbrev pub handed : Part → List ℕ → Own
handed p ts = record { refusal = p.refusal; ticket = p.ticket; ended = ts; withdrawn = p.withdrawn; model = view p.scheduler }

-- ## Refusals by numbers

-- of a submission, by the tests that both kinds share
unfoldable pub refusal_by : Settings → (live next : ℕ) → Submission → Refusal
refusal_by S live next o = verdict (tests_by S live next o [])

abbrev pub shared_refusal : Model → Submission → Refusal
shared_refusal m o = refusal_by m.settings (live_of o.tenant m.jobs) m.next o

-- of an early completion or a withdrawal, by where the job was found; the slot is the one after the last if there is none
pub record Found : Type 0 where
  pub refusal : Refusal
  pub slot : ℕ

abbrev pub found_at : Scheduler → Departure → Option ℕ → Found
found_at d h (some i) =
    cond
    (too_early d.clock h (get_or d.jobs i unused))
    (record { refusal = refusal.BeforeLeast; slot = slots })
    (record { refusal = refusal.None; slot = i })
found_at d h none = record { refusal = not_there_of h; slot = slots }

-- whether its run ends, and its ticket if it is withdrawn
abbrev pub ends? : Departure → Bool
ends? Complete = true
ends? Cancel = false

abbrev pub ends_if : Departure → Bool → Bool
ends_if h found = cond found (ends? h) false

-- whether it is in cleanup then
abbrev pub cleans_if : Departure → Bool → Settings → Bool
cleans_if h found S = cond (ends_if h found) (ltb 0 (cleanup S)) false

abbrev pub withdrawn_if : Departure → Bool → ℕ → ℕ
withdrawn_if h found t = cond found (withdrawn_by h t) 0

abbrev pub past_horizon : ℕ → Refusal
past_horizon clock = cond (ltb horizon clock) refusal.PastHorizon refusal.None

abbrev pub capped_clock : ℕ → ℕ
capped_clock clock = cond (ltb horizon clock) horizon clock

pub capped_min : (clock : ℕ) → min clock horizon ≡ capped_clock clock
capped_min clock = case (ltb horizon clock) (λ e. rw e (omega (arith, ltb-true horizon clock e))) (λ e. rw e (omega (arith, ltb-false horizon clock e)))

-- what a tick does to a job: its run ends, or its nodes are free again
abbrev pub due_by : Settings → ℕ → Job → Due
due_by S t j = cond (ends_at S t j) due.Ends (cond (released_at S t j) due.Leaves due.Stays)
