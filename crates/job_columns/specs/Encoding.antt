-- The numbers of states and tenants say which these are; and when a job is due.
-- Assumes nothing.
use Rattle.std.specs.Prelude.{ℕ, ◌+◌, ◌-◌, ◌≤◌, ◌≡◌, refl, true, false, cond, ◌&&◌, eqb}
use Rattle.std.proofs.Common.{arith, sym, ◌∙◌, eq-eqb, ne_eqb}
use Rattle.lists.specs.Tests.{case, true_false}
use Rattle.scheduler.specs.declared.State.{State}
use Rattle.scheduler.specs.declared.State.TheVariants.{Unused, Waiting, Running, Cleanup}
use Rattle.scheduler.specs.declared.Tenant.{Tenant}
use Rattle.scheduler.specs.declared.Tenant.TheVariants.{Nobody, A, B}
use Rattle.scheduler.specs.declared.Settings.{Settings}
use Rattle.scheduler.specs.declared.Job.{Job}
use Rattle.scheduler.specs.States.{waiting?, running?, cleaning?}
use Rattle.scheduler.specs.Tenants.{number}
use Rattle.scheduler.specs.Jobs.{is_waiting, is_running, is_cleaning, ends_at, released_at, job_at, cleaning}
use Rattle.scheduler.specs.Settings.{cleanup, run_time, end_of, until}
use Rattle.scheduler.specs.Times.{end_is, until_cleaning, until_cleaned}
use Rattle.jobs.specs.Soundness.{running_clean}
use Rattle.job_columns.specs.JobColumns.{state_number, state_of, never, due_of}

-- ## Numbers

abbrev pub state_at : ℕ → State
state_at n = cond (eqb n 1) Waiting (cond (eqb n 2) Running (cond (eqb n 3) Cleanup Unused))

pub state_back : (s : State) → state_at (state_number s) ≡ s
state_back Unused = refl
state_back Waiting = refl
state_back Running = refl
state_back Cleanup = refl

abbrev pub tenant_at : ℕ → Tenant
tenant_at n = cond (eqb n 1) A (cond (eqb n 2) B Nobody)

pub tenant_back : (t : Tenant) → tenant_at (number t) ≡ t
tenant_back Nobody = refl
tenant_back A = refl
tenant_back B = refl

-- the end of its run: only a job in cleanup has one
abbrev pub end_at : (state due clearing : ℕ) → ℕ
end_at state due clearing = cond (eqb state 3) (due - clearing) 0

-- what the number of a state says
pub number_waiting : (s : State) → eqb (state_number s) 1 ≡ waiting? s
number_waiting Unused = refl
number_waiting Waiting = refl
number_waiting Running = refl
number_waiting Cleanup = refl

pub number_running : (s : State) → eqb (state_number s) 2 ≡ running? s
number_running Unused = refl
number_running Waiting = refl
number_running Running = refl
number_running Cleanup = refl

pub number_cleaning : (s : State) → eqb (state_number s) 3 ≡ cleaning? s
number_cleaning Unused = refl
number_cleaning Waiting = refl
number_cleaning Running = refl
number_cleaning Cleanup = refl

-- ## The minute in which a job is due

running_waits : (s : State) → running? s ≡ true → waiting? s ≡ false
running_waits Unused e = refl
running_waits Waiting e = true_false false e refl
running_waits Running e = refl
running_waits Cleanup e = refl

cleaning_waits : (s : State) → cleaning? s ≡ true → waiting? s ≡ false
cleaning_waits Unused e = refl
cleaning_waits Waiting e = true_false false e refl
cleaning_waits Running e = refl
cleaning_waits Cleanup e = refl

module _ (S : Settings) (j : Job) where
  -- one that waits starts as planned
  pub due_planned : is_waiting j ≡ true → 1 ≤ j.start → due_of S j ≡ j.start
  due_planned w l = rw (w, ne_eqb j.start 0 (λ e. omega arith))

  -- and without a plan at no minute that is known
  pub due_unplanned : is_waiting j ≡ true → j.start ≡ 0 → due_of S j ≡ never
  due_unplanned w e = rw (w, eq-eqb j.start 0 e)

  -- a run ends
  pub due_running : is_running j ≡ true → due_of S j ≡ end_of S j
  due_running r = rw (running_waits j.state r, running_clean j.state r)

  -- nodes are free again
  pub due_cleaning : is_cleaning j ≡ true → due_of S j ≡ until S j
  due_cleaning c = rw (cleaning_waits j.state c, c)

  -- what happens at a tick is by the minute in which the job is due
  pub ends_due : (t : ℕ) → ends_at S t j ≡ (is_running j && eqb (due_of S j) t)
  ends_due t = case (is_running j) (λ r. rw (due_running r)) (λ r. rw r)

  pub releases_due : (t : ℕ) → released_at S t j ≡ (is_cleaning j && eqb (due_of S j) t)
  releases_due t = case (is_cleaning j) (λ c. rw (due_cleaning c)) (λ c. rw c)

  -- once it begins, and once its run has ended
  pub due_begun : (t : ℕ) → due_of S (job_at Running t j) ≡ t + run_time S j.estimate
  due_begun t = end_is S (job_at Running t j)

  pub due_cleaned : (t : ℕ) → due_of S (cleaning t j) ≡ t + cleanup S
  due_cleaned t = until_cleaned S t j

  -- it is due no sooner than the cleanup takes, and before that its run ended
  pub due_after : state_of j ≡ 3 → cleanup S ≤ due_of S j
  due_after e =
      let c : is_cleaning j ≡ true = sym (number_cleaning j.state) ∙ eq-eqb (state_of j) 3 e in
      omega (arith, due_cleaning c, until_cleaning S j c)

  pub end_back : (is_cleaning j ≡ false → j.end ≡ 0) → end_at (state_of j) (due_of S j) (cleanup S) ≡ j.end
  end_back z =
      case (is_cleaning j)
      (λ c. rw (due_cleaning c, number_cleaning j.state, c) (omega (arith, until_cleaning S j c)))
      (λ c. rw (number_cleaning j.state, c) (sym (z c)))
