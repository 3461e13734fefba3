-- A submission: its tests, and the job put into the first unused slot.
-- Assumes nothing.
use Rattle.std.specs.Prelude.{ℕ, ◌+◌, ◌≤◌, ◌<◌, ◌≡◌, Bool, true, false, List, [], ◌∷◌, ltb, length, set}
use native.Mathlib.Omega.{arith}
use Rattle.std.proofs.Common.{sym, ap, ◌∙◌, le-ltb}
use Rattle.lists.specs.Lists.{length_keep_le}
use Rattle.scheduler.specs.declared.Job.{Job}
use Rattle.scheduler.specs.declared.Refusal.{Refusal}
use Rattle.scheduler.specs.declared.Refusal.TheVariants as refusal
use Rattle.scheduler.specs.declared.Scheduler.{Scheduler}
use Rattle.scheduler.specs.declared.Settings.{Settings}
use Rattle.scheduler.specs.declared.Submission.{Submission}
use Rattle.scheduler.specs.Limits.{horizon, slots}
use Rattle.scheduler.specs.Jobs.{is_waiting}
use Rattle.scheduler.specs.Settings.{quota}
use Rattle.scheduler.specs.Times.{hold_le, units_le}
use Rattle.scheduler.specs.Table.{with_jobs, live_of}
use Rattle.scheduler.specs.Model.{Model, view}
use Rattle.scheduler.specs.Answers.{verdict, accepts, no_tickets}
use Rattle.jobs.specs.Judgement.{accepts_none}
use Rattle.jobs.specs.Soundness.{Fit, submit_fit, fit_room}
use Rattle.jobs.specs.Premise.{Holds}
use Rattle.easy_rules.specs.Easy.{new_job, rank, submit_refusal}
use Rattle.easy_laws.specs.Validity.{Valid, latest_end}
use Rattle.job_table.specs.declared.Part.{Part}
use Rattle.job_table.specs.Parts.{refusal_by, past_horizon, part}
use Rattle.job_table.specs.Submitting.{Tells, tests_more, with_next, enters}
use Rattle.scheduler.specs.declared.Request.TheVariants as request
use Rattle.easy.specs.Parts.{own, late_refusal}

-- the five tests that both kinds share, and then the last minute
module _ (S : Settings) (live next latest : ℕ) (o : Submission) where
  abbrev late : List (Bool × Refusal)
  late = (ltb horizon latest, refusal.PastHorizon) ∷ []

  pub judged_late : accepts (refusal_by S live next o) ≡ true → late_refusal S live next latest o ≡ past_horizon latest
  unfolding late_refusal verdict
  judged_late a = tests_more S live next o late ∙ rw a

  pub judged_before : accepts (refusal_by S live next o) ≡ false → late_refusal S live next latest o ≡ refusal_by S live next o
  unfolding late_refusal
  judged_before a = tests_more S live next o late ∙ rw a

module _ (d : Scheduler) (s : Submission) (h : Holds Valid d) where
  abbrev m : Model
  m = view d

  abbrev job : Job
  job = new_job m s

  -- early on, the last of a full queue ends in time
  early_latest : d.clock ≤ 332740 → latest_end m s.estimate ≤ horizon
  unfolding view
  early_latest l = omega (
    arith,
    units_le m.settings (rank m) 65 (omega (arith, length_keep_le is_waiting m.jobs, h.holds.ready.sound.few)),
    hold_le m.settings s.estimate,
  )

  -- the tenant's places, and its live jobs
  abbrev places : ℕ
  places = quota d.settings s.tenant

  abbrev mine : ℕ
  mine = live_of s.tenant m.jobs

  judged_by : (live latest : ℕ) → Tells places mine live → ltb horizon latest ≡ ltb horizon (latest_end m s.estimate)
      → late_refusal d.settings live d.next latest s ≡ submit_refusal m s
  unfolding late_refusal submit_refusal view
  judged_by live latest e l = rw (e, l)

  -- the latest end counts only where it is past the last minute
  pub judged_early : (live : ℕ) → Tells places mine live → d.clock ≤ 332740 → late_refusal d.settings live d.next 0 s ≡ submit_refusal m s
  judged_early live e l = judged_by live 0 e (sym (le-ltb horizon (latest_end m s.estimate) (early_latest l)))

  pub judged_latest : (live latest : ℕ) → Tells places mine live → latest ≡ latest_end m s.estimate
      → late_refusal d.settings live d.next latest s ≡ submit_refusal m s
  judged_latest live latest e l = judged_by live latest e (ap (ltb horizon) l)

  module _ (why : Refusal) (w : why ≡ submit_refusal m s) where
    pub turned_away : accepts why ≡ false → record { refusal = why; ticket = 0; ended = no_tickets; withdrawn = 0; scheduler = d } ≡ part (own m (request.Submit s))
    turned_away k = rw (← w, k) (ap with_scheduler h.stored)
      where
        with_scheduler : Scheduler → Part
        with_scheduler x = record { refusal = why; ticket = 0; ended = no_tickets; withdrawn = 0; scheduler = x }

    module _ (k : accepts why ≡ true) where
      pub fits : Fit m s
      unfolding submit_refusal
      fits = (submit_fit m s ((ltb horizon (latest_end m s.estimate), refusal.PastHorizon) ∷ []) (rw w at k)).0

      pub room : length m.jobs < slots
      room = fit_room m s h.holds.ready.sound fits

      pub admitted : (low : ℕ) → low ≡ length m.jobs
          → record { refusal = why; ticket = d.next; ended = no_tickets; withdrawn = 0; scheduler = with_next (with_jobs d (set d.jobs low job)) (d.next + 1) } ≡
          part (own m (request.Submit s))
      unfolding view
      admitted low e = rw (← w, k, enters d low e h.stored room job, accepts_none why k)
