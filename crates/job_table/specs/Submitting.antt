-- A submission: the tests that both kinds share, by numbers, and the job put into the first unused slot.
-- Assumes nothing.
use Rattle.std.specs.Prelude.{ℕ, ◌+◌, ◌<◌, ◌≡◌, Bool, cond, List, leb, ltb, length, set, take}
use Rattle.std.proofs.Common.{arith, sym, ◌∙◌}
use Rattle.std.proofs.Math.Numerals.{add-one}
use Rattle.std.proofs.Math.Path.{refl, ap}
use Rattle.std.proofs.lemmas.Bool.{lt-leb}
use Rattle.lists.specs.Tests.{case}
use Rattle.lists.specs.Lists.{keep, length_keep, length_keep_le}
use Rattle.lists.specs.Pads.{pad_push}
use Rattle.scheduler.specs.declared.Job.{Job}
use Rattle.scheduler.specs.declared.Tenant.{Tenant}
use Rattle.scheduler.specs.declared.Settings.{Settings}
use Rattle.scheduler.specs.declared.Submission.{Submission}
use Rattle.scheduler.specs.declared.Refusal.{Refusal}
use Rattle.scheduler.specs.declared.Scheduler.{Scheduler}
use Rattle.scheduler.specs.Limits.{slots, last_ticket, outside}
use Rattle.scheduler.specs.Tenants.{known}
use Rattle.scheduler.specs.Settings.{quota, longest}
use Rattle.scheduler.specs.Jobs.{unused}
use Rattle.scheduler.specs.Table.{with_jobs, of_tenant, live_of}
use Rattle.scheduler.specs.Model.{store, view, joined}
use Rattle.scheduler.specs.Answers.{verdict, accepts}
use Rattle.scheduler.specs.Refusals.{tests_by}
use Rattle.jobs.specs.Soundness.{Sound}
use Rattle.jobs.specs.Premise.{Holds}
use Rattle.jobs.specs.Slots.{first_live}
use Rattle.job_table.specs.Parts.{refusal_by}

-- the kind's own tests decide if the six shared tests refuse nothing
pub tests_more : (S : Settings) (live next : ℕ) (o : Submission) (more : List (Bool × Refusal))
    → verdict (tests_by S live next o more) ≡ cond (accepts (refusal_by S live next o)) (verdict more) (refusal_by S live next o)
unfolding verdict refusal_by
tests_more S live next o more =
    case (known o.tenant) (λ k. rw k (case (outside 1 S.nodes o.nodes) (λ a. rw a)
    (λ a. rw a (case (outside 1 (longest S) o.estimate) (λ b. rw b)
    (λ b. rw b (case (ltb o.estimate o.least) (λ e. rw e)
    (λ e. rw e (case (leb (quota S o.tenant) live) (λ c. rw c)
    (λ c. rw c (case (ltb last_ticket next) (λ d. rw d) (λ d. rw d)))))))))))
    (λ k. rw k)

-- ## A lack of places

-- this many jobs fill the places exactly if the tenant's own live jobs do
abbrev pub Tells : (places mine live : ℕ) → Type 0
Tells places mine live = leb places live ≡ leb places mine

module _ (d : Scheduler) (h : Holds Sound d) (t : Tenant) (places live : ℕ) (e : live ≡ length (view d).jobs) where
  abbrev mine : ℕ
  mine = live_of t (view d).jobs

  -- those counted among the live jobs
  pub counted : Tells places mine (length (keep (of_tenant t) (take live d.jobs)))
  counted =
      ap (λ (n : ℕ). leb places (length (keep (of_tenant t) (take n d.jobs)))) e
      ∙ ap (λ (js : List Job). leb places (length (keep (of_tenant t) js))) (first_live d h)
      ∙ ap (leb places) (length_keep (of_tenant t) (view d).jobs)

  -- no job need be counted if all jobs together are fewer than its places
  pub uncounted : live < places → Tells places mine 0
  uncounted l =
      lt-leb places 0 (omega arith)
      ∙ sym (lt-leb places mine (omega (arith, length_keep (of_tenant t) (view d).jobs, length_keep_le (of_tenant t) (view d).jobs)))

-- the six tests look no further than that
pub judged_alike : (S : Settings) (mine live next : ℕ) (o : Submission) → Tells (quota S o.tenant) mine live
    → refusal_by S live next o ≡ refusal_by S mine next o
unfolding refusal_by
judged_alike S mine live next o e = rw e

-- ## The new job

abbrev pub with_next : Scheduler → ℕ → Scheduler
with_next d t = record { settings = d.settings; clock = d.clock; next = t; jobs = d.jobs }

module _ (d : Scheduler) (slot : ℕ) (e : slot ≡ length (view d).jobs) where
  -- the job stands last, and the next ticket is one more
  pub enters : d ≡ store (view d) → length (view d).jobs < slots → (job : Job)
      → with_next (with_jobs d (set d.jobs slot job)) (d.next + 1) ≡ store (joined (view d) job)
  unfolding store view
  enters s room job =
      ap (λ (n : ℕ). with_next (with_jobs d (set d.jobs n job)) (d.next + 1)) e
      ∙ ap (λ (x : Scheduler). with_next (with_jobs x (set x.jobs (length (view d).jobs) job)) (d.next + 1)) s
      ∙ rw (pad_push slots unused (view d).jobs job (length (view d).jobs) refl room, add-one d.next)
