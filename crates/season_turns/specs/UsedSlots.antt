-- The live jobs stand first: past a slot that is not live there is none.
-- Assumes nothing.
use Rattle.std.specs.Prelude.{◌≡◌, false, List, ◌++◌, ◌⊎◌, ℕ, zero, suc, ◌+◌, ◌-◌, ◌≤◌, length, get_or, take, drop, replicate}
use Rattle.std.proofs.Common.{sym, subst, ◌∙◌, inl, inr, arith}
use Rattle.std.proofs.Math.Path.{ap}
use Rattle.std.proofs.Math.Seq.{take-append-add, drop-append-add}
use Rattle.lists.specs.Lists.{In, in_nil, in_cons, in_left}
use Rattle.scheduler.specs.declared.Job.{Job}
use Rattle.scheduler.specs.declared.Scheduler.{Scheduler}
use Rattle.scheduler.specs.Limits.{slots}
use Rattle.scheduler.specs.Jobs.{unused, is_live_of}
use Rattle.scheduler.specs.Model.{view, store}
use Rattle.lists.specs.Pads.{pad}
use Rattle.jobs.specs.Slots.{past_live}
use Rattle.guarantees.specs.Premise.{Premise, premise_sound}

-- of a list of one job repeated
same_drop : {A : Type 0} (k n : ℕ) (u j : A) → In j (drop k (replicate n u)) → j ≡ u
same_drop zero zero u j i = in_nil i
same_drop zero (suc n) u j i = by (in_cons i) (λ x. same_drop zero n u j x)
  where
    by : (j ≡ u) ⊎ In j (replicate n u) → (In j (replicate n u) → j ≡ u) → j ≡ u
    by (inl e) f = e
    by (inr x) f = f x
same_drop (suc k) zero u j i = in_nil i
same_drop (suc k) (suc n) u j i = same_drop k n u j i

module _ (d : Scheduler) (p : Premise d) (i : ℕ) (e : is_live_of (get_or d.jobs i unused) ≡ false) where
  abbrev L : List Job
  L = (view d).jobs

  abbrev R : List Job
  R = replicate (slots - length L) unused

  slots_are : d.jobs ≡ L ++ R
  unfolding store pad
  slots_are = ap (λ (x : Scheduler). x.jobs) p.stored

  past : length L ≤ i
  past = past_live d (record { stored = p.stored; holds = premise_sound d p }) i e

  at_is : i ≡ length L + (i - length L)
  at_is = omega (arith, past)

  pub rest_unused : (j : Job) → In j (drop i d.jobs) → j ≡ unused
  rest_unused j x =
      let split : drop i d.jobs ≡ drop (i - length L) R = (λ k. drop (at_is k) (slots_are k)) ∙ drop-append-add L R (i - length L) in
      same_drop (i - length L) (slots - length L) unused j (subst (In j) split x)

  pub in_front : (j : Job) → In j L → In j (take i d.jobs)
  in_front j x =
      let split : take i d.jobs ≡ L ++ take (i - length L) R = (λ k. take (at_is k) (slots_are k)) ∙ take-append-add L R (i - length L) in
      subst (In j) (sym split) (in_left (take (i - length L) R) x)
