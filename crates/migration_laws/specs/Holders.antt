-- The change: the other settings stay, and among the jobs that hold nodes alone a job is planned for its shadow.
-- Assumes nothing.
use Rattle.std.specs.Prelude.{ℕ, ◌+◌, ◌≤◌, ◌≡◌, true, List, [], ◌∷◌, map, leb}
use Rattle.std.proofs.Common.{arith, ◌∙◌, leb-true, leb-false}
use Rattle.std.proofs.Math.Path.{refl}
use Rattle.lists.specs.Tests.{case, on}
use Rattle.lists.specs.Lists.{keep, sum, In, here, there, sum_map, sum_picked}
use Rattle.spans.specs.Spans.{used, free, earliest}
use Rattle.spans.proofs.UsedNodes.{takes_in, takes_after}
use Rattle.spans.proofs.EarliestStart.{earliest_is}
use Rattle.scheduler.specs.declared.Job.{Job}
use Rattle.scheduler.specs.declared.Settings.{Settings}
use Rattle.scheduler.specs.declared.Tenant.{Tenant}
use Rattle.scheduler.specs.declared.Tenant.TheVariants.{Nobody, A, B}
use Rattle.scheduler.specs.Jobs.{is_holding, held}
use Rattle.scheduler.specs.Settings.{quota, longest, cleanup, run_time, hold_time, unit, end_of, until}
use Rattle.scheduler.specs.Table.{nodes_held}
use Rattle.scheduler.specs.Model.{Model}
use Rattle.jobs.specs.Soundness.{SoundJob, Sound}
use Rattle.conservative_rules.specs.Conservative.{span, spans}
use Rattle.conservative_laws.specs.Validity.{taken, used_jobs}
use Rattle.easy_rules.specs.Easy.{freed, avail, shadow}
use Rattle.easy_laws.specs.Settling.{shadow_from, shadow_min, shadow_holds, avail_rises}
use Rattle.migration_rules.specs.Migration.{promise_settings, kept}

-- ## No limit reads the rules

module _ (S : Settings) where
  pub longest_same : longest (promise_settings S) ≡ longest S
  unfolding longest
  longest_same = refl

  pub cleanup_same : cleanup (promise_settings S) ≡ cleanup S
  unfolding cleanup
  cleanup_same = refl

  pub hold_same : (e : ℕ) → hold_time (promise_settings S) e ≡ hold_time S e
  unfolding hold_time run_time cleanup
  hold_same e = refl

  pub unit_same : unit (promise_settings S) ≡ unit S
  unfolding unit longest hold_time run_time cleanup
  unit_same = refl

  pub until_kept : (j : Job) → until (promise_settings S) (kept j) ≡ until S j
  unfolding until hold_time run_time cleanup
  until_kept j = refl

  pub end_kept : (j : Job) → end_of (promise_settings S) (kept j) ≡ end_of S j
  unfolding end_of run_time
  end_kept j = refl

  pub quota_same : (t : Tenant) → quota (promise_settings S) t ≡ quota S t
  quota_same Nobody = refl
  quota_same A = refl
  quota_same B = refl

-- ## Those that hold nodes

-- as the change leaves them
abbrev pub holders : Model → List Job
holders m = map kept (keep is_holding m.jobs)

module _ (m : Model) (s : Sound m) where
  abbrev S : Settings
  S = m.settings

  abbrev P : Settings
  P = promise_settings m.settings

  -- what one that holds nodes takes of a minute from now on
  abbrev pub held_in : ℕ → Job → ℕ
  held_in t j = on (is_holding j) (taken P t (kept j))

  -- what it holds it takes still, or has given back
  one_parts : (t : ℕ) (j : Job) → m.clock ≤ t → SoundJob S m.clock j → held_in t j + freed S t j ≡ held j
  one_parts t j l f = case (is_holding j) (λ r. rw r (go r)) (λ r. rw r)
    where
      go : is_holding j ≡ true → taken P t (kept j) + on (leb (until S j) t) j.nodes ≡ j.nodes
      go r =
          case (leb (until S j) t)
          (λ q. rw q (omega (arith, takes_after t (span P (kept j)) (omega (arith, leb-true (until S j) t q, until_kept S j)))))
          (λ q. rw q (omega (arith, takes_in t (span P (kept j)) (omega (arith, f.holds r)) (omega (arith, leb-false (until S j) t q, until_kept S j)))))

  all_parts : (t : ℕ) → m.clock ≤ t → (js : List Job) → ((j : Job) → In j js → SoundJob S m.clock j)
      → sum (held_in t) js + sum (freed S t) js ≡ nodes_held js
  all_parts t l [] f = refl
  all_parts t l (j ∷ js) f = omega (arith, one_parts t j l (f j (here refl)), all_parts t l js (λ x i. f x (there i)))

  pub used_holders : (t : ℕ) → used t (spans P (holders m)) ≡ sum (held_in t) m.jobs
  used_holders t =
      used_jobs P t (holders m)
      ∙ sum_map (taken P t) kept (keep is_holding m.jobs)
      ∙ sum_picked (λ (j : Job). taken P t (kept j)) is_holding m.jobs

  -- what is left beside them are the nodes that EASY counts for the shadow
  pub holders_avail : (t : ℕ) → m.clock ≤ t → used t (spans P (holders m)) + avail m t ≡ S.nodes
  holders_avail t l = omega (arith, used_holders t, all_parts t l m.jobs s.each, s.capacity)

  -- ## The shadow

  -- a job that fits beside them from r on does so from its shadow on, and not before
  pub shadow_least : (n r : ℕ) → m.clock ≤ r → n ≤ free S.nodes (spans P (holders m)) r → shadow m n ≤ r
  shadow_least n r l f = shadow_min m n r (omega (arith, f, holders_avail r l)) l

  pub shadow_fits : (n t : ℕ) → n ≤ S.nodes → shadow m n ≤ t → n ≤ free S.nodes (spans P (holders m)) t
  shadow_fits n t a l =
      omega (
        arith,
        shadow_holds m n s a,
        avail_rises m (shadow m n) t l,
        holders_avail t (omega (arith, shadow_from m n)),
      )

  -- so the Promise Desk's intake rule gives the shadow
  pub earliest_shadow : (n h : ℕ) → n ≤ S.nodes → 1 ≤ h → earliest S.nodes (spans P (holders m)) m.clock n h ≡ shadow m n
  earliest_shadow n h a p =
      let E = earliest_is S.nodes (spans P (holders m)) m.clock n h a in
      let e = earliest S.nodes (spans P (holders m)) m.clock n h in
      omega (
        arith,
        E.smallest (shadow m n) (shadow_from m n) (λ t b c. shadow_fits n t a b),
        shadow_least n e E.later (E.fit e (omega arith) (omega arith)),
      )
