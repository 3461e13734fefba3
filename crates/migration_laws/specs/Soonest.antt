-- The soonest minute of a waiting job (document 02, No. 7) is the same after the change as before: the same jobs hold nodes, and no waiting job
-- counts. So "it never starts before that minute whatever follows" goes on over the change.
-- Assumes nothing.
use Prim.Native.Nat.{ℕ, ◌+◌, ◌-◌, max}
use Rattle.std.proofs.Common.{arith, ◌∙◌, ne_eqb}
use Rattle.std.specs.Prelude.{◌≡◌, refl, Bool, true, ◌&&◌, List, [], ◌∷◌}
use Rattle.std.proofs.Math.Path.{sym, ap, ap₂}
use Rattle.std.proofs.Math.Option.{Option, none, some}
use Rattle.std.proofs.Math.Dec.{leb}
use Rattle.lists.specs.Tests.{case}
use Rattle.lists.specs.Lists.{sum, first, sum_map}
use Rattle.lists.specs.Least.{least}
use Rattle.scheduler.specs.declared.Job.{Job}
use Rattle.scheduler.specs.declared.Settings.{Settings}
use Rattle.scheduler.specs.declared.State.TheVariants.{Waiting}
use Rattle.scheduler.specs.declared.Departure.TheVariants.{Cancel}
use Rattle.scheduler.specs.declared.Earliest.{Earliest}
use Rattle.scheduler.specs.declared.Refusal.TheVariants as refusal
use Rattle.scheduler.specs.States.{waiting?}
use Rattle.scheduler.specs.Jobs.{is_waiting, is_running, departs_as, held}
use Rattle.scheduler.specs.Settings.{unit}
use Rattle.scheduler.specs.Times.{until_cleaned}
use Rattle.scheduler.specs.Model.{Model}
use Rattle.conservative_rules.specs.Conservative.{state_at}
use Rattle.conservative_laws.specs.Validity.{Zip}
use Rattle.easy_rules.specs.Easy.{free, freed, avail, shadow, on_choice}
use Rattle.easy_rules.specs.EarliestStart.{over_at_least, at_least, earliest_for, earliest_start}
use Rattle.easy_laws.specs.Settling.{idle, not_running}
use Rattle.easy_laws.specs.Validity.{Valid}
use Rattle.migration_rules.specs.Migration.{promise_settings, kept, promised, migrated}
use Rattle.migration_laws.specs.Holders.{cleanup_same, unit_same, until_kept}
use Rattle.migration_laws.specs.Planning.{Planned, stays, plans, after, changed_all}
use Rattle.migration_laws.specs.Migrated.{To, total}

module _ (m : Model) (v : Valid m) where
  abbrev S : Settings
  S = m.settings

  abbrev P : Settings
  P = promise_settings m.settings

  abbrev c : ℕ
  c = m.clock

  -- ## Sums over those side by side

  zip_sum : (f g : Job → ℕ) → ((j x : Job) → To m v j x → g x ≡ f j) → (js ks : List Job) → Zip (To m v) js ks → sum g ks ≡ sum f js
  zip_sum f g h [] [] z = refl
  zip_sum f g h [] (k ∷ ks) z = absurd z
  zip_sum f g h (j ∷ js) [] z = absurd z
  zip_sum f g h (j ∷ js) (k ∷ ks) z = omega (arith, h j k z.0, zip_sum f g h js ks z.1)

  waits_on : (p : ℕ) (j : Job) → Planned m v (total m v) j p → state_at c p ≡ Waiting
  waits_on p j q = rw (ne_eqb p c (λ e. omega (arith, q.later)))

  -- one that waits is over at no least, and holds nothing
  none_over : (j : Job) → is_waiting j ≡ true → over_at_least c j ≡ j
  none_over j w = rw (not_running j w)

  none_held : (j : Job) → is_waiting j ≡ true → held (over_at_least c j) ≡ 0
  none_held j w = ap held (none_over j w) ∙ rw (idle j w)

  none_freed : (T : Settings) (t : ℕ) (j : Job) → is_waiting j ≡ true → freed T t (over_at_least c j) ≡ 0
  none_freed T t j w = ap (freed T t) (none_over j w) ∙ rw (idle j w)

  planned_waits : (p : ℕ) (j : Job) → Planned m v (total m v) j p → is_waiting (promised c p j) ≡ true
  planned_waits p j q = ap waiting? (waits_on p j q)

  same_held : (j x : Job) → To m v j x → held (over_at_least c x) ≡ held (over_at_least c j)
  same_held j x (stays h) = case (is_running j) (λ r. rw r) (λ r. rw r)
  same_held j x (plans p w q) = none_held (promised c p j) (planned_waits p j q) ∙ sym (none_held j w)

  same_freed : (t : ℕ) (j x : Job) → To m v j x → freed P t (over_at_least c x) ≡ freed S t (over_at_least c j)
  same_freed t j x (stays h) =
      case (is_running j)
      (λ r. rw (r, until_cleaned P (max c (j.start + j.least)) (kept j), until_cleaned S (max c (j.start + j.least)) j, cleanup_same S))
      (λ r. rw (r, until_kept S j))
  same_freed t j x (plans p w q) = none_freed P t (promised c p j) (planned_waits p j q) ∙ sym (none_freed S t j w)

  abbrev n : Model
  n = migrated m

  same_free : free (at_least n) ≡ free (at_least m)
  unfolding migrated
  same_free =
      ap (λ (x : ℕ). S.nodes - x)
      (sum_map held (over_at_least c) (after m v)
      ∙ zip_sum (λ (j : Job). held (over_at_least c j)) (λ (j : Job). held (over_at_least c j)) same_held m.jobs (after m v) (changed_all m v)
      ∙ sym (sum_map held (over_at_least c) m.jobs))

  same_avail : (t : ℕ) → avail (at_least n) t ≡ avail (at_least m) t
  unfolding migrated
  same_avail t =
      ap₂ (λ (x y : ℕ). x + y) same_free
      (sum_map (freed P t) (over_at_least c) (after m v)
      ∙ zip_sum (λ (j : Job). freed S t (over_at_least c j)) (λ (j : Job). freed P t (over_at_least c j)) (same_freed t) m.jobs (after m v) (changed_all m v)
      ∙ sym (sum_map (freed S t) (over_at_least c) m.jobs))

  pub same_soonest : (k : ℕ) → earliest_for n k ≡ earliest_for m k
  unfolding shadow migrated
  same_soonest k =
      ap (λ (u : ℕ). least (λ (t : ℕ). leb k (avail (at_least n) t)) u c) (unit_same S)
      ∙ ap (λ (p : ℕ → Bool). least p (unit S) c) (λ i t. leb k (same_avail t i))

  -- ## The answer

  same_test : (t : ℕ) (j x : Job) → To m v j x → departs_as Cancel t x ≡ departs_as Cancel t j
  same_test t j x (stays h) = refl
  same_test t j x (plans p w q) = ap₂ (λ (a b : Bool). a && b) (planned_waits p j q ∙ sym w) refl

  same_nodes : (j x : Job) → To m v j x → x.nodes ≡ j.nodes
  same_nodes j x (stays h) = refl
  same_nodes j x (plans p w q) = refl

  same_first : (t : ℕ) (F : ℕ → Earliest) (z : Earliest) (js ks : List Job) → Zip (To m v) js ks
      → on_choice (first (departs_as Cancel t) ks) z (λ (x : Job). F x.nodes) ≡ on_choice (first (departs_as Cancel t) js) z (λ (j : Job). F j.nodes)
  same_first t F z [] [] y = refl
  same_first t F z [] (k ∷ ks) y = absurd y
  same_first t F z (j ∷ js) [] y = absurd y
  same_first t F z (j ∷ js) (k ∷ ks) y =
      case (departs_as Cancel t j)
      (λ e. rw (same_test t j k y.0 ∙ e, e) (ap F (same_nodes j k y.0)))
      (λ e. rw (same_test t j k y.0 ∙ e, e) (same_first t F z js ks y.1))

  abbrev given : Model → ℕ → Earliest
  given k nodes = record { refusal = refusal.None; minute = earliest_for k nodes }

  abbrev refused : Earliest
  refused = record { refusal = refusal.NotWaiting; minute = 0 }

  same_given : (k : ℕ) → given n k ≡ given m k
  same_given k = λ i. record { refusal = refusal.None; minute = same_soonest k i }

  same_minute : (f : Option Job) → on_choice f refused (λ (j : Job). given n j.nodes) ≡ on_choice f refused (λ (j : Job). given m j.nodes)
  same_minute none = refl
  same_minute (some j) = same_given j.nodes

  pub soonest_kept : (t : ℕ) → earliest_start n t ≡ earliest_start m t
  unfolding earliest_start migrated
  soonest_kept t = same_first t (given n) refused m.jobs (after m v) (changed_all m v) ∙ same_minute (first (departs_as Cancel t) m.jobs)
