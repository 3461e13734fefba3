-- How many minutes pass at once: what holds of that number, and that it is the only one.
-- Assumes nothing.
use Rattle.std.specs.Prelude.{ℕ, zero, suc, ◌+◌, ◌-◌, ◌≤◌, ◌<◌, ◌≡◌, Bool, true, false, leb, ltb}
use Rattle.std.proofs.Common.{arith, leb-true, leb-false, ltb-true, ltb-false}
use Rattle.std.proofs.Math.Path.{refl}
use Rattle.lists.specs.Tests.{case, true_false, neither}
use Rattle.lists.specs.Least.{least, least_from, least_to, least_min}
use Rattle.lists.specs.Lists.{any_none, none_any}
use Rattle.scheduler.specs.declared.Refusal.TheVariants as refusal
use Rattle.scheduler.specs.Limits.{horizon, longest_wait, outside}
use Rattle.scheduler.specs.Model.{Model}
use Rattle.scheduler.specs.Answers.{accepts, verdict}
use Rattle.scheduler.specs.Refusals.{wait_refusal}
use Rattle.jobs.specs.Soundness.{passed}
use Rattle.advance_rules.specs.Advance.{due_at, is_due, advances_to, advanced_by}
use Rattle.quiet_minutes.specs.DueMinutes.{Quiet}

-- ## A wait that is not refused

module _ (m : Model) (n : ℕ) (a : accepts (wait_refusal m n) ≡ true) where
  both_pass : (outside 1 longest_wait n ≡ false) × (ltb horizon (m.clock + n) ≡ false)
  unfolding wait_refusal
  both_pass =
      let p = passed (outside 1 longest_wait n) refusal.MinutesOutOfRange _ refl a in
      (p.0, (passed (ltb horizon (m.clock + n)) refusal.PastHorizon _ refl p.1).0)

  pub wait_some : 1 ≤ n
  wait_some = ltb-false n 1 (neither (ltb n 1) (ltb longest_wait n) both_pass.0).0

  pub wait_within : m.clock + n ≤ horizon
  wait_within = ltb-false horizon (m.clock + n) both_pass.1

  pub wait_taken : wait_refusal m n ≡ refusal.None
  unfolding wait_refusal verdict
  wait_taken = rw (both_pass.0, both_pass.1)

  pub passes_by_lem : advanced_by m n ≡ advances_to m n - m.clock
  unfolding advanced_by
  passes_by_lem = rw a

-- ## The first minute in which something is due

-- the smallest number that passes a test passes it, where one is found
least_found : (p : ℕ → Bool) (k n : ℕ) → least p k n < n + k → p (least p k n) ≡ true
least_found p zero n l = absurd (omega arith)
least_found p (suc k) n l = case (p n) (λ e. rw e e) (λ e. rw e (least_found p k (suc n) (let h = rw e at l in omega arith)))

-- a minute that is quiet for every job
quiet_none : (m : Model) (k t : ℕ) → Quiet m k → m.clock < t → t ≤ m.clock + k → is_due m t ≡ false
quiet_none m k t q l h = none_any (due_at m.settings t) m.jobs (λ j i. q j i t l h)

module _ (m : Model) (n : ℕ) (some : 1 ≤ n) where
  pub advances_from : m.clock < advances_to m n
  unfolding advances_to
  advances_from = least_from (is_due m) (n - 1) (suc m.clock)

  pub advances_within : advances_to m n ≤ m.clock + n
  unfolding advances_to
  advances_within = omega (arith, least_to (is_due m) (n - 1) (suc m.clock))

  pub no_later : (t : ℕ) → is_due m t ≡ true → m.clock < t → advances_to m n ≤ t
  unfolding advances_to
  no_later t e l = least_min (is_due m) (n - 1) (suc m.clock) t e l

  -- nothing is due before
  pub nothing_before : (t : ℕ) → m.clock < t → t < advances_to m n → is_due m t ≡ false
  nothing_before t l h = case (is_due m t) (λ e. absurd (omega (arith, no_later t e l))) (λ e. e)

  -- and something is due then, unless all the minutes have passed
  pub due_then : advances_to m n < m.clock + n → is_due m (advances_to m n) ≡ true
  unfolding advances_to
  due_then l = least_found (is_due m) (n - 1) (suc m.clock) (omega arith)

  pub quiet_before : Quiet m (advances_to m n - m.clock - 1)
  quiet_before j i t l h = any_none (due_at m.settings t) (nothing_before t l (omega (arith, advances_from))) i

  -- after so many quiet minutes something is due: it is the next one
  pub advances_due : (r : ℕ) → r < n → Quiet m r → is_due m (suc (m.clock + r)) ≡ true → advances_to m n ≡ suc (m.clock + r)
  advances_due r l q e =
      case (leb (advances_to m n) (m.clock + r))
      (λ x. let y = leb-true (advances_to m n) (m.clock + r) x in
      true_false (is_due m (advances_to m n)) (due_then (omega arith)) (quiet_none m r (advances_to m n) q advances_from y))
      (λ x. omega (arith, leb-false (advances_to m n) (m.clock + r) x, no_later (suc (m.clock + r)) e (omega arith)))

  -- all are quiet: it is the last one
  pub advances_all : Quiet m n → advances_to m n ≡ m.clock + n
  advances_all q =
      case (ltb (advances_to m n) (m.clock + n))
      (λ x. let y = ltb-true (advances_to m n) (m.clock + n) x in
      true_false (is_due m (advances_to m n)) (due_then y) (quiet_none m n (advances_to m n) q advances_from advances_within))
      (λ x. omega (arith, ltb-false (advances_to m n) (m.clock + n) x, advances_within))
