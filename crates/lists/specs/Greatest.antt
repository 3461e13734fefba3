-- The greatest number that passes a test.
-- Assumes nothing.
use Prim.Native.Nat.{ℕ, zero, suc, ◌≤◌, ◌<◌}
use native.Mathlib.Omega.{arith}
use Rattle.std.specs.Prelude.{◌≡◌, Bool, true, cond, ◌⊎◌}
use Rattle.std.proofs.Common.{ap, ◌∙◌, inl, inr}
use Rattle.std.proofs.Math.Bool.{false}
use Rattle.lists.specs.Tests.{case, true_false, le_or}

-- the greatest number from 1 to k that passes the test; 0 if none does
unfoldable pub greatest : (ℕ → Bool) → ℕ → ℕ
greatest p zero = 0
greatest p (suc k) = let lower = greatest p k in cond (p (suc k)) (suc k) lower

module _ (p : ℕ → Bool) where
  pub greatest_to : (k : ℕ) → greatest p k ≤ k
  unfolding greatest
  greatest_to zero = omega arith
  greatest_to (suc k) = case (p (suc k)) (λ e. rw e (omega arith)) (λ e. rw e (omega (arith, greatest_to k)))

  pub greatest_holds : (k : ℕ) → 1 ≤ greatest p k → p (greatest p k) ≡ true
  unfolding greatest
  greatest_holds zero = λ l. absurd (omega arith)
  greatest_holds (suc k) = case (p (suc k)) (λ e. rw e (λ l. e)) (λ e. rw e (greatest_holds k))

  pub greatest_max : (k t : ℕ) → p t ≡ true → 1 ≤ t → t ≤ k → t ≤ greatest p k
  unfolding greatest
  greatest_max zero t h l m = absurd (omega arith)
  greatest_max (suc k) t h l m = case (p (suc k)) (λ e. rw e m) (λ e. rw e (greatest_max k t h l (below e (le_or t k))))
    where
      below : p (suc k) ≡ false → (t ≤ k) ⊎ (k < t) → t ≤ k
      below e (inl q) = q
      below e (inr q) = let z : t ≡ suc k = omega arith in true_false (p t) h (ap p z ∙ e)

  -- it is nothing else
  pub greatest_is : (k r : ℕ) → r ≤ k → (1 ≤ r → p r ≡ true) → ((t : ℕ) → p t ≡ true → 1 ≤ t → t ≤ k → t ≤ r) → r ≡ greatest p k
  greatest_is k r a b c = omega (arith, up (le_or 1 r), down (le_or 1 (greatest p k)))
    where
      up : (1 ≤ r) ⊎ (r < 1) → r ≤ greatest p k
      up (inl l) = greatest_max k r (b l) l a
      up (inr l) = omega arith

      down : (1 ≤ greatest p k) ⊎ (greatest p k < 1) → greatest p k ≤ r
      down (inl l) = c (greatest p k) (greatest_holds k l) l (greatest_to k)
      down (inr l) = omega arith
