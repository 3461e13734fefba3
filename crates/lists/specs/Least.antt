-- The smallest number that passes a test.
-- Assumes nothing.
use Rattle.std.specs.Prelude.{ℕ, zero, suc, ◌+◌, ◌≤◌, ◌≡◌, Bool, true, false, cond, eqb}
use Rattle.std.proofs.Common.{arith, sym, subst, eqb-true}
use Rattle.std.proofs.lemmas.Bool.{eqb-false}
use Rattle.lists.specs.Tests.{case, true_false}

-- the smallest number from n on, and before n + k, that passes the test; n + k if none does
abbrev pub least : (ℕ → Bool) → ℕ → ℕ → ℕ
least p zero n = n
least p (suc k) n = let later = least p k (suc n) in cond (p n) n later

pub least_from : (p : ℕ → Bool) (k n : ℕ) → n ≤ least p k n
least_from p zero n = omega arith
least_from p (suc k) n = case (p n) (λ e. rw e (omega arith)) (λ e. rw e (omega (arith, least_from p k (suc n))))

pub least_to : (p : ℕ → Bool) (k n : ℕ) → least p k n ≤ n + k
least_to p zero n = omega arith
least_to p (suc k) n = case (p n) (λ e. rw e (omega arith)) (λ e. rw e (omega (arith, least_to p k (suc n))))

pub least_holds_lem : (p : ℕ → Bool) (k n : ℕ) → p (n + k) ≡ true → p (least p k n) ≡ true
least_holds_lem p zero n h = subst (λ (x : ℕ). p x ≡ true) (omega arith) h
least_holds_lem p (suc k) n h = case (p n) (λ e. rw e e) (λ e. rw e (least_holds_lem p k (suc n) (subst (λ (x : ℕ). p x ≡ true) (omega arith) h)))

pub least_min : (p : ℕ → Bool) (k n t : ℕ) → p t ≡ true → n ≤ t → least p k n ≤ t
least_min p zero n t h l = l
least_min p (suc k) n t h l = case (p n) (λ e. rw e l) (λ e. rw e (least_min p k (suc n) t h (go e)))
  where
    go : p n ≡ false → suc n ≤ t
    go e =
        case (eqb n t)
        (λ q. true_false (p n) (subst (λ (x : ℕ). p x ≡ true) (sym (eqb-true n t q)) h) e)
        (λ q. omega (arith, eqb-false n t q))
