-- The minutes in which spans begin, and now, are all that need to be tried (`fits_every`).
-- Assumes nothing.
use Rattle.std.specs.Prelude.{ℕ, zero, suc, ◌+◌, ◌-◌, max, ◌≤◌, ◌<◌, ◌≡◌, Bool, true, false, List, ◌⊎◌, leb, eqb}
use Rattle.std.proofs.Common.{arith, ap, subst, inl, inr, leb-true, le-leb, leb-false, eqb-true, eq-eqb}
use Rattle.std.proofs.lemmas.Bool.{eqb-false}
use Rattle.lists.specs.Tests.{case, le_or, true_false}
use Rattle.lists.specs.Lists.{any, In, any_in, sum_le, sum_zero}
use Rattle.lists.specs.Every.{every_in, every_of, any_some}
use Rattle.spans.specs.declared.Span.{Span}
use Rattle.spans.specs.Spans.{takes, used}
use Rattle.spans.proofs.UsedNodes.{takes_in, takes_before, takes_after}
use Rattle.spans.specs.EveryMinute.{fits_every}

-- a span that does not begin in a minute takes no more in it than in the one before
takes_on : (t : ℕ) (x : Span) → (x.from ≡ suc t → ⊥) → takes (suc t) x ≤ takes t x
takes_on t x n = go (le_or x.from t) (le_or x.until (suc t))
  where
    go : (x.from ≤ t) ⊎ (t < x.from) → (x.until ≤ suc t) ⊎ (suc t < x.until) → takes (suc t) x ≤ takes t x
    go (inr p) q = omega (arith, takes_before (suc t) x (case (eqb x.from (suc t)) (λ e. absurd (n (eqb-true x.from (suc t) e))) (λ e. omega (arith, eqb-false x.from (suc t) e))))
    go (inl p) (inl q) = omega (arith, takes_after (suc t) x q)
    go (inl p) (inr q) = omega (arith, takes_in (suc t) x (omega arith) q, takes_in t x p (omega arith))

module _ (N : ℕ) (xs : List Span) (now : ℕ) where
  -- where one begins, it is tried
  tried : fits_every N xs now ≡ true → (t : ℕ) → now ≤ t → (x : Span) → In x xs → max now x.from ≡ t → used t xs ≤ N
  tried f t l x i e =
      subst (λ (s : ℕ). used s xs ≤ N) e
      (leb-true (used (max now x.from) xs) N (every_in (λ (x : Span). leb (used (max now x.from) xs) N) f i))

  from_now : fits_every N xs now ≡ true → (d : ℕ) → used (now + d) xs ≤ N
  from_now f zero =
      case (any (λ (x : Span). leb x.from now) xs)
      (λ e. let r = any_some (λ (x : Span). leb x.from now) xs e in
      tried f (now + 0) (omega arith) r.0 r.1 (omega (arith, leb-true r.0.from now r.2)))
      (λ e. omega (arith, sum_zero (takes (now + 0)) xs (λ x i. takes_before (now + 0) x (later x i e))))
    where
      later : (x : Span) → In x xs → any (λ (x : Span). leb x.from now) xs ≡ false → now + 0 < x.from
      later x i e =
          case (leb x.from now)
          (λ q. true_false (any (λ (x : Span). leb x.from now) xs) (any_in (λ (x : Span). leb x.from now) i q) e)
          (λ q. omega (arith, leb-false x.from now q))
  from_now f (suc d) =
      case (any begins xs)
      (λ e. let r = any_some begins xs e in
      let q : r.0.from ≡ suc (now + d) = eqb-true r.0.from (suc (now + d)) r.2 in
      tried f (now + suc d) (omega arith) r.0 r.1 (omega arith))
      (λ e. omega (
        arith,
        ap (λ (t : ℕ). used t xs) same,
        sum_le (takes (suc (now + d))) (takes (now + d)) xs (λ x i. takes_on (now + d) x (λ q.
            true_false (any begins xs) (any_in begins i (eq-eqb x.from (suc (now + d)) q)) e)),
        from_now f d,
      ))
    where
      begins : Span → Bool
      begins x = eqb x.from (suc (now + d))

      same : now + suc d ≡ suc (now + d)
      same = omega arith

  -- the sentence, as a law
  pub every_minute : fits_every N xs now ≡ true → (t : ℕ) → now ≤ t → used t xs ≤ N
  every_minute f t l = let e : now + (t - now) ≡ t = omega arith in subst (λ (s : ℕ). used s xs ≤ N) e (from_now f (t - now))

  pub minutes_fit_lem : ((t : ℕ) → now ≤ t → used t xs ≤ N) → fits_every N xs now ≡ true
  minutes_fit_lem f = every_of (λ (x : Span). leb (used (max now x.from) xs) N) xs (λ x i. le-leb (used (max now x.from) xs) N (f (max now x.from) (omega arith)))
