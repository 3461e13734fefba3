-- What stands before the first byte of a kind: a field before its tab, a line before its byte 10.
-- Assumes nothing.
use Rattle.std.specs.Prelude.{◌≡◌, cond, eqb, length, get_or, take, drop}
use Rattle.std.proofs.Math.Path.{refl}
use mathlib.Core.List.{List, [], ◌∷◌}
use Prim.Native.Nat.{ℕ, zero, suc, ◌+◌, ◌≤◌, ◌<◌}
use Rattle.std.proofs.Common.{add-one, drop_of_length-le, length-drop, drop-cons}
use native.Mathlib.Omega.{arith}
use borrow.Author.Tests.{eqb-true, eqb-false, eq-eqb, ne_eqb}
use Rattle.lists.specs.Tests.{case}

-- what stands before the first byte c, the end counting as one
unfoldable pub upto : ℕ → List ℕ → List ℕ
upto c [] = []
upto c (b ∷ bs) = cond (eqb b c) [] (b ∷ upto c bs)

module _ (c : ℕ) where
  -- it is a front of the list,
  pub upto_take : (s : List ℕ) → take (length (upto c s)) s ≡ upto c s
  unfolding upto
  upto_take [] = refl
  upto_take (b ∷ bs) = case (eqb b c) (λ e. rw e) (λ e. rw (e, upto_take bs))

  pub upto_le : (s : List ℕ) → length (upto c s) ≤ length s
  unfolding upto
  upto_le [] = omega arith
  upto_le (b ∷ bs) = case (eqb b c) (λ e. rw e (omega arith)) (λ e. rw e (omega (arith, upto_le bs)))

  -- the byte c ends it, unless the list does,
  pub upto_at : (s : List ℕ) → length (upto c s) < length s → get_or s (length (upto c s)) 0 ≡ c
  unfolding upto
  upto_at [] h = absurd (omega arith)
  upto_at (b ∷ bs) h = case (eqb b c) (λ e. rw e (eqb-true b c e)) (λ e. rw e (upto_at bs (omega (arith, rw e at h))))

  -- and is not in it
  pub upto_none : (s : List ℕ) (i : ℕ) → i < length (upto c s) → get_or s i 0 ≡ c → ⊥
  unfolding upto
  upto_none [] i h q = omega arith
  upto_none (b ∷ bs) zero h q = case (eqb b c) (λ e. omega (arith, rw e at h)) (λ e. eqb-false b c e q)
  upto_none (b ∷ bs) (suc i) h q = case (eqb b c) (λ e. omega (arith, rw e at h)) (λ e. upto_none bs i (omega (arith, rw e at h)) q)

  -- from a place on
  module _ (s : List ℕ) (i : ℕ) where
    pub upto_hit : i < length s → get_or s i 0 ≡ c → length (upto c (drop i s)) ≡ 0
    unfolding upto
    upto_hit h e = rw (drop-cons s i 0 h, eq-eqb (get_or s i 0) c e)

    pub upto_miss : i < length s → (get_or s i 0 ≡ c → ⊥) → length (upto c (drop i s)) ≡ suc (length (upto c (drop (i + 1) s)))
    unfolding upto
    upto_miss h e = rw (drop-cons s i 0 h, ne_eqb (get_or s i 0) c e, add-one)

    pub upto_end : length s ≤ i → length (upto c (drop i s)) ≡ 0
    unfolding upto
    upto_end h = rw (drop_of_length-le s h)

    pub upto_inside : i ≤ length s → i + length (upto c (drop i s)) ≤ length s
    upto_inside h = omega (arith, upto_le (drop i s), length-drop i s)
