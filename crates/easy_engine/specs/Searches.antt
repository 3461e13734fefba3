-- Searches by tests that say the same, and tests of which one is decided.
-- Assumes nothing.
use Rattle.std.specs.Prelude.{ℕ, suc, ◌+◌, ◌-◌, ◌≤◌, ◌≡◌, refl, Bool, true, false, ◌||◌, List, [], ◌∷◌, length, drop}
use Rattle.std.proofs.Common.{arith, ap, ◌∙◌, drop_of_length-le}
use Rattle.lists.specs.Tests.{case}
use Rattle.lists.specs.Lists.{In, here, there}
use Rattle.lists.specs.Loops.{position_from, position}
use Rattle.job_columns.specs.Searches.{place_of}

-- a search by another test that says the same of each
pub position_cong : {A : Type 0} (p q : A → Bool) (xs : List A) (k : ℕ) → ((a : A) → In a xs → p a ≡ q a) → position_from p k xs ≡ position_from q k xs
position_cong p q [] k e = refl
position_cong p q (x ∷ xs) k e = rw (e x (here refl), position_cong p q xs (k + 1) (λ a i. e a (there i)))

-- a search may begin where a test that is weaker passes first
module _ {A : Type 0} (p q : A → Bool) (weaker : (a : A) → q a ≡ false → p a ≡ false) where
  from_low : (xs : List A) (k n : ℕ) → n ≡ k + length xs → k ≤ place_of (position_from q k xs) n
  from_low [] k n e = omega arith
  from_low (x ∷ xs) k n e = case (q x) (λ t. rw t (omega arith)) (λ t. rw t (omega (arith, from_low xs (k + 1) n (omega arith))))

  skips_from : (xs : List A) (k n i : ℕ) → n ≡ k + length xs → i ≡ place_of (position_from q k xs) n → position_from p i (drop (i - k) xs) ≡ position_from p k xs
  skips_from [] k n i e f = ap (λ (l : List A). position_from p i l) (drop_of_length-le [] {i = i - k} (omega arith))
  skips_from (x ∷ xs) k n i e f =
      case (q x)
      (λ t. let z : i ≡ k = rw t at f in let d : i - k ≡ 0 = omega arith in rw (d, z))
      (λ t. let g : i ≡ place_of (position_from q (k + 1) xs) n = rw t at f in
      let l : k + 1 ≤ i = omega (arith, g, from_low xs (k + 1) n (omega arith)) in
      let d : i - k ≡ suc (i - (k + 1)) = omega arith in
      rw (weaker x t, d) (skips_from xs (k + 1) n i (omega arith) g))

  pub position_skips : (xs : List A) (n i : ℕ) → n ≡ length xs → i ≡ place_of (position q xs) n → position_from p i (drop i xs) ≡ position p xs
  position_skips xs n i e f =
      let z : i ≡ i - 0 = omega arith in
      ap (λ (k : ℕ). position_from p i (drop k xs)) z ∙ skips_from xs 0 n i (omega arith) f

-- a test or another, where the other is decided
pub or_true : (a b : Bool) → b ≡ true → (a || b) ≡ true
or_true true b e = refl
or_true false b e = e

pub or_false : (a b : Bool) → b ≡ false → (a || b) ≡ a
or_false true b e = refl
or_false false b e = e
