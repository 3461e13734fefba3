-- Tests that every element of a list passes, in the shape of a loop that goes over it by its index; and a test that is given how many elements
-- stand before the element.
-- Assumes nothing.
use Rattle.std.specs.Prelude.{ℕ, ◌+◌, ◌≤◌, ◌<◌, ◌≡◌, refl, Bool, true, false, ◌&&◌, List, [], ◌∷◌, length, get_or, drop}
use Rattle.std.proofs.Common.{arith, add-one, drop_of_length-le, drop-cons}
use Rattle.lists.specs.Lists.{keep}
use Rattle.lists.specs.Every.{every}

-- ## Of each element by itself

-- the element at an index passes it, does not, or there is none
module _ {A : Type 0} (z : A) (p : A → Bool) (xs : List A) (i : ℕ) where
  pub every_passed : i < length xs → p (get_or xs i z) ≡ true → every p (drop i xs) ≡ every p (drop (i + 1) xs)
  every_passed h e = rw (drop-cons xs i z h, e, add-one)

  pub every_failed : i < length xs → p (get_or xs i z) ≡ false → every p (drop i xs) ≡ false
  every_failed h e = rw (drop-cons xs i z h, e)

  pub every_ended : length xs ≤ i → every p (drop i xs) ≡ true
  every_ended h = rw (drop_of_length-le xs h)

-- ## With those before it

-- whether all pass a test that is given how many stand before, counted from k
abbrev pub every_from {ℓ} : {A : Type ℓ} → (ℕ → A → Bool) → ℕ → List A → Bool
every_from p k [] = true
every_from p k (x ∷ xs) = p k x && every_from p (k + 1) xs

-- a test by another that says the same of each, given k or more
pub from_cong : {A : Type 0} (p q : ℕ → A → Bool) (k : ℕ) (xs : List A) → ((n : ℕ) (a : A) → k ≤ n → p n a ≡ q n a) → every_from p k xs ≡ every_from q k xs
from_cong p q k [] f = refl
from_cong p q k (x ∷ xs) f = rw (f k x (omega arith), from_cong p q (k + 1) xs (λ n a l. f n a (omega arith)))

-- of those that another test picks: the element at an index is not picked, passes, does not, or there is none
module _ {A : Type 0} (z : A) (p : ℕ → A → Bool) (q : A → Bool) (xs : List A) (k i : ℕ) where
  pub from_skipped : i < length xs → q (get_or xs i z) ≡ false → every_from p k (keep q (drop i xs)) ≡ every_from p k (keep q (drop (i + 1) xs))
  from_skipped h s = rw (drop-cons xs i z h, s, add-one)

  pub from_passed : i < length xs → q (get_or xs i z) ≡ true → p k (get_or xs i z) ≡ true
      → every_from p k (keep q (drop i xs)) ≡ every_from p (k + 1) (keep q (drop (i + 1) xs))
  from_passed h s e = rw (drop-cons xs i z h, s, e, add-one i)

  pub from_failed : i < length xs → q (get_or xs i z) ≡ true → p k (get_or xs i z) ≡ false → every_from p k (keep q (drop i xs)) ≡ false
  from_failed h s e = rw (drop-cons xs i z h, s, e)

  pub from_ended : length xs ≤ i → every_from p k (keep q (drop i xs)) ≡ true
  from_ended h = rw (drop_of_length-le xs h)
