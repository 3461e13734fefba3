-- Laws of the first element that passes a test.
-- Assumes nothing.
use Rattle.std.specs.Prelude.{ℕ, suc, ◌+◌, ◌-◌, ◌≤◌, ◌<◌, ◌≡◌, refl, Bool, true, false, ◌&&◌, length, get_or, drop, ◌⊎◌}
use Rattle.std.proofs.Common.{arith, add-one, ap, ◌∙◌, drop_of_length-le, drop-cons, inl, inr}
use Rattle.std.proofs.Math.Option.{none, some}
use mathlib.Core.List.{List, [], ◌∷◌, head?}
use Rattle.lists.specs.Tests.{case}
use Rattle.lists.specs.Lists.{keep, first, In, here, there, in_nil, in_cons}
use Rattle.lists.specs.Loops.{position, position_from, position_says}

module _ {A : Type 0} where
  -- where none is found, none passes
  pub first_none : (p : A → Bool) (xs : List A) → first p xs ≡ none → (a : A) → In a xs → p a ≡ false
  first_none p [] e a i = in_nil i
  first_none p (x ∷ xs) e a i =
      case (p x)
      (λ q. absurd (let w : some x ≡ none = rw q at e in let z : ◌≡◌ {A = ℕ} 0 1 = cc in omega arith))
      (λ q. by q (in_cons i) (λ k. first_none p xs (rw q at e) a k))
    where
      by : p x ≡ false → (a ≡ x) ⊎ In a xs → (In a xs → p a ≡ false) → p a ≡ false
      by q (inl z) f = ap p z ∙ q
      by q (inr k) f = f k

  -- and the other way round
  pub none_first : (p : A → Bool) (xs : List A) → ((a : A) → In a xs → p a ≡ false) → first p xs ≡ none
  none_first p [] f = refl
  none_first p (x ∷ xs) f = rw (f x (here refl)) (none_first p xs (λ a i. f a (there i)))

  pub first_cong : (p q : A → Bool) (xs : List A) → ((a : A) → In a xs → p a ≡ q a) → first p xs ≡ first q xs
  first_cong p q [] f = refl
  first_cong p q (x ∷ xs) f = rw (f x (here refl), first_cong p q xs (λ a i. f a (there i)))

  -- a search among those kept is one search
  pub first_keep : (p q : A → Bool) (xs : List A) → first p (keep q xs) ≡ first (λ (x : A). q x && p x) xs
  first_keep p q [] = refl
  first_keep p q (x ∷ xs) = case (q x) (λ e. rw e (case (p x) (λ k. rw k) (λ k. rw k (first_keep p q xs)))) (λ e. rw e (first_keep p q xs))

  -- the same search among those that are left, one by one
  module _ (p : A → Bool) (xs : List A) (z : A) (i : ℕ) where
    pub first_hit : i < length xs → p (get_or xs i z) ≡ true → first p (drop i xs) ≡ some (get_or xs i z)
    first_hit h e = rw (drop-cons xs i z h, e)

    pub first_miss : i < length xs → p (get_or xs i z) ≡ false → first p (drop i xs) ≡ first p (drop (i + 1) xs)
    first_miss h e = rw (drop-cons xs i z h, e, add-one)

    pub first_end : length xs ≤ i → first p (drop i xs) ≡ none
    first_end h = rw (drop_of_length-le xs h)

  pub head_keep : (p : A → Bool) (xs : List A) → head? (keep p xs) ≡ first p xs
  head_keep p [] = refl
  head_keep p (x ∷ xs) = case (p x) (λ e. rw e) (λ e. rw e (head_keep p xs))

  -- the element at the index found, and none where none is found
  first_from : (p : A → Bool) (xs : List A) (z : A) (k i : ℕ) → position_from p k xs ≡ some i → first p xs ≡ some (get_or xs (i - k) z)
  first_from p [] z k i e = absurd (let w : ◌≡◌ {A = ℕ} 0 1 = cc in omega arith)
  first_from p (x ∷ xs) z k i e =
      case (p x)
      (λ q. let w : some k ≡ some i = rw q at e in
      let y : k ≡ i = cc in
      let n : i - k ≡ 0 = omega arith in rw (q, n))
      (λ q. let w : position_from p (k + 1) xs ≡ some i = rw q at e in
      let n : i - k ≡ suc (i - (k + 1)) = omega (arith, (position_says z p xs (k + 1) i w).at_is) in rw (q, n) (first_from p xs z (k + 1) i w))

  pub first_at : (p : A → Bool) (xs : List A) (z : A) (i : ℕ) → position p xs ≡ some i → first p xs ≡ some (get_or xs i z)
  first_at p xs z i e = let n : i - 0 ≡ i = omega arith in rw n at (first_from p xs z 0 i e)

  pub first_nowhere : (p : A → Bool) (xs : List A) (k : ℕ) → position_from p k xs ≡ none → first p xs ≡ none
  first_nowhere p [] k e = refl
  first_nowhere p (x ∷ xs) k e =
      case (p x)
      (λ q. absurd (let w : some k ≡ none = rw q at e in let z : ◌≡◌ {A = ℕ} 0 1 = cc in omega arith))
      (λ q. rw q (first_nowhere p xs (k + 1) (rw q at e)))

-- In a loop over places: the search goes on from the next one, or ends.
module _ {A : Type 0} (z : A) where
  pub first_skip : (p : A → Bool) (xs : List A) (i : ℕ) → i < length xs → p (get_or xs i z) ≡ false → first p (drop i xs) ≡ first p (drop (i + 1) xs)
  first_skip p xs i l e = rw (drop-cons xs i z l, e, add-one)

  pub first_here : (p : A → Bool) (xs : List A) (i : ℕ) → i < length xs → p (get_or xs i z) ≡ true → first p (drop i xs) ≡ some (get_or xs i z)
  first_here p xs i l e = rw (drop-cons xs i z l, e)

  pub first_done : (p : A → Bool) (xs : List A) (i : ℕ) → length xs ≤ i → first p (drop i xs) ≡ none
  first_done p xs i l = rw (drop_of_length-le xs l)
