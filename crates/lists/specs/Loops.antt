-- Laws in the shape of a loop that goes over a list by its index: one element more has been passed (take) or is left (drop).
-- Assumes nothing.
use Rattle.std.specs.Prelude.{ℕ, zero, suc, ◌+◌, ◌-◌, ◌≤◌, ◌<◌, ◌≡◌, refl, Bool, true, false, cond, List, [], ◌∷◌, ◌++◌, map, get_or, take, drop, set, replicate}
use Rattle.std.proofs.Common.{arith, add-one, sym, ap, ◌∙◌, append-nil, append_assoc, drop_of_length-le, take-suc, drop-cons, length-take-le}
use Rattle.std.proofs.Math.Option.{Option, none, some}
use Rattle.std.proofs.lemmas.List.{map-append, length-map, set_at}
use Rattle.std.proofs.Math.ListN.{length}
use Rattle.lists.specs.Tests.{case}
use Rattle.lists.specs.Pads.{pad}
use Rattle.lists.specs.Lists.{keep, sum, keep_append}

-- the index of the first element that passes the test, counted from i
abbrev pub position_from {ℓ} : {A : Type ℓ} → (A → Bool) → ℕ → List A → Option ℕ
position_from p i [] = none
position_from p i (x ∷ xs) = cond (p x) (some i) (position_from p (i + 1) xs)

abbrev pub position {ℓ} : {A : Type ℓ} → (A → Bool) → List A → Option ℕ
position p xs = position_from p 0 xs

module _ {A : Type 0} (z : A) where
  -- sums
  pub sum_drop : (f : A → ℕ) (xs : List A) (i : ℕ) → i < length xs → sum f (drop i xs) ≡ f (get_or xs i z) + sum f (drop (i + 1) xs)
  sum_drop f xs i h = rw (add-one, drop-cons xs i z h)

  pub sum_done : (f : A → ℕ) (xs : List A) (i : ℕ) → length xs ≤ i → sum f (drop i xs) ≡ 0
  sum_done f xs i h = rw (drop_of_length-le xs h)

  -- a store takes the old element's share away and adds the new one's
  pub sum_set : (f : A → ℕ) (xs : List A) (i : ℕ) (a : A) → i < length xs → sum f (set xs i a) + f (get_or xs i z) ≡ sum f xs + f a
  sum_set f [] i a h = absurd (omega arith)
  sum_set f (x ∷ xs) zero a h = omega arith
  sum_set f (x ∷ xs) (suc i) a h = omega (arith, sum_set f xs i a (omega arith))

  -- searches
  module _ (p : A → Bool) (xs : List A) (i : ℕ) where
    pub position_hit : i < length xs → p (get_or xs i z) ≡ true → position_from p i (drop i xs) ≡ some i
    position_hit h e = rw (drop-cons xs i z h, e)

    pub position_miss : i < length xs → p (get_or xs i z) ≡ false → position_from p i (drop i xs) ≡ position_from p (i + 1) (drop (i + 1) xs)
    position_miss h e = rw (drop-cons xs i z h, e, add-one)

    pub position_end : length xs ≤ i → position_from p i (drop i xs) ≡ none
    position_end h = rw (drop_of_length-le xs h)

  -- selections
  pub keep_take_yes : (p : A → Bool) (xs : List A) (i : ℕ) → i < length xs → p (get_or xs i z) ≡ true
      → keep p (take (i + 1) xs) ≡ keep p (take i xs) ++ (get_or xs i z ∷ [])
  keep_take_yes p xs i h t = rw (add-one, take-suc xs i z h, keep_append, t)

  pub keep_take_no : (p : A → Bool) (xs : List A) (i : ℕ) → i < length xs → p (get_or xs i z) ≡ false → keep p (take (i + 1) xs) ≡ keep p (take i xs)
  keep_take_no p xs i h t = rw (add-one, take-suc xs i z h, keep_append, t) (append-nil (keep p (take i xs)))

  -- a loop that puts f of each element in its place
  mapped_more : (f : A → A) (xs : List A) (i : ℕ) → i < length xs
      → map f (take i xs) ++ (f (get_or xs i z) ∷ drop (i + 1) xs) ≡ map f (take (i + 1) xs) ++ drop (i + 1) xs
  mapped_more f xs i h = rw (add-one, take-suc xs i z h, map-append f (take i xs) (get_or xs i z ∷ []), append_assoc)

  pub mapped_set : (f : A → A) (xs : List A) (i : ℕ) (y : A) → i < length xs → y ≡ f (get_or xs i z)
      → set (map f (take i xs) ++ drop i xs) i y ≡ map f (take (i + 1) xs) ++ drop (i + 1) xs
  mapped_set f xs i y h e =
      let n : length (map f (take i xs)) ≡ i = length-map (take i xs) f ∙ length-take-le i xs (omega arith) in
      rw (drop-cons xs i z h, set_at (map f (take i xs)) (get_or xs i z) (drop (suc i) xs) y i n, e, ← add-one i) (mapped_more f xs i h)

  pub mapped_skip : (f : A → A) (xs : List A) (i : ℕ) → i < length xs → f (get_or xs i z) ≡ get_or xs i z
      → map f (take i xs) ++ drop i xs ≡ map f (take (i + 1) xs) ++ drop (i + 1) xs
  mapped_skip f xs i h e =
      ap (λ (l : List A). map f (take i xs) ++ l) (drop-cons xs i z h ∙ ap (λ (n : ℕ). get_or xs i z ∷ drop n xs) (sym (add-one i)))
      ∙ ap (λ (x : A). map f (take i xs) ++ (x ∷ drop (i + 1) xs)) (sym e)
      ∙ mapped_more f xs i h

  -- what a found index says
  pub record Hit (p : A → Bool) (xs : List A) (k j : ℕ) : Type 0 where
    pub at : ℕ
    pub at_is : j ≡ k + at
    pub inside : at < length xs
    pub passes : p (get_or xs at z) ≡ true

  pub position_says : (p : A → Bool) (xs : List A) (k j : ℕ) → position_from p k xs ≡ some j → Hit p xs k j
  position_says p [] k j e = absurd (let z : ◌≡◌ {A = ℕ} 0 1 = cc in omega arith)
  position_says p (x ∷ xs) k j e = case (p x) (λ t. now t (rw t at e)) (λ t. later (position_says p xs (k + 1) j (rw t at e)))
    where
      now : p x ≡ true → some k ≡ some j → Hit p (x ∷ xs) k j
      now t q = let s : k ≡ j = cc in record { at = 0; at_is = omega arith; inside = omega arith; passes = t }

      later : Hit p xs (k + 1) j → Hit p (x ∷ xs) k j
      later h = record { at = suc h.at; at_is = omega (arith, h.at_is); inside = omega (arith, h.inside); passes = h.passes }

-- unused places are never found
module _ {A : Type 0} (n : ℕ) (b : A) (p : A → Bool) (e : p b ≡ false) where
  position_same : (i k : ℕ) → position_from p i (replicate k b) ≡ none
  position_same i zero = refl
  position_same i (suc k) = rw e (position_same (i + 1) k)

  position_append : (xs : List A) (i k : ℕ) → position_from p i (xs ++ replicate k b) ≡ position_from p i xs
  position_append [] i k = position_same i k
  position_append (x ∷ xs) i k = rw (position_append xs (i + 1) k)

  pub position_pad : (xs : List A) → position p (pad n b xs) ≡ position p xs
  unfolding pad
  position_pad xs = position_append xs 0 (n - length xs)
