-- Elements leave a list by their places: one, or several one after another.
-- Assumes nothing.
use Prim.Native.Nat.{ℕ, zero, suc, ◌+◌, ◌-◌, ◌≤◌, ◌<◌}
use Rattle.std.proofs.Common.{arith, ap, ◌∙◌}
use Rattle.std.specs.Prelude.{◌≡◌, refl, List, [], ◌∷◌, ◌++◌, map, get_or, take, drop, replicate}
use Rattle.std.proofs.Math.ListN.{length}
use Rattle.std.proofs.Math.Seq.{take-append_seam, drop-append_seam}
use Rattle.lists.specs.Pads.{pad}

-- without the element in place i
abbrev pub remove_at {ℓ} : {A : Type ℓ} → ℕ → List A → List A
remove_at i [] = []
remove_at zero (x ∷ xs) = xs
remove_at (suc i) (x ∷ xs) = x ∷ remove_at i xs

-- without those in these places: they leave one after another, each place counted after the removals before it
abbrev pub removes {ℓ} : {A : Type ℓ} → List ℕ → List A → List A
removes [] xs = xs
removes (g ∷ gs) xs = removes gs (remove_at g xs)

-- each is a place of a list that had so many elements before the first of them left
abbrev pub Places : ℕ → List ℕ → Type 0
Places n [] = Unit {0}
Places n (g ∷ gs) = (g < n) × Places (n - 1) gs

-- ## One place

module _ {A : Type 0} where
  pub removed_length : (i : ℕ) (xs : List A) → i < length xs → suc (length (remove_at i xs)) ≡ length xs
  removed_length i [] h = absurd (omega arith)
  removed_length zero (x ∷ xs) h = refl
  removed_length (suc i) (x ∷ xs) h = ap suc (removed_length i xs (omega arith))

  pub removed_append : (i : ℕ) (xs ys : List A) → i < length xs → remove_at i (xs ++ ys) ≡ remove_at i xs ++ ys
  removed_append i [] ys h = absurd (omega arith)
  removed_append zero (x ∷ xs) ys h = refl
  removed_append (suc i) (x ∷ xs) ys h = ap (λ (l : List A). x ∷ l) (removed_append i xs ys (omega arith))

  -- the first element of the second part leaves
  pub removed_seam : (xs ys : List A) (y : A) (i : ℕ) → length xs ≡ i → remove_at i (xs ++ (y ∷ ys)) ≡ xs ++ ys
  removed_seam [] ys y i e = rw (← e)
  removed_seam (x ∷ xs) ys y i e = rw (← e) (ap (λ (l : List A). x ∷ l) (removed_seam xs ys y (length xs) refl))

  pub removed_map : {B : Type 0} (f : A → B) (i : ℕ) (xs : List A) → map f (remove_at i xs) ≡ remove_at i (map f xs)
  removed_map f i [] = refl
  removed_map f zero (x ∷ xs) = refl
  removed_map f (suc i) (x ∷ xs) = rw (removed_map f i xs)

  -- where a list is filled up to n, the last place of its elements is unused then
  pub removed_pad : (n : ℕ) (b : A) (i k : ℕ) (list xs : List A) → list ≡ pad n b xs → length xs ≡ k → i < k → k ≤ n
      → remove_at i (take k list) ++ (b ∷ drop k list) ≡ pad n b (remove_at i xs)
  unfolding pad
  removed_pad n b i k list xs q e h l =
      let m = n - length xs in
      let more : n - length (remove_at i xs) ≡ suc m = omega (arith, removed_length i xs (omega arith)) in
      rw (q, ← e, take-append_seam xs (replicate m b), drop-append_seam xs (replicate m b), more)

-- ## Several, one after another

module _ {A : Type 0} where
  pub removes_map : {B : Type 0} (f : A → B) (gs : List ℕ) (xs : List A) → map f (removes gs xs) ≡ removes gs (map f xs)
  removes_map f [] xs = refl
  removes_map f (g ∷ gs) xs = removes_map f gs (remove_at g xs) ∙ ap (removes gs) (removed_map f g xs)

  pub removes_last : (gs : List ℕ) (g : ℕ) (xs : List A) → removes (gs ++ (g ∷ [])) xs ≡ remove_at g (removes gs xs)
  removes_last [] g xs = refl
  removes_last (h ∷ gs) g xs = removes_last gs g (remove_at h xs)

  pub removes_length : (gs : List ℕ) (xs : List A) → Places (length xs) gs → length (removes gs xs) + length gs ≡ length xs
  removes_length [] xs p = omega arith
  removes_length (g ∷ gs) xs p =
      let l = removed_length g xs p.0 in
      let n : length xs - 1 ≡ length (remove_at g xs) = omega arith in
      omega (arith, removes_length gs (remove_at g xs) (rw n at p.1))

pub places_last : (n : ℕ) (gs : List ℕ) (g : ℕ) → Places n gs → g + length gs < n → Places n (gs ++ (g ∷ []))
places_last n [] g p l = (omega arith, tt)
places_last n (h ∷ gs) g p l = (p.0, places_last (n - 1) gs g p.1 (omega arith))

pub places_take : (n : ℕ) (gs : List ℕ) (k : ℕ) → Places n gs → Places n (take k gs)
places_take n gs zero p = tt
places_take n [] (suc k) p = tt
places_take n (g ∷ gs) (suc k) p = (p.0, places_take (n - 1) gs k p.1)

pub places_at : (n : ℕ) (gs : List ℕ) (k : ℕ) → Places n gs → k < length gs → get_or gs k 0 + k < n
places_at n [] k p l = absurd (omega arith)
places_at n (g ∷ gs) zero p l = omega (arith, p.0)
places_at n (g ∷ gs) (suc k) p l = omega (arith, places_at (n - 1) gs k p.1 (omega arith))
