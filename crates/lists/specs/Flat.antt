-- Laws of `flat_map`, which puts lists one after another, and of such lists that are all as long.
-- Assumes nothing.
use Rattle.std.specs.Prelude.{◌≡◌, Bool, get_or, take, drop}
use Rattle.std.proofs.Math.Path.{refl, ap}
use mathlib.Core.List.{List, [], ◌∷◌, ◌++◌, map, flat_map, append_assoc, append-nil}
use Prim.Native.Nat.{ℕ, zero, suc, ◌+◌, ◌*◌, ◌<◌}
use Rattle.std.proofs.Common.{add-one, take_at, get_or-append-add}
use native.Mathlib.Omega.{arith}
use Rattle.std.proofs.Math.ListN.{length, length-append, get_or-append}
use Rattle.std.proofs.Math.Seq.{take-suc, drop-append-add}
use Rattle.lists.specs.Lists.{keep, All, keep_append}

module _ {A B : Type 0} (f : A → List B) where
  pub flat_append : (xs ys : List A) → flat_map f (xs ++ ys) ≡ flat_map f xs ++ flat_map f ys
  unfolding flat_map
  flat_append [] ys = refl
  flat_append (x ∷ xs) ys = rw (flat_append xs ys, append_assoc)

  pub flat_map_lem : {C : Type 0} (g : C → A) (xs : List C) → flat_map f (map g xs) ≡ flat_map (λ (x : C). f (g x)) xs
  unfolding flat_map
  flat_map_lem g [] = refl
  flat_map_lem g (x ∷ xs) = ap (λ (l : List B). f (g x) ++ l) (flat_map_lem g xs)

  -- one more
  pub flat_more : (xs : List A) (i : ℕ) (z : A) → i < length xs → flat_map f (take (i + 1) xs) ≡ flat_map f (take i xs) ++ f (get_or xs i z)
  unfolding flat_map
  flat_more xs i z h = rw (add-one, take-suc xs i z h, flat_append, append-nil)

  pub keep_flat : (p : B → Bool) (xs : List A) → keep p (flat_map f xs) ≡ flat_map (λ (x : A). keep p (f x)) xs
  unfolding flat_map
  keep_flat p [] = refl
  keep_flat p (x ∷ xs) = rw (keep_append, keep_flat p xs)

  module _ (n : ℕ) where
    abbrev AsLong : List A → Type 0
    AsLong xs = All (λ (x : A). length (f x) ≡ n) xs

    pub flat_length : (xs : List A) → AsLong xs → length (flat_map f xs) ≡ n * length xs
    unfolding flat_map
    flat_length [] a = omega arith
    flat_length (x ∷ xs) a = omega (arith, length-append (f x) (flat_map f xs), flat_length xs a.1, a.0)

    -- the k-th of them
    pub flat_part : (xs : List A) (k : ℕ) (z : A) → AsLong xs → k < length xs → take n (drop (n * k) (flat_map f xs)) ≡ f (get_or xs k z)
    unfolding flat_map
    flat_part [] k z a h = absurd (omega arith)
    flat_part (x ∷ xs) zero z a h = let e : n * 0 ≡ 0 = omega arith in rw e (take_at (f x) (flat_map f xs) n a.0)
    flat_part (x ∷ xs) (suc k) z a h =
        let e : n * suc k ≡ length (f x) + n * k = omega (arith, a.0) in
        rw (e, drop-append-add) (flat_part xs k z a.1 (omega arith))

    -- and what stands in it
    pub flat_getD : (xs : List A) (k i : ℕ) (z : A) (y : B) → AsLong xs → k < length xs → i < n → get_or (flat_map f xs) (n * k + i) y ≡ get_or (f (get_or xs k z)) i y
    unfolding flat_map
    flat_getD [] k i z y a h l = absurd (omega arith)
    flat_getD (x ∷ xs) zero i z y a h l =
        let e : n * 0 + i ≡ i = omega arith in
        rw e (get_or-append (f x) (flat_map f xs) y i (omega (arith, a.0)))
    flat_getD (x ∷ xs) (suc k) i z y a h l =
        let e : n * suc k + i ≡ length (f x) + (n * k + i) = omega (arith, a.0) in
        rw (e, get_or-append-add) (flat_getD xs k i z y a.1 (omega arith) l)

-- the image of what stands in a place
pub getD_image : {A B : Type 0} (f : A → B) (xs : List A) (i : ℕ) (z : A) (y : B) → i < length xs → get_or (map f xs) i y ≡ f (get_or xs i z)
getD_image f [] i z y h = absurd (omega arith)
getD_image f (x ∷ xs) zero z y h = refl
getD_image f (x ∷ xs) (suc i) z y h = getD_image f xs i z y (omega arith)
