-- A list filled up to a fixed length, as an array of slots holds it.
-- Assumes nothing.
use Prim.Native.Nat.{ℕ, zero, suc, ◌+◌, ◌-◌, ◌≤◌, ◌<◌}
use native.Mathlib.Omega.{arith}
use Rattle.std.specs.Prelude.{◌≡◌, refl, Bool, true, false, get_or, set}
use Rattle.std.proofs.Common.{sym, ◌∙◌, length-set}
use Rattle.std.proofs.Math.Path.{ap}
use mathlib.Core.List.{List, [], ◌∷◌, ◌++◌, map, map-append, append_assoc, append-nil}
use Rattle.std.proofs.Math.ListN.{length, replicate, length-append, length-map, length-replicate, replicate-append-replicate}
use Rattle.std.proofs.lemmas.List.{set_at, set-append_left}
use Rattle.lists.specs.Lists.{keep, sum, All, In, here, there, keep_append, keep_none, keep_all, map_same, length_keep_le, sum_append, all_append}

-- filled up with b to n elements
unfoldable pub pad {ℓ} : {A : Type ℓ} → ℕ → A → List A → List A
pad n b xs = xs ++ replicate (n - length xs) b

module _ {A : Type 0} (n : ℕ) (b : A) where
  pub length_pad : (xs : List A) → length xs ≤ n → length (pad n b xs) ≡ n
  unfolding pad
  length_pad xs h = omega (arith, length-append xs (replicate (n - length xs) b), length-replicate (n - length xs) b)

  -- a store at the first unused place
  pub pad_push : (xs : List A) (x : A) (k : ℕ) → length xs ≡ k → k < n → set (pad n b xs) k x ≡ pad n b (xs ++ (x ∷ []))
  unfolding pad
  pad_push xs x k e h =
      let m : ℕ = n - suc k in
      let e₁ : n - length xs ≡ suc m = omega arith in
      let e₂ : n - length (xs ++ (x ∷ [])) ≡ m = omega (arith, length-append xs (x ∷ [])) in
      rw (e₁, e₂, append_assoc) (set_at xs b (replicate m b) x k e)

  in_same : (k : ℕ) {a : A} → In a (replicate k b) → a ≡ b
  in_same zero i = elim i [ ]
  in_same (suc k) (here e) = e
  in_same (suc k) (there i) = in_same k i

  pub sum_same : (f : A → ℕ) → f b ≡ 0 → (k : ℕ) → sum f (replicate k b) ≡ 0
  sum_same f e zero = refl
  sum_same f e (suc k) = omega (arith, sum_same f e k)

  pub sum_pad : (f : A → ℕ) (xs : List A) → f b ≡ 0 → sum f (pad n b xs) ≡ sum f xs
  unfolding pad
  sum_pad f xs e = omega (arith, sum_append f xs (replicate (n - length xs) b), sum_same f e (n - length xs))

  -- what passes no unused place is what passes the list
  pub keep_pad : (p : A → Bool) (xs : List A) → p b ≡ false → keep p (pad n b xs) ≡ keep p xs
  unfolding pad
  keep_pad p xs e =
      keep_append p xs (replicate (n - length xs) b)
      ∙ ap (λ (l : List A). keep p xs ++ l) (keep_none p (replicate (n - length xs) b) (λ a i. ap p (in_same (n - length xs) i) ∙ e))
      ∙ append-nil (keep p xs)

  pub all_same : (P : A → Type 0) → P b → (k : ℕ) → All P (replicate k b)
  all_same P h zero = tt
  all_same P h (suc k) = (h, all_same P h k)

  pub all_pad : (P : A → Type 0) (xs : List A) → P b → All P xs → All P (pad n b xs)
  unfolding pad
  all_pad P xs h a = all_append P xs (replicate (n - length xs) b) a (all_same P h (n - length xs))

  -- what stands past the elements
  past : (xs : List A) (k i : ℕ) → length xs ≤ i → get_or (xs ++ replicate k b) i b ≡ b
  past [] zero i l = refl
  past [] (suc k) zero l = refl
  past [] (suc k) (suc i) l = past [] k i (omega arith)
  past (x ∷ xs) k zero l = absurd (omega arith)
  past (x ∷ xs) k (suc i) l = past xs k i (omega arith)

  pub pad_past : (xs : List A) (i : ℕ) → length xs ≤ i → get_or (pad n b xs) i b ≡ b
  unfolding pad
  pad_past xs i l = past xs (n - length xs) i l

  -- a store among the elements
  pub pad_set : (xs : List A) (i : ℕ) (x : A) → i < length xs → set (pad n b xs) i x ≡ pad n b (set xs i x)
  unfolding pad
  pad_set xs i x h = rw (length-set xs i x) (set-append_left xs (replicate (n - length xs) b) i x h)

  -- a change that leaves unused places as they are
  map_alike : (f : A → A) → f b ≡ b → (k : ℕ) → map f (replicate k b) ≡ replicate k b
  map_alike f e k = map_same f (replicate k b) (λ a i. ap f (in_same k i) ∙ e ∙ sym (in_same k i))

  pub map_pad : (f : A → A) (xs : List A) → f b ≡ b → map f (pad n b xs) ≡ pad n b (map f xs)
  unfolding pad
  map_pad f xs e = rw (map-append f xs (replicate (n - length xs) b), map_alike f e (n - length xs), length-map xs f)

  keep_same : (p : A → Bool) → p b ≡ true → (k : ℕ) → keep p (replicate k b) ≡ replicate k b
  keep_same p e k = keep_all p (replicate k b) (λ a i. ap p (in_same k i) ∙ e)

  -- a selection that keeps unused places: filled up again, it is the selection of the list
  pub pad_keep : (p : A → Bool) (xs : List A) → p b ≡ true → length xs ≤ n → pad n b (keep p (pad n b xs)) ≡ pad n b (keep p xs)
  unfolding pad
  pad_keep p xs e h =
      let k = n - length xs in
      let K = keep p xs in
      let q : keep p (xs ++ replicate k b) ≡ K ++ replicate k b = keep_append p xs (replicate k b) ∙ ap (λ (l : List A). K ++ l) (keep_same p e k) in
      let low = length_keep_le p xs in
      let c : k + (n - length (K ++ replicate k b)) ≡ n - length K = omega (arith, length-append K (replicate k b), length-replicate k b) in
      rw (q, append_assoc, replicate-append-replicate, c)
