-- A table that is the profile: each of its minutes is a point. So its places are the profile's points, one for one.
-- Assumes nothing.
use Prim.Native.Nat.{ℕ, zero, suc, ◌+◌, ◌-◌, ◌≤◌, ◌<◌}
use Rattle.std.proofs.Common.{arith, ◌∙◌, inl, inr, length-append}
use Rattle.std.proofs.Math.Numerals.{add-one}
use Rattle.std.specs.Prelude.{◌≡◌, refl, List, [], ◌∷◌, ◌++◌, ◌⊎◌, ◌≢◌, length}
use Rattle.std.proofs.Math.Path.{sym, ap}
use Rattle.std.proofs.Math.ListN.{get_or, get_or-append}
use Rattle.std.proofs.lemmas.List.{get_or_at}
use Rattle.lists.specs.Tests.{le_or}
use Rattle.spans.specs.declared.Span.{Span}
use Rattle.spans.specs.declared.Point.{Point}
use Rattle.spans.specs.Spans.{free, last_end, point, points, profile}
use Rattle.spans.proofs.ProfileLaws.{true_changes, points_append, points_still, profile_to}
use Rattle.conservative_table.specs.Table.{Table, table_rise}

-- m is the minute of a point: it is now, or f differs there from the minute before
abbrev pub Real : (ℕ → ℕ) → ℕ → ℕ → Type 0
Real f now m = (m ≡ now) ⊎ ((now < m) × (f m ≢ f (m - 1)))

-- the first n places are a table of f, and each minute is that of a point
pub record Kept (f : ℕ → ℕ) (now n : ℕ) (ms fs : List ℕ) : Type 0 where
  pub table : Table f now n ms fs
  pub real : (i : ℕ) → i < n → Real f now (get_or ms i 0)

-- the point of a place, and those of the first n places
abbrev pub point_at : List ℕ → List ℕ → ℕ → Point
point_at ms fs i = record { minute = get_or ms i 0; free = get_or fs i 0 }

unfoldable pub points_of : List ℕ → List ℕ → ℕ → List Point
points_of ms fs zero = []
points_of ms fs (suc n) = points_of ms fs n ++ (point_at ms fs n ∷ [])

pub length_points_of : (ms fs : List ℕ) (n : ℕ) → length (points_of ms fs n) ≡ n
unfolding points_of
length_points_of ms fs zero = refl
length_points_of ms fs (suc n) = omega (arith, length-append (points_of ms fs n) (point_at ms fs n ∷ []), length_points_of ms fs n)

-- one minute more, which is a point
points_real : (f : ℕ → ℕ) (now t : ℕ) → now ≤ t → Real f now t → points f now (suc t - now) ≡ points f now (t - now) ++ (point f t ∷ [])
points_real f now t l r =
    let k : ℕ = t - now in
    let e : suc t - now ≡ k + 1 = omega arith in
    let m : now + k ≡ t = omega arith in
    rw (e, points_append f now k 1, m, true_changes f now t l r)

module _ {f : ℕ → ℕ} {now n : ℕ} {ms fs : List ℕ} (q : Kept f now n ms fs) where
  from_now : (i : ℕ) → i < n → now ≤ get_or ms i 0
  from_now i l = omega (arith, q.table.first, table_rise q.table 0 i (omega arith) l)

  -- a place and those before it
  put : (i : ℕ) → i < n → points_of ms fs i ≡ points f now (get_or ms i 0 - now) → points_of ms fs (suc i) ≡ points f now (suc (get_or ms i 0) - now)
  unfolding points_of
  put i l h =
      let v : get_or fs i 0 ≡ f (get_or ms i 0) = sym (q.table.value i (get_or ms i 0) l (omega arith) (q.table.rise i)) in
      rw (points_real f now (get_or ms i 0) (from_now i l) (q.real i l), h, v)

  same : (i t : ℕ) → i < n → get_or ms i 0 ≤ t → (i + 1 < n → t < get_or ms (i + 1) 0) → f t ≡ f (get_or ms i 0)
  same i t l a b = q.table.value i t l a b ∙ sym (q.table.value i (get_or ms i 0) l (omega arith) (q.table.rise i))

  points_before : (i : ℕ) → i < n → points_of ms fs i ≡ points f now (get_or ms i 0 - now)
  unfolding points_of points
  points_before zero l = let e : get_or ms 0 0 - now ≡ 0 = omega (arith, q.table.first) in rw e
  points_before (suc i) l =
      let e : i + 1 ≡ suc i = add-one i in
      let s : get_or ms i 0 < get_or ms (i + 1) 0 = q.table.rise i (omega arith) in
      put i (omega arith) (points_before i (omega arith))
      ∙ sym (points_still f now (get_or ms i 0) (get_or ms (i + 1) 0) (from_now i (omega arith)) s (λ t a b. same i t (omega arith) a (λ k. b)))
      ∙ ap (λ (m : ℕ). points f now (get_or ms m 0 - now)) e

-- The places are the points of the profile.
pub kept_profile : (N : ℕ) (xs : List Span) {now n : ℕ} {ms fs : List ℕ} → Kept (free N xs) now n ms fs → points_of ms fs n ≡ profile N xs now
kept_profile N xs {now} {n} {ms} {fs} q =
    let f : ℕ → ℕ = free N xs in
    let i : ℕ = n - 1 in
    let e : n ≡ suc i = omega (arith, q.table.some) in
    let l : i < n = omega (arith, q.table.some) in
    let k : ℕ = suc (get_or ms i 0 + last_end xs) in
    let z : now + k - now ≡ k = omega arith in
    ap (points_of ms fs) e
    ∙ put q i l (points_before q i l)
    ∙ sym (rw z at (points_still f now (get_or ms i 0) (now + k) (from_now q i l) (omega arith) (λ t a b. same q i t l a (λ y. absurd (omega arith)))))
    ∙ sym (profile_to N xs now k (omega arith) (omega arith))

pub at_points_of : (ms fs : List ℕ) (n i : ℕ) (z : Point) → i < n → get_or (points_of ms fs n) i z ≡ point_at ms fs i
unfolding points_of
at_points_of ms fs zero i z l = absurd (omega arith)
at_points_of ms fs (suc n) i z l = go (le_or n i) (λ h. at_points_of ms fs n i z h)
  where
    go : (n ≤ i) ⊎ (i < n) → (i < n → get_or (points_of ms fs n) i z ≡ point_at ms fs i) → get_or (points_of ms fs n ++ (point_at ms fs n ∷ [])) i z ≡ point_at ms fs i
    go (inl h) f = let e : n ≡ i = omega arith in get_or_at (points_of ms fs n) (point_at ms fs n) [] z i (length_points_of ms fs n ∙ e) ∙ ap (point_at ms fs) e
    go (inr h) f = get_or-append (points_of ms fs n) (point_at ms fs n ∷ []) z i (omega (arith, length_points_of ms fs n)) ∙ f h
