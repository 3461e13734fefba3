-- The clock moves on: the places before the one that holds the new minute leave, and that one begins with it.
-- Assumes nothing.
use Rattle.std.specs.Prelude.{ℕ, ◌+◌, ◌-◌, ◌≤◌, ◌<◌, ◌≡◌, refl, List, ◌⊎◌, get_or, set}
use Rattle.std.proofs.Common.{arith, sym, ap, subst, ◌∙◌, inl, inr, length-set, get_or-set_same, get_or-set_other}
use Rattle.lists.specs.Tests.{le_or}
use Rattle.scheduler.specs.Limits.{horizon}
use Rattle.conservative_table.specs.ListChanges.{rows, Removed}
use Rattle.conservative_table.specs.Table.{Table, table_rise, Place, Ascends}
use Rattle.conservative_table.specs.Points.{Real, Kept}

pub record Advances (ms fs : List ℕ) (n t : ℕ) : Type 0 where
  pub f : ℕ → ℕ
  pub now : ℕ
  pub kept : Kept f now n ms fs
  pub fit : n ≤ rows
  pub later : now ≤ t
  pub until : t ≤ horizon

pub advance_ascends : {ms fs : List ℕ} {n t : ℕ} → Advances ms fs n t → Ascends ms 0 n t
advance_ascends l = record {
  long = l.kept.table.minutes_long;
  inside = l.kept.table.some;
  fit = l.fit;
  last = omega (arith, l.later, l.kept.table.first);
}

module _ {ms fs : List ℕ} {n t k : ℕ} (p : Place ms n t k) {ms₁ fs' : List ℕ} (a : Removed ms n 0 (k - 1) ms₁) (b : Removed fs n 0 (k - 1) fs')
    (l : Advances ms fs n t) where
  abbrev d : ℕ
  d = k - 1

  abbrev r : ℕ
  r = n - d

  abbrev ms' : List ℕ
  ms' = set ms₁ 0 t

  q : Table l.f l.now n ms fs
  q = l.kept.table

  first : get_or ms' 0 0 ≡ t
  first = get_or-set_same ms₁ 0 t 0 (omega (arith, a.long, q.minutes_long))

  -- the others keep their minutes
  rest : (i : ℕ) → 1 ≤ i → i < r → get_or ms' i 0 ≡ get_or ms (i + d) 0
  rest i u v = get_or-set_other ms₁ 0 i t 0 (λ e. omega arith) ∙ a.after i (omega arith) (omega arith)

  after : (i : ℕ) → 1 ≤ i → i < r → t < get_or ms' i 0
  after i u v = omega (arith, rest i u v, p.some, p.next (omega arith), table_rise q k (i + d) (omega (arith, p.some)) (omega arith))

  low : (i : ℕ) → i < r → get_or ms' i 0 ≤ horizon
  low i v = go (le_or i 0)
    where
      go : (i ≤ 0) ⊎ (0 < i) → get_or ms' i 0 ≤ horizon
      go (inl u) = let e : i ≡ 0 = omega arith in omega (arith, ap (λ (m : ℕ). get_or ms' m 0) e, first, l.until)
      go (inr u) = omega (arith, rest i u v, q.low (i + d) (omega arith))

  rise : (i : ℕ) → i + 1 < r → get_or ms' i 0 < get_or ms' (i + 1) 0
  rise i v = go (le_or i 0)
    where
      e : i + d + 1 ≡ i + 1 + d
      e = omega arith

      go : (i ≤ 0) ⊎ (0 < i) → get_or ms' i 0 < get_or ms' (i + 1) 0
      go (inl u) = let z : i ≡ 0 = omega arith in omega (arith, ap (λ (m : ℕ). get_or ms' m 0) z, first, after (i + 1) (omega arith) v)
      go (inr u) = omega (arith, rest i u (omega arith), rest (i + 1) (omega arith) v, ap (λ (m : ℕ). get_or ms m 0) e, q.rise (i + d) (omega arith))

  value : (i m : ℕ) → i < r → get_or ms' i 0 ≤ m → (i + 1 < r → m < get_or ms' (i + 1) 0) → l.f m ≡ get_or fs' i 0
  value i m v u w =
      q.value (i + d) m (omega arith) (at (le_or i 0))
      (λ h. omega (arith, w (omega arith), rest (i + 1) (omega arith) (omega arith), ap (λ (m : ℕ). get_or ms m 0) e))
      ∙ sym (b.after i (omega arith) (omega arith))
    where
      e : i + d + 1 ≡ i + 1 + d
      e = omega arith

      at : (i ≤ 0) ⊎ (0 < i) → get_or ms (i + d) 0 ≤ m
      at (inl z) =
          let y : i ≡ 0 = omega arith in
          let x : i + d ≡ d = omega arith in
          omega (arith, ap (λ (m : ℕ). get_or ms' m 0) y, ap (λ (m : ℕ). get_or ms m 0) x, first, p.last)
      at (inr z) = omega (arith, rest i z v)

  real : (i : ℕ) → i < r → Real l.f t (get_or ms' i 0)
  real i v = go (le_or i 0)
    where
      go : (i ≤ 0) ⊎ (0 < i) → Real l.f t (get_or ms' i 0)
      go (inl u) = let e : i ≡ 0 = omega arith in inl (ap (λ (m : ℕ). get_or ms' m 0) e ∙ first)
      go (inr u) = rw (rest i u v) (up (rw (rest i u v) at (after i u v)) (l.kept.real (i + d) (omega arith)))
        where
          up : t < get_or ms (i + d) 0 → Real l.f l.now (get_or ms (i + d) 0) → Real l.f t (get_or ms (i + d) 0)
          up y (inl e) = absurd (omega (arith, l.later))
          up y (inr e) = inr (y, e.1)

  pub advanced : Kept l.f t (n - (k - 1)) (set ms₁ 0 t) fs'
  advanced = record {
    table = record {
      minutes_long = length-set ms₁ 0 t ∙ a.long ∙ q.minutes_long;
      free_long = b.long ∙ q.free_long;
      some = omega (arith, p.some, p.low);
      first = first;
      low = low;
      rise = rise;
      value = value;
    };
    real = real;
  }

-- no point leaves
removed_none : (xs : List ℕ) (n by : ℕ) → by ≡ 0 → Removed xs n 0 by xs
removed_none xs n by e = record {
  long = refl;
  before = λ j a. absurd (omega arith);
  after = λ j a b. let z : j ≡ j + by = omega arith in ap (λ (m : ℕ). get_or xs m 0) z;
}

pub advanced_none : {ms fs : List ℕ} {n t k : ℕ} → Place ms n t k → k - 1 ≡ 0 → (l : Advances ms fs n t) → Kept l.f t n (set ms 0 t) fs
advanced_none {ms} {fs} {n} {t} {k} p e l =
    let z : n - (k - 1) ≡ n = omega arith in
    subst (λ (m : ℕ). Kept l.f t m (set ms 0 t) fs) z (advanced p (removed_none ms n (k - 1) e) (removed_none fs n (k - 1) e) l)
