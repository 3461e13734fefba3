-- A table of the free nodes from now on, in the first places of two lists: each minute, and the free nodes from it up to the next.
-- Assumes nothing.
use Rattle.std.specs.Prelude.{ℕ, zero, suc, ◌+◌, ◌-◌, ◌≤◌, ◌<◌, ◌≡◌, refl, List, ◌⊎◌, get_or, length}
use Rattle.std.proofs.Common.{arith, sym, ap, ◌∙◌, inl, inr}
use Rattle.lists.specs.Tests.{le_or}
use Rattle.scheduler.specs.Limits.{horizon}
use Rattle.conservative_table.specs.declared.Row.{Row}
use Rattle.conservative_table.specs.ListChanges.{rows, Inserted}

-- from now on f is as the first n places say
pub record Table (f : ℕ → ℕ) (now n : ℕ) (ms fs : List ℕ) : Type 0 where
  pub minutes_long : length ms ≡ rows
  pub free_long : length fs ≡ rows
  pub some : 1 ≤ n
  pub first : get_or ms 0 0 ≡ now
  pub low : (i : ℕ) → i < n → get_or ms i 0 ≤ horizon
  pub rise : (i : ℕ) → i + 1 < n → get_or ms i 0 < get_or ms (i + 1) 0
  pub value : (i t : ℕ) → i < n → get_or ms i 0 ≤ t → (i + 1 < n → t < get_or ms (i + 1) 0) → f t ≡ get_or fs i 0

-- minutes rise over any stretch
pub table_rise : {f : ℕ → ℕ} {now n : ℕ} {ms fs : List ℕ} → Table f now n ms fs → (i j : ℕ) → i ≤ j → j < n → get_or ms i 0 ≤ get_or ms j 0
table_rise {ms = ms} q i zero l h = let e : i ≡ 0 = omega arith in omega (arith, ap (λ (k : ℕ). get_or ms k 0) e)
table_rise {ms = ms} q i (suc j) l h = go (λ k. table_rise q i j k (omega arith)) (le_or i j)
  where
    go : (i ≤ j → get_or ms i 0 ≤ get_or ms j 0) → (i ≤ j) ⊎ (j < i) → get_or ms i 0 ≤ get_or ms (suc j) 0
    go f (inl k) = let e : j + 1 ≡ suc j = omega arith in omega (arith, f k, q.rise j (omega arith), ap (λ (m : ℕ). get_or ms m 0) e)
    go f (inr k) = let e : i ≡ suc j = omega arith in omega (arith, ap (λ (m : ℕ). get_or ms m 0) e)

pub table_rises : {f : ℕ → ℕ} {now n : ℕ} {ms fs : List ℕ} → Table f now n ms fs → (i j : ℕ) → i < j → j < n → get_or ms i 0 < get_or ms j 0
table_rises q i j l h = omega (arith, q.rise i (omega arith), table_rise q (i + 1) j (omega arith) h)

-- a table of what is the same from now on
pub table_same : {f g : ℕ → ℕ} {now n : ℕ} {ms fs : List ℕ} → ((t : ℕ) → now ≤ t → g t ≡ f t) → Table f now n ms fs → Table g now n ms fs
table_same e q = record {
  minutes_long = q.minutes_long;
  free_long = q.free_long;
  some = q.some;
  first = q.first;
  low = q.low;
  rise = q.rise;
  value = λ i t l a b. e t (omega (arith, q.first, table_rise q 0 i (omega arith) l)) ∙ q.value i t l a b;
}

-- a search for the place of minute t, after the place a, stays inside
pub record Ascends (ms : List ℕ) (a n t : ℕ) : Type 0 where
  pub long : length ms ≡ rows
  pub inside : a < n
  pub fit : n ≤ rows
  pub last : get_or ms a 0 ≤ t

-- r is the place after the last minute that is not later than t
pub record Place (ms : List ℕ) (n t r : ℕ) : Type 0 where
  pub some : 1 ≤ r
  pub low : r ≤ n
  pub last : get_or ms (r - 1) 0 ≤ t
  pub next : r < n → t < get_or ms r 0

-- the places before k are as they were
abbrev pub Before : ℕ → List ℕ → List ℕ → List ℕ → List ℕ → Type 0
Before k ms fs ms' fs' = (j : ℕ) → j < k → (get_or ms' j 0 ≡ get_or ms j 0) × (get_or fs' j 0 ≡ get_or fs j 0)

-- m is one of the first n minutes
abbrev pub Among : List ℕ → ℕ → ℕ → Type 0
Among ms n m = (j : ℕ) × (j < n) × (m ≡ get_or ms j 0)

-- The table has minute t in the place r, and says what it said; earlier minutes keep their places.
pub record Split (ms fs : List ℕ) (n t : ℕ) (r : Row) (ms' fs' : List ℕ) : Type 0 where
  pub inside : r.at < r.count
  pub minute : get_or ms' r.at 0 ≡ t
  pub most : r.count ≤ n + 1
  pub grows : n ≤ r.count
  pub same : (f : ℕ → ℕ) (now : ℕ) → Table f now n ms fs → t ≤ horizon → Table f now r.count ms' fs'
  pub kept : (f : ℕ → ℕ) (now : ℕ) → Table f now n ms fs → (j : ℕ) → j < n → get_or ms j 0 ≤ t → get_or ms' j 0 ≡ get_or ms j 0
  pub from : (i : ℕ) → i < r.count → (get_or ms' i 0 ≡ t) ⊎ Among ms n (get_or ms' i 0)
  pub before : Before r.at ms fs ms' fs'
  pub old : r.at ≤ n

-- the minute is there
pub split_found : {ms fs : List ℕ} {n t : ℕ} (k : ℕ) → k < n → get_or ms k 0 ≡ t → Split ms fs n t (record { at = k; count = n }) ms fs
split_found k l e = record {
  inside = l;
  minute = e;
  most = omega arith;
  grows = omega arith;
  same = λ f now q h. q;
  kept = λ f now q j l a. refl;
  from = λ i u. inr (i, u, refl);
  before = λ j u. (refl, refl);
  old = omega arith;
}

module _ {ms fs : List ℕ} {n t k : ℕ} (p : Place ms n t k) where
  module _ (late : get_or ms (k - 1) 0 < t) {ms' fs' : List ℕ} (a : Inserted ms n k t ms') (b : Inserted fs n k (get_or fs (k - 1) 0) fs') where
    module _ {f : ℕ → ℕ} {now : ℕ} (q : Table f now n ms fs) where
      -- where place i + 1 of the new lists lies
      rise : (i : ℕ) → i + 1 < n + 1 → get_or ms' i 0 < get_or ms' (i + 1) 0
      rise i l = go (le_or k i) (le_or k (i + 1))
        where
          go : (k ≤ i) ⊎ (i < k) → (k ≤ i + 1) ⊎ (i + 1 < k) → get_or ms' i 0 < get_or ms' (i + 1) 0
          go u (inr v) = omega (arith, a.before i (omega arith), a.before (i + 1) v, q.rise i (omega (arith, p.low)))
          go (inr u) (inl v) =
              let e : i + 1 ≡ k = omega arith in
              let d : i ≡ k - 1 = omega arith in
              omega (arith, a.before i u, ap (λ (m : ℕ). get_or ms m 0) d, ap (λ (m : ℕ). get_or ms' m 0) e, a.here)
          go (inl u) (inl v) = up (le_or i k)
            where
              up : (i ≤ k) ⊎ (k < i) → get_or ms' i 0 < get_or ms' (i + 1) 0
              up (inl w) =
                  let e : i ≡ k = omega arith in
                  omega (arith, ap (λ (m : ℕ). get_or ms' m 0) e, a.here, a.after i u (omega arith), ap (λ (m : ℕ). get_or ms m 0) e, p.next (omega arith))
              up (inr w) =
                  let e : i - 1 + 1 ≡ i = omega arith in
                  omega (
                    arith,
                    a.after (i - 1) (omega arith) (omega arith),
                    ap (λ (m : ℕ). get_or ms' m 0) e,
                    a.after i u (omega arith),
                    q.rise (i - 1)
                        (omega arith),
                    ap (λ (m : ℕ). get_or ms m 0) e,
                  )

      value : (i r : ℕ) → i < n + 1 → get_or ms' i 0 ≤ r → (i + 1 < n + 1 → r < get_or ms' (i + 1) 0) → f r ≡ get_or fs' i 0
      value i r l u v = go (le_or k i) (le_or k (i + 1))
        where
          go : (k ≤ i) ⊎ (i < k) → (k ≤ i + 1) ⊎ (i + 1 < k) → f r ≡ get_or fs' i 0
          go w (inr z) =
              q.value i r (omega (arith, p.low)) (omega (arith, a.before i (omega arith)))
              (λ h. omega (arith, a.before (i + 1) z, v (omega (arith, p.low))))
              ∙ sym (b.before i (omega arith))
          go (inr w) (inl z) =
              let e : i + 1 ≡ k = omega arith in
              let h : r < t = omega (arith, v (omega (arith, p.low)), ap (λ (m : ℕ). get_or ms' m 0) e, a.here) in
              q.value i r (omega (arith, p.low)) (omega (arith, a.before i w)) (λ m. omega (arith, ap (λ (m : ℕ). get_or ms m 0) e, p.next (omega arith)))
              ∙ sym (b.before i w)
          go (inl w) (inl z) = up (le_or i k)
            where
              up : (i ≤ k) ⊎ (k < i) → f r ≡ get_or fs' i 0
              up (inl y) =
                  let e : i ≡ k = omega arith in
                  let d : k - 1 + 1 ≡ k = omega (arith, p.some) in
                  q.value (k - 1) r (omega (arith, p.some, p.low)) (omega (arith, ap (λ (m : ℕ). get_or ms' m 0) e, a.here))
                  (λ h. omega (arith, ap (λ (m : ℕ). get_or ms m 0) d, v (omega arith), a.after i w (omega arith), ap (λ (m : ℕ). get_or ms m 0) e))
                  ∙ sym b.here
                  ∙ ap (λ (m : ℕ). get_or fs' m 0) (sym e)
              up (inr y) =
                  let e : i - 1 + 1 ≡ i = omega arith in
                  q.value (i - 1) r (omega arith) (omega (arith, a.after (i - 1) (omega arith) (omega arith), ap (λ (m : ℕ). get_or ms' m 0) e))
                  (λ h. omega (arith, v (omega arith), a.after i w (omega arith), ap (λ (m : ℕ). get_or ms m 0) e))
                  ∙ sym (b.after (i - 1) (omega arith) (omega arith))
                  ∙ ap (λ (m : ℕ). get_or fs' m 0) e

      low : t ≤ horizon → (i : ℕ) → i < n + 1 → get_or ms' i 0 ≤ horizon
      low h i l = go (le_or k i) (le_or i k)
        where
          go : (k ≤ i) ⊎ (i < k) → (i ≤ k) ⊎ (k < i) → get_or ms' i 0 ≤ horizon
          go (inr u) v = omega (arith, a.before i u, q.low i (omega (arith, p.low)))
          go (inl u) (inl v) = let e : i ≡ k = omega arith in omega (arith, ap (λ (m : ℕ). get_or ms' m 0) e, a.here)
          go (inl u) (inr v) =
              let e : i - 1 + 1 ≡ i = omega arith in
              omega (arith, a.after (i - 1) (omega arith) (omega arith), ap (λ (m : ℕ). get_or ms' m 0) e, q.low (i - 1) (omega arith))

      table : t ≤ horizon → Table f now (n + 1) ms' fs'
      table h = record {
        minutes_long = a.long ∙ q.minutes_long;
        free_long = b.long ∙ q.free_long;
        some = omega arith;
        first = a.before 0 (omega (arith, p.some)) ∙ q.first;
        low = low h;
        rise = rise;
        value = value;
      }

      kept : (j : ℕ) → j < n → get_or ms j 0 ≤ t → get_or ms' j 0 ≡ get_or ms j 0
      kept j l u = go (le_or k j)
        where
          go : (k ≤ j) ⊎ (j < k) → get_or ms' j 0 ≡ get_or ms j 0
          go (inl w) = absurd (omega (arith, p.next (omega arith), table_rise q k j w l))
          go (inr w) = a.before j w

    come : (i : ℕ) → i < n + 1 → (get_or ms' i 0 ≡ t) ⊎ Among ms n (get_or ms' i 0)
    come i l = go (le_or k i) (le_or i k)
      where
        go : (k ≤ i) ⊎ (i < k) → (i ≤ k) ⊎ (k < i) → (get_or ms' i 0 ≡ t) ⊎ Among ms n (get_or ms' i 0)
        go (inr u) v = inr (i, omega (arith, p.low), a.before i u)
        go (inl u) (inl v) = let e : i ≡ k = omega arith in inl (ap (λ (m : ℕ). get_or ms' m 0) e ∙ a.here)
        go (inl u) (inr v) = let e : i ≡ i - 1 + 1 = omega arith in inr
            (i - 1, omega arith, ap (λ (m : ℕ). get_or ms' m 0) e ∙ a.after (i - 1) (omega arith) (omega arith))

    -- the minute is put in after the one that it follows
    pub split_new : Split ms fs n t (record { at = k; count = n + 1 }) ms' fs'
    split_new = record {
      inside = omega (arith, p.low);
      minute = a.here;
      most = omega arith;
      grows = omega arith;
      same = λ f now q h. table q h;
      kept = λ f now q. kept q;
      from = come;
      before = λ j u. (a.before j u, b.before j u);
      old = p.low;
    }
