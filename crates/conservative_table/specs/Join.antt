-- A place that says the same as the one before it leaves the table. The table still says the same, and nothing more is asked of that place's
-- minute.
-- Assumes nothing.
use Rattle.std.specs.Prelude.{ℕ, ◌+◌, ◌-◌, ◌≤◌, ◌<◌, ◌≡◌, refl, List, ◌⊎◌, ◌≢◌, get_or, length}
use Rattle.std.proofs.Common.{arith, sym, ap, ◌∙◌, inl, inr}
use Rattle.lists.specs.Tests.{le_or}
use Rattle.scheduler.specs.Limits.{horizon}
use Rattle.conservative_table.specs.ListChanges.{rows, Removed}
use Rattle.conservative_table.specs.Table.{Table, table_rises, Among, Before}
use Rattle.conservative_table.specs.Points.{Real}

-- a place of the lists
pub record Inside (ms fs : List ℕ) (n k : ℕ) : Type 0 where
  pub minutes_long : length ms ≡ rows
  pub free_long : length fs ≡ rows
  pub inside : k < n
  pub fit : n ≤ rows

-- Place k has left, or differs from the one before it; the table still says the same.
pub record Joined (ms fs : List ℕ) (n k r : ℕ) (ms' fs' : List ℕ) : Type 0 where
  pub most : r ≤ n
  pub least : k ≤ r
  pub before : Before k ms fs ms' fs'
  pub same : (f : ℕ → ℕ) (now : ℕ) → Table f now n ms fs → Table f now r ms' fs'
  pub real : (f : ℕ → ℕ) (now : ℕ) → Table f now n ms fs → (i : ℕ) → i < r
      → Real f now (get_or ms' i 0) ⊎ (Among ms n (get_or ms' i 0) × (get_or ms' i 0 ≢ get_or ms k 0))

-- in a table the minutes of two places differ
others : {f : ℕ → ℕ} {now n : ℕ} {ms fs : List ℕ} → Table f now n ms fs → (i k : ℕ) → i < n → k < n → i ≢ k → get_or ms i 0 ≢ get_or ms k 0
others {ms = ms} q i k a b d e = go (le_or i k)
  where
    go : (i ≤ k) ⊎ (k < i) → ⊥
    go (inl u) = omega (arith, table_rises q i k (omega arith) b)
    go (inr u) = omega (arith, table_rises q k i u a)

module _ {ms fs : List ℕ} {n k : ℕ} (s : Inside ms fs n k) where
  -- it differs from the one before it, or is the first
  pub join_none : (1 ≤ k → get_or fs k 0 ≢ get_or fs (k - 1) 0) → Joined ms fs n k n ms fs
  join_none d = record {
    most = omega arith;
    least = omega (arith, s.inside);
    before = λ j l. (refl, refl);
    same = λ f now q. q;
    real = λ f now q i l. go f now q i l (le_or i k) (le_or k i);
  }
    where
      here : (f : ℕ → ℕ) (now : ℕ) → Table f now n ms fs → (k ≤ 0) ⊎ (0 < k) → Real f now (get_or ms k 0)
      here f now q (inl u) = let e : k ≡ 0 = omega arith in inl (ap (λ (m : ℕ). get_or ms m 0) e ∙ q.first)
      here f now q (inr u) =
          let e : k - 1 + 1 ≡ k = omega arith in
          let g : get_or ms (k - 1 + 1) 0 ≡ get_or ms k 0 = ap (λ (m : ℕ). get_or ms m 0) e in
          let r : get_or ms (k - 1) 0 < get_or ms (k - 1 + 1) 0 = q.rise (k - 1) (omega (arith, s.inside)) in
          let v : f (get_or ms k 0) ≡ get_or fs k 0 = q.value k (get_or ms k 0) s.inside (omega arith) (q.rise k) in
          let w : f (get_or ms k 0 - 1) ≡ get_or fs (k - 1) 0 = q.value (k - 1) (get_or ms k 0 - 1) (omega (arith, s.inside)) (omega arith) (λ z. omega arith) in
          inr (omega (arith, q.first, table_rises q 0 k u s.inside), λ x. d u (sym v ∙ x ∙ w))

      go : (f : ℕ → ℕ) (now : ℕ) → Table f now n ms fs → (i : ℕ) → i < n → (i ≤ k) ⊎ (k < i) → (k ≤ i) ⊎ (i < k)
          → Real f now (get_or ms i 0) ⊎ (Among ms n (get_or ms i 0) × (get_or ms i 0 ≢ get_or ms k 0))
      go f now q i l (inr u) v = inr ((i, l, refl), others q i k l s.inside (λ e. omega arith))
      go f now q i l (inl u) (inr v) = inr ((i, l, refl), others q i k l s.inside (λ e. omega arith))
      go f now q i l (inl u) (inl v) = let e : i ≡ k = omega arith in rw e (inl (here f now q (le_or k 0)))

  -- it says the same
  module _ (some : 1 ≤ k) (d : get_or fs k 0 ≡ get_or fs (k - 1) 0) {ms' fs' : List ℕ} (a : Removed ms n k 1 ms') (b : Removed fs n k 1 fs') where
    module _ {f : ℕ → ℕ} {now : ℕ} (q : Table f now n ms fs) where
      rise : (i : ℕ) → i + 1 < n - 1 → get_or ms' i 0 < get_or ms' (i + 1) 0
      rise i l = go (le_or k i) (le_or k (i + 1))
        where
          go : (k ≤ i) ⊎ (i < k) → (k ≤ i + 1) ⊎ (i + 1 < k) → get_or ms' i 0 < get_or ms' (i + 1) 0
          go (inl u) v = omega (arith, a.after i u (omega arith), a.after (i + 1) (omega arith) (omega arith), q.rise (i + 1) (omega arith))
          go (inr u) (inl v) = omega (arith, a.before i u, a.after (i + 1) v (omega arith), q.rise i (omega arith), q.rise (i + 1) (omega arith))
          go (inr u) (inr v) = omega (arith, a.before i u, a.before (i + 1) v, q.rise i (omega arith))

      value : (i t : ℕ) → i < n - 1 → get_or ms' i 0 ≤ t → (i + 1 < n - 1 → t < get_or ms' (i + 1) 0) → f t ≡ get_or fs' i 0
      value i t l u v = go (le_or k i) (le_or k (i + 1))
        where
          go : (k ≤ i) ⊎ (i < k) → (k ≤ i + 1) ⊎ (i + 1 < k) → f t ≡ get_or fs' i 0
          go (inl w) z =
              q.value (i + 1) t (omega arith) (omega (arith, a.after i w (omega arith)))
              (λ h. omega (arith, v (omega arith), a.after (i + 1) (omega arith) (omega arith)))
              ∙ sym (b.after i w (omega arith))
          go (inr w) (inr z) =
              q.value i t (omega arith) (omega (arith, a.before i w)) (λ h. omega (arith, v (omega (arith, s.inside)), a.before (i + 1) z))
              ∙ sym (b.before i w)
          -- the place before the one that has left
          go (inr w) (inl z) = up (le_or (get_or ms k 0) t)
            where
              e : i + 1 ≡ k
              e = omega arith

              i_is : i ≡ k - 1
              i_is = omega arith

              up : (get_or ms k 0 ≤ t) ⊎ (t < get_or ms k 0) → f t ≡ get_or fs' i 0
              up (inl y) =
                  q.value k t s.inside y (λ h. omega (arith, v (omega arith), a.after (i + 1) z (omega arith), ap (λ (m : ℕ). get_or ms (m + 1) 0) e))
                  ∙ d
                  ∙ ap (λ (m : ℕ). get_or fs m 0) (sym i_is)
                  ∙ sym (b.before i w)
              up (inr y) =
                  q.value i t (omega arith) (omega (arith, a.before i w)) (λ h. omega (arith, ap (λ (m : ℕ). get_or ms m 0) e))
                  ∙ sym (b.before i w)

      among : (i : ℕ) → i < n - 1 → Among ms n (get_or ms' i 0) × (get_or ms' i 0 ≢ get_or ms k 0)
      among i l = go (le_or k i)
        where
          go : (k ≤ i) ⊎ (i < k) → Among ms n (get_or ms' i 0) × (get_or ms' i 0 ≢ get_or ms k 0)
          go (inl u) =
              let e = a.after i u (omega arith) in
              ((i + 1, omega arith, e), λ x. others q (i + 1) k (omega arith) s.inside (λ y. omega arith) (sym e ∙ x))
          go (inr u) =
              let e = a.before i u in
              ((i, omega arith, e), λ x. others q i k (omega arith) s.inside (λ y. omega arith) (sym e ∙ x))

      low : (i : ℕ) → i < n - 1 → get_or ms' i 0 ≤ horizon
      low i l = let r = (among i l).0 in omega (arith, r.2, q.low r.0 r.1)

      table : Table f now (n - 1) ms' fs'
      table = record {
        minutes_long = a.long ∙ q.minutes_long;
        free_long = b.long ∙ q.free_long;
        some = omega (arith, s.inside);
        first = a.before 0 (omega arith) ∙ q.first;
        low = low;
        rise = rise;
        value = value;
      }

    pub join_left : Joined ms fs n k (n - 1) ms' fs'
    join_left = record {
      most = omega arith;
      least = omega (arith, s.inside);
      before = λ j l. (a.before j l, b.before j l);
      same = λ f now q. table q;
      real = λ f now q i l. inr (among q i l);
    }

-- What is asked of each minute but those of E is asked after it of each but those, and not of the one that left.
pub joined_real : {ms fs : List ℕ} {n k r : ℕ} {ms' fs' : List ℕ} → Joined ms fs n k r ms' fs' → (E : ℕ → Type 0) (f : ℕ → ℕ) (now : ℕ) → Table f now n ms fs
    → ((i : ℕ) → i < n → Real f now (get_or ms i 0) ⊎ E (get_or ms i 0))
    → (i : ℕ) → i < r → Real f now (get_or ms' i 0) ⊎ (E (get_or ms' i 0) × (get_or ms' i 0 ≢ get_or ms k 0))
joined_real {ms} {n = n} {k = k} {ms' = ms'} w E f now q h i l = go (w.real f now q i l)
  where
    go : Real f now (get_or ms' i 0) ⊎ (Among ms n (get_or ms' i 0) × (get_or ms' i 0 ≢ get_or ms k 0))
        → Real f now (get_or ms' i 0) ⊎ (E (get_or ms' i 0) × (get_or ms' i 0 ≢ get_or ms k 0))
    go (inl u) = inl u
    go (inr u) = let a = u.0 in up (rw (sym a.2) at (h a.0 a.1))
      where
        up : Real f now (get_or ms' i 0) ⊎ E (get_or ms' i 0) → Real f now (get_or ms' i 0) ⊎ (E (get_or ms' i 0) × (get_or ms' i 0 ≢ get_or ms k 0))
        up (inl v) = inl v
        up (inr v) = inr (v, u.1)
