-- The index in two lists, the fewest and the most of each block, as it is built block after block.
-- Assumes nothing.
use Prim.Native.Nat.{ℕ, zero, suc, ◌+◌, ◌-◌, ◌*◌, ◌/◌, min, max, ◌≤◌, ◌<◌}
use native.Mathlib.Omega.{arith}
use Rattle.std.specs.Prelude.{◌≡◌, refl, List, [], ◌∷◌, ◌++◌, ◌⊎◌, get_or, length}
use Rattle.std.proofs.Common.{sym, ap, ◌∙◌, inl, inr, length-append}
use Rattle.lists.specs.Tests.{le_or, on_le}
use Rattle.spans.specs.declared.Span.{Span}
use Rattle.spans.specs.declared.Point.{Point}
use Rattle.spans.specs.Spans.{profile}
use Rattle.conservative_table.specs.ListChanges.{rows}
use Rattle.conservative_table.specs.Table.{Before}
use Rattle.conservative_table.specs.Points.{points_of, length_points_of, at_points_of}
use Rattle.conservative_table.specs.ProfileLists.{IsProfile}
use Rattle.spans.specs.declared.Block.{Block}
use Rattle.spans.specs.Index.{blocks, size, read?, overall, fewest, most, block_fewest, block_most, free_at, blocks_of, index, reads_of}

-- a list by place
abbrev pub at : List ℕ → ℕ → ℕ
at xs j = get_or xs j 0

abbrev pub extremes : (ℕ → ℕ) → ℕ → ℕ → Block
extremes g p k = record { fewest = fewest g p k; most = most g p k }

-- the index of the first b blocks
pub record Built (fs : List ℕ) (n : ℕ) (lo hi : List ℕ) (b : ℕ) : Type 0 where
  pub low_long : length lo ≡ 9
  pub high_long : length hi ≡ 9
  pub low : (c : ℕ) → c < b → c < blocks n → get_or lo c 0 ≡ block_fewest (at fs) n c
  pub high : (c : ℕ) → c < b → c < blocks n → get_or hi c 0 ≡ block_most (at fs) n c

-- and of all
abbrev pub Indexed : List ℕ → ℕ → List ℕ → List ℕ → Type 0
Indexed fs n lo hi = Built fs n lo hi 9

pub built_none : {fs lo hi : List ℕ} {n : ℕ} → length lo ≡ 9 → length hi ≡ 9 → Built fs n lo hi 0
built_none a b = record { low_long = a; high_long = b; low = λ c i. absurd (omega arith); high = λ c i. absurd (omega arith) }

pub fewest_le : (g : ℕ → ℕ) (p k j : ℕ) → j ≤ k → fewest g p k ≤ g (p + j)
unfolding overall
fewest_le g p zero j l = let e : p + j ≡ p = omega arith in omega (arith, ap g e)
fewest_le g p (suc k) j l = go (le_or j k) (λ h. fewest_le g p k j h)
  where
    go : (j ≤ k) ⊎ (k < j) → (j ≤ k → fewest g p k ≤ g (p + j)) → min (fewest g p k) (g (p + suc k)) ≤ g (p + j)
    go (inl h) f = omega (arith, f h)
    go (inr h) f = let e : p + j ≡ p + suc k = omega arith in omega (arith, ap g e)

pub most_le : (g : ℕ → ℕ) (p k j : ℕ) → j ≤ k → g (p + j) ≤ most g p k
unfolding overall
most_le g p zero j l = let e : p + j ≡ p = omega arith in omega (arith, ap g e)
most_le g p (suc k) j l = go (le_or j k) (λ h. most_le g p k j h)
  where
    go : (j ≤ k) ⊎ (k < j) → (j ≤ k → g (p + j) ≤ most g p k) → g (p + j) ≤ max (most g p k) (g (p + suc k))
    go (inl h) f = omega (arith, f h)
    go (inr h) f = let e : p + j ≡ p + suc k = omega arith in omega (arith, ap g e)

-- places that say the same have the same index and the same count
pub overall_same : (op : ℕ → ℕ → ℕ) (g g' : ℕ → ℕ) (p k : ℕ) → ((j : ℕ) → p ≤ j → j ≤ p + k → g j ≡ g' j) → overall op g p k ≡ overall op g' p k
unfolding overall
overall_same op g g' p zero e = e p (omega arith) (omega arith)
overall_same op g g' p (suc k) e = rw (overall_same op g g' p k (λ j a b. e j a (omega arith)), e (p + suc k) (omega arith) (omega arith))

pub reads_same : (m m' g g' : ℕ → ℕ) (n nodes e : ℕ) → ((j : ℕ) → j < n → m j ≡ m' j) → ((j : ℕ) → j < n → g j ≡ g' j)
    → (b : ℕ) → b ≤ blocks n → reads_of m g n nodes e b ≡ reads_of m' g' n nodes e b
unfolding reads_of
reads_same m m' g g' n nodes e u v zero l = refl
reads_same m m' g g' n nodes e u v (suc b) l =
    rw (
      reads_same m m' g g' n nodes e u v b (omega arith),
      u (16 * b) (omega arith),
      overall_same min g g' (16 * b) (size n b - 1) (λ j x y. v j (omega arith)),
      overall_same max g g' (16 * b) (size n b - 1) (λ j x y. v j (omega arith)),
    )

-- no more than a block's points are read of each
pub reads_few : (m g : ℕ → ℕ) (n nodes e b : ℕ) → reads_of m g n nodes e b ≤ 16 * b
unfolding reads_of
reads_few m g n nodes e zero = omega arith
reads_few m g n nodes e (suc b) = omega (arith, reads_few m g n nodes e b, on_le (read? m g n nodes e b) (size n b))

-- A loop that goes over the places from one to another: v is that of the places before i.
pub record Running (op : ℕ → ℕ → ℕ) (fs : List ℕ) (from to v i : ℕ) : Type 0 where
  pub below : from < i
  pub high : i ≤ to
  pub is : v ≡ overall op (at fs) from (i - from - 1)

module _ (op : ℕ → ℕ → ℕ) (fs : List ℕ) (from to : ℕ) where
  pub running_begin : from < to → Running op fs from to (get_or fs from 0) (from + 1)
  unfolding overall
  running_begin l = let d : from + 1 - from - 1 ≡ 0 = omega arith in record { below = omega arith; high = omega arith; is = rw d }

  pub running_more : {v w i : ℕ} → Running op fs from to v i → i < to → w ≡ op v (get_or fs i 0) → Running op fs from to w (i + 1)
  unfolding overall
  running_more {i = i} q l e =
      let k : ℕ = i - from - 1 in
      let d : i + 1 - from - 1 ≡ suc k = omega (arith, q.below) in
      let m : from + suc k ≡ i = omega (arith, q.below) in
      record { below = omega (arith, q.below); high = omega arith; is = e ∙ rw (d, m, q.is) }

  pub running_end : {v i : ℕ} → Running op fs from to v i → to ≤ i → v ≡ overall op (at fs) from (to - from - 1)
  running_end q l = q.is ∙ ap (λ (m : ℕ). overall op (at fs) from (m - from - 1)) (omega (arith, q.high))

-- each block counts
pub length_blocks : (g : ℕ → ℕ) (n b : ℕ) → length (blocks_of g n b) ≡ b
unfolding blocks_of
length_blocks g n zero = refl
length_blocks g n (suc b) =
    length-append (blocks_of g n b) (record { fewest = block_fewest g n b; most = block_most g n b } ∷ []) ∙ omega (arith, length_blocks g n b)

-- what two lists hold in the first b places
unfoldable pub held : List ℕ → List ℕ → ℕ → List Block
held lo hi zero = []
held lo hi (suc b) = held lo hi b ++ (record { fewest = get_or lo b 0; most = get_or hi b 0 } ∷ [])

blocks_same : (g g' : ℕ → ℕ) (n : ℕ) → ((j : ℕ) → j < n → g j ≡ g' j) → (b : ℕ) → b ≤ blocks n → blocks_of g n b ≡ blocks_of g' n b
unfolding blocks_of
blocks_same g g' n v zero l = refl
blocks_same g g' n v (suc b) l =
    rw (
      blocks_same g g' n v b (omega arith),
      overall_same min g g' (16 * b) (size n b - 1) (λ j x y. v j (omega arith)),
      overall_same max g g' (16 * b) (size n b - 1) (λ j x y. v j (omega arith)),
    )

held_blocks : {fs lo hi : List ℕ} {n : ℕ} → Indexed fs n lo hi → n ≤ rows → (b : ℕ) → b ≤ blocks n → held lo hi b ≡ blocks_of (at fs) n b
unfolding held blocks_of
held_blocks q f zero l = refl
held_blocks q f (suc b) l = rw (held_blocks q f b (omega arith), q.low b (omega arith) (omega arith), q.high b (omega arith) (omega arith))

-- The index agrees with the profile.
pub indexed_index : {machine : ℕ} {spans : List Span} {now n : ℕ} {ms fs lo hi : List ℕ} → IsProfile machine spans now n ms fs → n ≤ rows → Indexed fs n lo hi
    → held lo hi (blocks n) ≡ index (profile machine spans now)
indexed_index {n = n} {ms = ms} {fs = fs} p f q =
    held_blocks q f (blocks n) (omega arith)
    ∙ rw (length_points_of ms fs n) (blocks_same (at fs) (free_at (points_of ms fs n)) n
    (λ j u. sym (ap (λ (p : Point). p.free) (at_points_of ms fs n j (record { minute = 0; free = 0 }) u))) (blocks n) (omega arith))
    ∙ ap index p.points

-- Blocks that lie before the first place that has changed are right as they are.
pub built_before : (ms fs ms' fs' : List ℕ) {lo hi : List ℕ} {n : ℕ} (n' k : ℕ) → Indexed fs n lo hi → n ≤ rows → Before k ms fs ms' fs' → k ≤ n → k ≤ n'
    → Built fs' n' lo hi (k / 16)
built_before ms fs ms' fs' {n = n} n' k q f b old new = record {
  low_long = q.low_long;
  high_long = q.high_long;
  low = λ c i j.
      let e : size n c - 1 ≡ size n' c - 1 = full c i in
      q.low c (omega arith) (omega arith) ∙ rw e (overall_same min (at fs) (at fs') (16 * c) (size n' c - 1) (same c i));
  high = λ c i j.
      let e : size n c - 1 ≡ size n' c - 1 = full c i in
      q.high c (omega arith) (omega arith) ∙ rw e (overall_same max (at fs) (at fs') (16 * c) (size n' c - 1) (same c i));
}
  where
    full : (c : ℕ) → c < k / 16 → size n c - 1 ≡ size n' c - 1
    full c i =
        let x : size n c ≡ 16 = omega arith in
        let y : size n' c ≡ 16 = omega arith in
        omega arith

    same : (c : ℕ) → c < k / 16 → (j : ℕ) → 16 * c ≤ j → j ≤ 16 * c + (size n' c - 1) → at fs j ≡ at fs' j
    same c i j u v = sym (b j (omega arith)).1
