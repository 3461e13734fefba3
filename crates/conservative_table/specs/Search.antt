-- The earliest start of a job that stands in the plan, sought in the table with the job in it. Before its start the others leave as many nodes
-- free; from its start on its own nodes are there for it. So the search ends with the first place that is not before its start.
-- Assumes nothing.
use Rattle.std.specs.Prelude.{ℕ, zero, suc, ◌+◌, ◌-◌, min, ◌≤◌, ◌<◌, ◌≡◌, refl, List, ◌⊎◌, get_or, length}
use Rattle.std.proofs.Common.{arith, add-one, ap, subst, inl, inr}
use Rattle.lists.specs.Tests.{le_or}
use Rattle.spans.specs.declared.Span.{Span}
use Rattle.spans.specs.Spans.{free, last_end, earliest, Fits}
use Rattle.spans.proofs.UsedNodes.{used_last}
use Rattle.spans.proofs.EarliestStart.{earliest_is, earliest_unique}
use Rattle.scheduler.specs.Limits.{longest_hold}
use Rattle.conservative_table.specs.declared.Found.{Found}
use Rattle.conservative_table.specs.ListChanges.{rows}
use Rattle.conservative_table.specs.Table.{Table, table_rise}

-- the lists are a table of all spans; without the job, which has n nodes for h minutes from start on, they are the others
pub record Seeks (ms fs : List ℕ) (start n h : ℕ) : Type 0 where
  pub machine : ℕ
  pub all : List Span
  pub others : List Span
  pub now : ℕ
  pub count : ℕ
  pub table : Table (free machine all) now count ms fs
  pub fit : count ≤ rows
  pub enough : n ≤ machine
  pub some : 1 ≤ h
  pub hold_to : h ≤ longest_hold
  pub ahead : now ≤ start
  pub early : (t : ℕ) → now ≤ t → t < start → free machine others t ≡ free machine all t
  pub late : (t : ℕ) → start ≤ t → t < start + h → n ≤ free machine others t
  pub taken : free machine all start < machine

abbrev pub found : {ms fs : List ℕ} {start n h : ℕ} → Seeks ms fs start n h → ℕ
found {n = n} {h = h} s = earliest s.machine s.others s.now n h

-- r is the earliest minute, with a place of the table that is not later
pub record Finds {ms fs : List ℕ} {start n h : ℕ} (s : Seeks ms fs start n h) (r : Found) : Type 0 where
  pub minute : r.minute ≡ found s
  pub near_in : r.near < s.count
  pub near_to : get_or ms r.near 0 ≤ r.minute

-- A walk over a list from place i on, to the first number that is not below u, ends: there is one.
pub record Ending (xs : List ℕ) (i u : ℕ) : Type 0 where
  pub long : length xs ≡ rows
  pub last : ℕ
  pub after : i ≤ last
  pub fit : last < rows
  pub high : u ≤ get_or xs last 0

-- It has come to place k: the numbers of the places from i up to there are below u, and P holds of these places.
pub record Going (xs : List ℕ) (P : ℕ → Type 0) (i u k : ℕ) : Type 0 where
  pub above : i ≤ k
  pub fit : k < rows
  pub to : (j : ℕ) → i ≤ j → u ≤ get_or xs j 0 → k ≤ j
  pub each : (j : ℕ) → i ≤ j → j < k → P j

module _ {xs : List ℕ} (P : ℕ → Type 0) {i u : ℕ} (b : Ending xs i u) where
  pub going_begin : Going xs P i u i
  going_begin = record { above = omega arith; fit = omega (arith, b.after, b.fit); to = λ j a l. a; each = λ j a l. absurd (omega arith) }

  pub going_on : {k : ℕ} → Going xs P i u k → get_or xs k 0 < u → P k → Going xs P i u (k + 1)
  going_on {k} v l p = record {
    above = omega (arith, v.above);
    fit = omega (arith, to b.last b.after b.high, b.fit);
    to = to;
    each = λ j a c. go j a c (le_or k j);
  }
    where
      late : (j : ℕ) → u ≤ get_or xs j 0 → k ≤ j → (j ≤ k) ⊎ (k < j) → k + 1 ≤ j
      late j a c (inl d) = let q : j ≡ k = omega arith in absurd (omega (arith, ap (λ (m : ℕ). get_or xs m 0) q))
      late j a c (inr d) = omega arith

      to : (j : ℕ) → i ≤ j → u ≤ get_or xs j 0 → k + 1 ≤ j
      to j a c = late j c (v.to j a c) (le_or j k)

      go : (j : ℕ) → i ≤ j → j < k + 1 → (k ≤ j) ⊎ (j < k) → P j
      go j a c (inl d) = let q : k ≡ j = omega arith in subst P q p
      go j a c (inr d) = v.each j a d

abbrev pub enough : List ℕ → ℕ → ℕ → Type 0
enough fs n j = n ≤ get_or fs j 0

abbrev pub few : List ℕ → ℕ → ℕ → Type 0
few fs n j = get_or fs j 0 < n

-- k is the first place from i on whose minute is not before u, or at which too few are free
pub record Reached (ms fs : List ℕ) (i n u k : ℕ) : Type 0 where
  pub going : Going ms (enough fs n) i u k
  pub stop : get_or ms k 0 < u → few fs n k

-- k is the first place from i on at which nodes enough are free
pub record Skipped (fs : List ℕ) (i n k : ℕ) : Type 0 where
  pub going : Going fs (few fs n) i n k
  pub stop : enough fs n k

-- before the job's start no minute before that of place i will do
pub record Past (ms fs : List ℕ) (start n h i : ℕ) : Type 0 where
  pub inside : (s : Seeks ms fs start n h) → i < s.count
  pub none : (s : Seeks ms fs start n h) (r : ℕ) → s.now ≤ r → r < start → Fits (free s.machine s.others) n h r → get_or ms i 0 ≤ r

-- and place i is not before the start, or has nodes enough
pub record Standing (ms fs : List ℕ) (start n h i : ℕ) : Type 0 where
  pub fit : i < rows
  pub past : Past ms fs start n h i
  pub here : get_or ms i 0 < start → enough fs n i

module _ {ms fs : List ℕ} {start n h : ℕ} (s : Seeks ms fs start n h) where
  abbrev f : ℕ → ℕ
  f = free s.machine s.all

  abbrev g : ℕ → ℕ
  g = free s.machine s.others

  rises : (i k : ℕ) → i ≤ k → k < s.count → get_or ms i 0 ≤ get_or ms k 0
  rises = table_rise s.table

  -- a place before the job's start is not the last: from the last on all nodes are free
  more : (i : ℕ) → i < s.count → get_or ms i 0 < start → i + 1 < s.count
  more i l e = go (le_or s.count (i + 1))
    where
      go : (s.count ≤ i + 1) ⊎ (i + 1 < s.count) → i + 1 < s.count
      go (inr u) = u
      go (inl u) =
          let t : ℕ = start + last_end s.all in
          let v = s.table.value i t l (omega arith) (λ z. absurd (omega arith)) in
          let w = s.table.value i start l (omega arith) (λ z. absurd (omega arith)) in
          absurd (omega (arith, v, w, used_last t s.all (omega arith), s.taken))

  value : (i r : ℕ) → i + 1 < s.count → get_or ms i 0 ≤ r → r < get_or ms (i + 1) 0 → f r ≡ get_or fs i 0
  value i r l u v = s.table.value i r (omega arith) u (λ k. v)

  from_now : (i : ℕ) → i < s.count → s.now ≤ get_or ms i 0
  from_now i l = omega (arith, s.table.first, rises 0 i (omega arith) l)

  -- the nodes are free from one place up to another
  covers : (i k : ℕ) → k < s.count → ((j : ℕ) → i ≤ j → j < k → n ≤ get_or fs j 0) → (r : ℕ) → get_or ms i 0 ≤ r → r < get_or ms k 0 → i ≤ k → n ≤ f r
  covers i zero l e r u v w = let z : i ≡ 0 = omega arith in absurd (omega (arith, ap (λ (j : ℕ). get_or ms j 0) z))
  covers i (suc k) l e r u v w = go (covers i k (omega arith) (λ j a b. e j a (omega arith)) r u) (le_or (get_or ms k 0) r) (le_or i k)
    where
      go : (r < get_or ms k 0 → i ≤ k → n ≤ f r) → (get_or ms k 0 ≤ r) ⊎ (r < get_or ms k 0) → (i ≤ k) ⊎ (k < i) → n ≤ f r
      go c y (inr z) = let q : i ≡ suc k = omega arith in absurd (omega (arith, ap (λ (j : ℕ). get_or ms j 0) q))
      go c (inl y) (inl z) =
          let q : k + 1 ≡ suc k = omega arith in
          omega (arith, e k z (omega arith), value k r (omega arith) y (omega (arith, ap (λ (j : ℕ). get_or ms j 0) q)))
      go c (inr y) (inl z) = c y z

  is_found : {a : ℕ} → s.now ≤ a → Fits g n h a → ((r : ℕ) → s.now ≤ r → r < start → Fits g n h r → a ≤ r) → a ≤ start → a ≡ found s
  is_found {a} u v w l =
      earliest_unique g g s.now n h _ _ (λ r z. refl)
      (record { later = u; fit = v; smallest = λ r y z. smallest r y z (le_or start r) })
      (earliest_is s.machine s.others s.now n h s.enough)
    where
      smallest : (r : ℕ) → s.now ≤ r → Fits g n h r → (start ≤ r) ⊎ (r < start) → a ≤ r
      smallest r y z (inl x) = omega arith
      smallest r y z (inr x) = w r y x z

module _ {ms fs : List ℕ} {start n h : ℕ} (q : Seeks ms fs start n h) where
  pub past_begin : Past ms fs start n h 0
  past_begin = record { inside = λ s. s.table.some; none = λ s r u v w. omega (arith, s.table.first) }

  -- the last place is not before the start
  last_late : (s : Seeks ms fs start n h) → start ≤ get_or ms (s.count - 1) 0
  last_late s = go (le_or start (get_or ms (s.count - 1) 0))
    where
      go : (start ≤ get_or ms (s.count - 1) 0) ⊎ (get_or ms (s.count - 1) 0 < start) → start ≤ get_or ms (s.count - 1) 0
      go (inl u) = u
      go (inr u) = absurd (omega (arith, more s (s.count - 1) (omega (arith, s.table.some)) u, s.table.some))

  -- all nodes are free from the last place on
  last_enough : (s : Seeks ms fs start n h) → enough fs n (s.count - 1)
  last_enough s =
      let t : ℕ = get_or ms (s.count - 1) 0 + last_end s.all in
      let v = s.table.value (s.count - 1) t (omega (arith, s.table.some)) (omega arith) (λ z. absurd (omega (arith, s.table.some))) in
      omega (arith, v, used_last t s.all (omega arith), s.enough)

  -- so both lists have a place at which a walk ends
  ending : {xs : List ℕ} {i u : ℕ} → length xs ≡ rows → i < q.count → u ≤ get_or xs (q.count - 1) 0 → Ending xs i u
  ending e l v = record { long = e; last = q.count - 1; after = omega arith; fit = omega (arith, q.fit, q.table.some); high = v }

  -- what was reached lies in the table
  inside_going : {P : ℕ → Type 0} {i u k : ℕ} → Going ms P i u k → u ≤ start → (s : Seeks ms fs start n h) → i < s.count → k < s.count
  inside_going v l s m = omega (arith, v.to (s.count - 1) (omega arith) (omega (arith, last_late s)), s.table.some)

  module _ {i : ℕ} (p : Past ms fs start n h i) where
    -- a place with nodes enough is found
    pub skip_ends : Ending fs i n
    skip_ends = ending q.table.free_long (p.inside q) (last_enough q)

    -- the job stays where it is
    pub past_last : start ≤ get_or ms i 0 → (s : Seeks ms fs start n h) → Finds s (record { minute = start; near = 0 })
    past_last l s = record {
      minute = is_found s s.ahead s.late (λ r u v w. omega (arith, p.none s r u v w)) (omega arith);
      near_in = s.table.some;
      near_to = omega (arith, s.table.first, s.ahead);
    }

    -- too few are free in a place that a stretch from here would cross
    past_cross : (k : ℕ) → i ≤ k → get_or ms k 0 < min (get_or ms i 0 + h) start → few fs n k → ((s : Seeks ms fs start n h) → k < s.count)
        → Past ms fs start n h (k + 1)
    past_cross k l m f inside = record {
      inside = λ s. more s k (inside s) (omega arith);
      none = λ s r u v w. go s r u v w (more s k (inside s) (omega arith)) (le_or (get_or ms (k + 1) 0) r) (le_or r (get_or ms k 0));
    }
      where
        go : (s : Seeks ms fs start n h) (r : ℕ) → s.now ≤ r → r < start → Fits (g s) n h r → k + 1 < s.count
            → (get_or ms (k + 1) 0 ≤ r) ⊎ (r < get_or ms (k + 1) 0) → (r ≤ get_or ms k 0) ⊎ (get_or ms k 0 < r) → get_or ms (k + 1) 0 ≤ r
        go s r u v w c (inl y) z = y
        go s r u v w c (inr y) (inl z) =
            absurd (omega (
              arith,
              w (get_or ms k 0) z (omega (arith, p.none s r u v w)),
              s.early (get_or ms k 0) (from_now s k (inside s)) (omega arith),
              value s k (get_or ms k 0) c (omega arith) (omega (arith, s.table.rise k c)),
            ))
        go s r u v w c (inr y) (inr z) = absurd (omega (arith, w r (omega arith) (omega (arith, s.some)), s.early r u v, value s k r c (omega arith) y))

  -- no minute of the places passed will do; once they reach the start, none before it does
  past_skipped : {i : ℕ} → Past ms fs start n h i → (k : ℕ) → i ≤ k → ((s : Seeks ms fs start n h) → k < s.count) → ((j : ℕ) → i ≤ j → j < k → few fs n j)
      → Past ms fs start n h k
  past_skipped {i} p zero l m e = let z : i ≡ 0 = omega arith in subst (Past ms fs start n h) z p
  past_skipped {i} p (suc k) l m e = go (le_or i k) (λ x. past_skipped p k x (λ s. omega (arith, m s)) (λ j a b. e j a (omega arith)))
    where
      on : i ≤ k → Past ms fs start n h k → (start ≤ get_or ms k 0) ⊎ (get_or ms k 0 < start) → Past ms fs start n h (suc k)
      on x f (inl y) = record { inside = m; none = λ s r u v w. absurd (omega (arith, f.none s r u v w)) }
      on x f (inr y) =
          subst (Past ms fs start n h) (add-one k) (past_cross f k (omega arith) (omega (arith, y, q.some)) (e k x (omega arith)) f.inside)

      go : (i ≤ k) ⊎ (k < i) → (i ≤ k → Past ms fs start n h k) → Past ms fs start n h (suc k)
      go (inr x) f = let z : i ≡ suc k = omega arith in subst (Past ms fs start n h) z p
      go (inl x) f = on x (f x) (le_or start (get_or ms k 0))

  pub skipped : {i k : ℕ} → Past ms fs start n h i → Skipped fs i n k → Standing ms fs start n h k
  skipped {i} {k} p z = record {
    fit = z.going.fit;
    past = past_skipped p k z.going.above inside z.going.each;
    here = λ e. z.stop;
  }
    where
      inside : (s : Seeks ms fs start n h) → k < s.count
      inside s = omega (arith, z.going.to (s.count - 1) (omega (arith, p.inside s)) (last_enough s), s.table.some)

  module _ {i : ℕ} (t : Standing ms fs start n h i) (e : get_or ms i 0 < start) where
    abbrev u : ℕ
    u = min (get_or ms i 0 + h) start

    -- and so is one that is not before the end of the hold, or the start
    pub reach_ends : Ending ms (i + 1) u × (length fs ≡ rows)
    reach_ends = (ending q.table.minutes_long (more q i (t.past.inside q) e) (omega (arith, last_late q)), q.table.free_long)

    module _ {k : ℕ} (z : Reached ms fs (i + 1) n u k) where
      inside_reached : (s : Seeks ms fs start n h) → k < s.count
      inside_reached s = inside_going z.going (omega arith) s (more s i (t.past.inside s) e)

      pub past_reached : get_or ms k 0 < u → Past ms fs start n h (k + 1)
      past_reached m = past_cross t.past k (omega (arith, z.going.above)) m (z.stop m) inside_reached

      all_enough : (j : ℕ) → i ≤ j → j < k → n ≤ get_or fs j 0
      all_enough j a b = go (le_or j i)
        where
          go : (j ≤ i) ⊎ (i < j) → n ≤ get_or fs j 0
          go (inl c) = let q : j ≡ i = omega arith in omega (arith, t.here e, ap (λ (m : ℕ). get_or fs m 0) q)
          go (inr c) = z.going.each j (omega arith) b

      -- they are free up to there, or up to the start, from which on they are there for it
      pub found_reached : u ≤ get_or ms k 0 → (s : Seeks ms fs start n h) → Finds s (record { minute = get_or ms i 0; near = i })
      found_reached m s = record {
        minute = is_found s (from_now s i (t.past.inside s)) (λ r a b. go r a b (le_or start r)) (t.past.none s) (omega arith);
        near_in = t.past.inside s;
        near_to = omega arith;
      }
        where
          go : (r : ℕ) → get_or ms i 0 ≤ r → r < get_or ms i 0 + h → (start ≤ r) ⊎ (r < start) → n ≤ g s r
          go r a b (inl y) = s.late r y (omega arith)
          go r a b (inr y) =
              omega (
                arith,
                s.early r (omega (arith, from_now s i (t.past.inside s))) y,
                covers s i k (inside_reached s) all_enough r a (omega arith) (omega (arith, z.going.above)),
              )
