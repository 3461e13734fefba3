-- The scan over the points of a profile for the longest stretch of minutes in which the nodes are free.
-- Assumes nothing.
use Rattle.std.specs.Prelude.{ℕ, zero, suc, ◌+◌, ◌-◌, max, ◌≤◌, ◌<◌, ◌≡◌, cond, List, ◌⊎◌, ltb, get_or}
use Rattle.std.proofs.Common.{arith, inl, inr, ⊎_elim, ltb-false, lt-ltb, le-ltb}
use Rattle.lists.specs.Tests.{case, le_or}
use Rattle.scheduler.specs.Limits.{horizon}
use Rattle.spans.specs.declared.Span.{Span}
use Rattle.spans.specs.Spans.{free, last_end, Fits}
use Rattle.spans.proofs.UsedNodes.{used_last}
use Rattle.spans.proofs.EarliestStart.{Room}
use Rattle.conservative_table.specs.ListChanges.{rows}
use Rattle.conservative_table.specs.Table.{Table, table_rise}
use Rattle.conservative_table.specs.ProfileLists.{IsProfile, exact_kept}

-- where the place i begins: its minute, or after the last place the last minute
unfoldable pub edge : List ℕ → (n i : ℕ) → ℕ
edge ms n i = cond (ltb i n) (get_or ms i 0) horizon

pub edge_in : (ms : List ℕ) (n i : ℕ) → i < n → edge ms n i ≡ get_or ms i 0
unfolding edge
edge_in ms n i l = rw (lt-ltb i n l)

pub edge_out : (ms : List ℕ) (n i : ℕ) → n ≤ i → edge ms n i ≡ horizon
unfolding edge
edge_out ms n i l = rw (le-ltb i n l)

-- the longest stretch, with one from `since` to `end` if that begins by `by`
unfoldable pub longer : (longest since end by : ℕ) → ℕ
longer l since end by = cond (ltb by since) l (max l (end - since))

module _ (l since end by : ℕ) where
  pub longer_late : by < since → l ≡ longer l since end by
  unfolding longer
  longer_late h = rw (lt-ltb by since h)

  pub longer_max : since ≤ by → max l (end - since) ≡ longer l since end by
  unfolding longer
  longer_max h = rw (le-ltb by since h)

-- the lists are a profile
pub record Scans (ms fs : List ℕ) (n nodes by : ℕ) : Type 0 where
  pub machine : ℕ
  pub spans : List Span
  pub now : ℕ
  pub profile : IsProfile machine spans now n ms fs
  pub clock : now ≤ horizon
  pub ends : last_end spans ≤ horizon
  pub fit : n ≤ rows
  pub enough : nodes ≤ machine
  pub ahead : now ≤ by

-- there is room for this many minutes by then, and for no more
pub record Widest {ms fs : List ℕ} {n nodes by : ℕ} (s : Scans ms fs n nodes by) (h : ℕ) : Type 0 where
  pub room : Room (free s.machine s.spans) s.now nodes horizon by h
  pub most : (k : ℕ) → Room (free s.machine s.spans) s.now nodes horizon by k → k ≤ h

-- up to the place i: from `since` on the nodes are free, and just before they are not, or it is now; and the longest stretch so far
pub record Scanned {ms fs : List ℕ} {n nodes by : ℕ} (s : Scans ms fs n nodes by) (since longest i : ℕ) : Type 0 where
  pub from : s.now ≤ since
  pub to : since ≤ edge ms n i
  pub clear : (t : ℕ) → since ≤ t → t < edge ms n i → nodes ≤ free s.machine s.spans t
  pub before : (since ≡ s.now) ⊎ ((s.now < since) × (free s.machine s.spans (since - 1) < nodes))
  pub room : Room (free s.machine s.spans) s.now nodes horizon by longest
  pub most : (r h : ℕ) → s.now ≤ r → r ≤ by → r + h ≤ edge ms n i → Fits (free s.machine s.spans) nodes h r → h ≤ longest

module _ {ms fs : List ℕ} {n nodes by : ℕ} (s : Scans ms fs n nodes by) where
  abbrev f : ℕ → ℕ
  f = free s.machine s.spans

  table : Table f s.now n ms fs
  table = (exact_kept s.profile s.clock s.ends).table

  edge_now : (i : ℕ) → i < n → s.now ≤ edge ms n i
  edge_now i l = omega (arith, edge_in ms n i l, table.first, table_rise table 0 i (omega arith) l)

  -- the next place begins no earlier, and if there is one it begins later
  pub edge_rise : (i : ℕ) → i < n → edge ms n i ≤ edge ms n (i + 1)
  edge_rise i l = go (le_or n (i + 1))
    where
      go : (n ≤ i + 1) ⊎ (i + 1 < n) → edge ms n i ≤ edge ms n (i + 1)
      go (inl k) = omega (arith, edge_in ms n i l, edge_out ms n (i + 1) k, table.low i l)
      go (inr k) = omega (arith, edge_in ms n i l, edge_in ms n (i + 1) k, table.rise i k)

  edge_to : (i : ℕ) → i < n → edge ms n (i + 1) ≤ horizon
  edge_to i l = go (le_or n (i + 1))
    where
      go : (n ≤ i + 1) ⊎ (i + 1 < n) → edge ms n (i + 1) ≤ horizon
      go (inl k) = omega (arith, edge_out ms n (i + 1) k)
      go (inr k) = omega (arith, edge_in ms n (i + 1) k, table.low (i + 1) k)

  value : (i t : ℕ) → i < n → edge ms n i ≤ t → t < edge ms n (i + 1) → f t ≡ get_or fs i 0
  value i t l a b = table.value i t l (omega (arith, edge_in ms n i l)) (λ k. omega (arith, edge_in ms n (i + 1) k))

  -- from the last place on all nodes are free
  more : (i : ℕ) → i < n → get_or fs i 0 < nodes → i + 1 < n
  more i l e = go (le_or n (i + 1))
    where
      go : (n ≤ i + 1) ⊎ (i + 1 < n) → i + 1 < n
      go (inr k) = k
      go (inl k) =
          let t : ℕ = get_or ms i 0 + last_end s.spans in
          absurd (omega (arith, table.value i t l (omega arith) (λ z. absurd (omega arith)), used_last t s.spans (omega arith), s.enough))

  -- no stretch reaches over a minute in which too few are free
  breaks : (t r h : ℕ) → f t < nodes → r ≤ t → Fits f nodes h r → r + h ≤ t
  breaks t r h e a g = go (le_or (r + h) t)
    where
      go : (r + h ≤ t) ⊎ (t < r + h) → r + h ≤ t
      go (inl k) = k
      go (inr k) = absurd (omega (arith, g t a k))

  pub scan_begin : Scanned s (get_or ms 0 0) 0 0
  scan_begin =
      let e : edge ms n 0 ≡ get_or ms 0 0 = edge_in ms n 0 table.some in
      record {
        from = omega (arith, table.first);
        to = omega arith;
        clear = λ t a b. absurd (omega arith);
        before = inl table.first;
        room = (s.now, omega arith, s.ahead, omega (arith, s.clock), λ t a b. absurd (omega arith));
        most = λ r h a b c g. omega (arith, table.first);
      }

  module _ {since longest i : ℕ} (q : Scanned s since longest i) (l : i < n) where
    -- too few are free in this place
    pub scan_few : get_or fs i 0 < nodes → Scanned s (edge ms n (i + 1)) longest (i + 1)
    scan_few e = record {
      from = omega (arith, edge_now (i + 1) k);
      to = omega arith;
      clear = λ t a b. absurd (omega arith);
      before = inr (omega (arith, up, edge_now i l), omega (arith, value i (edge ms n (i + 1) - 1) l (omega (arith, up)) (omega (arith, up))));
      room = q.room;
      most = λ r h a b c g. go r h a b c g (le_or r (edge ms n i));
    }
      where
        k : i + 1 < n
        k = more i l e

        up : edge ms n i < edge ms n (i + 1)
        up = omega (arith, edge_in ms n i l, edge_in ms n (i + 1) k, table.rise i k)

        go : (r h : ℕ) → s.now ≤ r → r ≤ by → r + h ≤ edge ms n (i + 1) → Fits f nodes h r → (r ≤ edge ms n i) ⊎ (edge ms n i < r) → h ≤ longest
        go r h a b c g (inl d) = q.most r h a b (breaks (edge ms n i) r h (omega (arith, value i (edge ms n i) l (omega arith) up)) d g) g
        go r zero a b c g (inr d) = omega arith
        go r (suc h) a b c g (inr d) = absurd (omega (arith, breaks r r (suc h) (omega (arith, value i r l (omega arith) (omega arith))) (omega arith) g))

    -- nodes enough are
    pub scan_enough : nodes ≤ get_or fs i 0 → Scanned s since (longer longest since (edge ms n (i + 1)) by) (i + 1)
    unfolding longer
    scan_enough e = record {
      from = q.from;
      to = omega (arith, q.to, edge_rise i l);
      clear = clear;
      before = q.before;
      room = case (ltb by since) (λ z. rw z q.room) (λ z. rw z (room (ltb-false by since z) (le_or (edge ms n (i + 1) - since) longest)));
      most = λ r h a b c g. most r h a b c g (le_or since r);
    }
      where
        clear : (t : ℕ) → since ≤ t → t < edge ms n (i + 1) → nodes ≤ f t
        clear t a b = go (le_or (edge ms n i) t)
          where
            go : (edge ms n i ≤ t) ⊎ (t < edge ms n i) → nodes ≤ f t
            go (inl d) = omega (arith, value i t l d b)
            go (inr d) = q.clear t a d

        room : since ≤ by → (edge ms n (i + 1) - since ≤ longest) ⊎ (longest < edge ms n (i + 1) - since)
            → Room f s.now nodes horizon by (max longest (edge ms n (i + 1) - since))
        room a (inl d) = let z : max longest (edge ms n (i + 1) - since) ≡ longest = omega arith in rw z q.room
        room a (inr d) =
            let z : max longest (edge ms n (i + 1) - since) ≡ edge ms n (i + 1) - since = omega arith in
            rw z (since, q.from, a, omega (arith, edge_to i l, edge_rise i l, q.to), λ t b c. clear t b (omega arith))

        -- what begins before `since` is over by then
        early : (r h : ℕ) → s.now ≤ r → r < since → Fits f nodes h r → r + h ≤ edge ms n i
        early r h a b g =
            ⊎_elim (λ (z : since ≡ s.now). absurd (omega arith))
            (λ (z : (s.now < since) × (f (since - 1) < nodes)). omega (arith, breaks (since - 1) r h z.1 (omega arith) g, q.to)) q.before

        grows : longest ≤ longer longest since (edge ms n (i + 1)) by
        grows = case (ltb by since) (λ z. rw z (omega arith)) (λ z. rw z (omega arith))

        counts : since ≤ by → edge ms n (i + 1) - since ≤ longer longest since (edge ms n (i + 1)) by
        counts a = rw (le-ltb by since a) (omega arith)

        most : (r h : ℕ) → s.now ≤ r → r ≤ by → r + h ≤ edge ms n (i + 1) → Fits f nodes h r → (since ≤ r) ⊎ (r < since)
            → h ≤ longer longest since (edge ms n (i + 1)) by
        most r h a b c g (inl d) = omega (arith, counts (omega arith))
        most r h a b c g (inr d) = omega (arith, grows, q.most r h a b (early r h a d g) g)

  pub scan_end : {since longest i : ℕ} → Scanned s since longest i → n ≤ i → Widest s longest
  scan_end {since} {longest} {i} q l = record {
    room = q.room;
    most = λ k r. q.most r.0 k r.1 r.2 (omega (arith, r.3, edge_out ms n i l)) r.4;
  }
