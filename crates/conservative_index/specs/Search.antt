-- The search through the blocks: it finds the earliest start, and reads the points that it is said to.
-- Assumes nothing.
use Prim.Native.Nat.{ℕ, zero, suc, ◌+◌, ◌-◌, ◌*◌, min, ◌≤◌, ◌<◌}
use native.Mathlib.Omega.{arith}
use Rattle.std.proofs.Common.{add-one, sym, ◌∙◌, inl, inr}
use Rattle.std.specs.Prelude.{◌≡◌, refl, Bool, true, false, ◌&&◌, List, ◌⊎◌, leb, ltb, get_or}
use Rattle.std.proofs.Math.Path.{ap, subst}
use borrow.Author.Tests.{leb-true, leb-false, ltb-true, ltb-false, le-leb, lt-leb, lt-ltb, le-ltb}
use Rattle.lists.specs.Tests.{on, case, true_false, le_or}
use Rattle.scheduler.specs.Limits.{horizon}
use Rattle.spans.specs.declared.Span.{Span}
use Rattle.spans.specs.declared.Point.{Point}
use Rattle.spans.specs.Spans.{free, last_end, earliest, profile, Fits, Earliest}
use Rattle.spans.proofs.UsedNodes.{used_last}
use Rattle.spans.proofs.EarliestStart.{earliest_is, earliest_unique}
use Rattle.conservative_table.specs.ListChanges.{rows}
use Rattle.conservative_table.specs.Table.{Table, table_rise}
use Rattle.conservative_table.specs.Points.{points_of, length_points_of, at_points_of}
use Rattle.conservative_table.specs.ProfileLists.{IsProfile, exact_kept}
use Rattle.conservative_index.specs.declared.Anchor.{Anchor}
use Rattle.conservative_index.specs.declared.Anchor.TheVariants.{Lost, From, Found}
use Rattle.conservative_index.specs.declared.Step.{Step}
use Rattle.conservative_index.specs.declared.Start.{Start}
use Rattle.spans.specs.Index.{blocks, size, fewest, most, minute_at, free_at, reads_of, reads}
use Rattle.conservative_index.specs.BuiltIndex.{at, Indexed, fewest_le, most_le, reads_same}
use Rattle.conservative_index.specs.Anchors.{enter, settle, over, minute_of, has, pass_point, pass_points, pass_entered, pass_block, pass_few}

-- the lists are a profile and its index
pub record Searches (ms fs : List ℕ) (n : ℕ) (lo hi : List ℕ) (nodes h : ℕ) : Type 0 where
  pub machine : ℕ
  pub spans : List Span
  pub now : ℕ
  pub profile : IsProfile machine spans now n ms fs
  pub clock : now ≤ horizon
  pub ends : last_end spans ≤ horizon
  pub indexed : Indexed fs n lo hi
  pub fit : n ≤ rows
  pub enough : nodes ≤ machine
  pub some : 1 ≤ h

-- the start that is wanted, and the count that belongs to it
pub record Sought {ms fs : List ℕ} {n : ℕ} {lo hi : List ℕ} {nodes h : ℕ} (s : Searches ms fs n lo hi nodes h) (r : Start) : Type 0 where
  pub minute : r.minute ≡ earliest s.machine s.spans s.now nodes h
  pub reads : r.reads ≡ reads (profile s.machine s.spans s.now) nodes (r.minute + h)

module _ {ms fs : List ℕ} {n : ℕ} {lo hi : List ℕ} {nodes h : ℕ} (s : Searches ms fs n lo hi nodes h) where
  abbrev f : ℕ → ℕ
  f = free s.machine s.spans

  abbrev start : ℕ
  start = earliest s.machine s.spans s.now nodes h

  table : Table f s.now n ms fs
  table = (exact_kept s.profile s.clock s.ends).table

  is_earliest : Earliest f s.now nodes h start
  is_earliest = earliest_is s.machine s.spans s.now nodes h s.enough

  is_start : {a : ℕ} → s.now ≤ a → Fits f nodes h a → ((r : ℕ) → s.now ≤ r → Fits f nodes h r → a ≤ r) → a ≡ start
  is_start u v w = earliest_unique f f s.now nodes h _ _ (λ r z. refl) (record { later = u; fit = v; smallest = w }) is_earliest

  from_now : (i : ℕ) → i < n → s.now ≤ get_or ms i 0
  from_now i l = omega (arith, table.first, table_rise table 0 i (omega arith) l)

  -- Before place i: no minute before it will do; or from a on the nodes are free up to it, and no minute before a will do; or a is the start.
  abbrev Stands : Anchor → ℕ → Type 0
  Stands Lost i = (i < n) × ((r : ℕ) → s.now ≤ r → Fits f nodes h r → get_or ms i 0 ≤ r)
  Stands (From a) i = (s.now ≤ a) × ((r : ℕ) → a ≤ r → (i < n → r < get_or ms i 0) → nodes ≤ f r) × ((r : ℕ) → s.now ≤ r → Fits f nodes h r → a ≤ r)
  Stands (Found a) i = (a ≡ start) × (i < n → a + h ≤ get_or ms i 0)

  -- and the hold is not over by then
  abbrev Short : Anchor → ℕ → Type 0
  Short Lost i = Unit {0}
  Short (From a) i = get_or ms i 0 < a + h
  Short (Found a) i = Unit {0}

  begin_stands : Stands Lost 0
  begin_stands = (table.some, λ r u v. omega (arith, table.first))

  -- the search comes to place i
  module _ (i : ℕ) (l : i < n) where
    value : (r : ℕ) → get_or ms i 0 ≤ r → (i + 1 < n → r < get_or ms (i + 1) 0) → f r ≡ get_or fs i 0
    value r u v = table.value i r l u v

    here : f (get_or ms i 0) ≡ get_or fs i 0
    here = value (get_or ms i 0) (omega arith) (table.rise i)

    enter_stands : (k : Anchor) → Stands k i → Stands (enter h (get_or ms i 0) k) i × Short (enter h (get_or ms i 0) k) i
    enter_stands Lost p = (p, tt)
    enter_stands (Found a) p = (p, tt)
    enter_stands (From a) p =
        case (leb (a + h) (get_or ms i 0))
        (λ e. rw e (
          (is_start p.0 (λ r u v. p.1 r u (λ z. omega (arith, leb-true (a + h) (get_or ms i 0) e))) p.2, λ z. leb-true (a + h) (get_or ms i 0) e),
          tt,
        ))
        (λ e. rw e (p, leb-false (a + h) (get_or ms i 0) e))

    -- there are enough from its minute on
    free_stands : (k : Anchor) → Stands k i → over k ≡ false → Stands (settle (get_or ms i 0) true k) i
    free_stands Lost p e = (from_now i l, (λ r u v. absurd (omega (arith, v l))), p.1)
    free_stands (From a) p e = p
    free_stands (Found a) p e = true_false true refl e

    -- there are too few
    lost_stands : (k : Anchor) → Stands k i → Short k i → over k ≡ false → get_or fs i 0 < nodes → Stands Lost i
    lost_stands Lost p q e v = p
    lost_stands (From a) p q e v = (l, λ r u w. go r w (p.2 r u w) (le_or (get_or ms i 0) r))
      where
        go : (r : ℕ) → Fits f nodes h r → a ≤ r → (get_or ms i 0 ≤ r) ⊎ (r < get_or ms i 0) → get_or ms i 0 ≤ r
        go r w z (inl y) = y
        go r w z (inr y) = absurd (omega (arith, w (get_or ms i 0) (omega arith) (omega arith), here))
    lost_stands (Found a) p q e v = true_false true refl e

    -- one place on
    from_on : (a : ℕ) → nodes ≤ get_or fs i 0 → Stands (From a) i → Stands (From a) (i + 1)
    from_on a e p = (p.0, (λ r u v. go r u v (le_or (get_or ms i 0) r)), p.2)
      where
        go : (r : ℕ) → a ≤ r → (i + 1 < n → r < get_or ms (i + 1) 0) → (get_or ms i 0 ≤ r) ⊎ (r < get_or ms i 0) → nodes ≤ f r
        go r u v (inl y) = omega (arith, value r y v)
        go r u v (inr y) = p.1 r u (λ z. y)

    more : get_or fs i 0 < nodes → i + 1 < n
    more v = go (le_or n (i + 1))
      where
        go : (n ≤ i + 1) ⊎ (i + 1 < n) → i + 1 < n
        go (inr u) = u
        go (inl u) =
            let t : ℕ = get_or ms i 0 + last_end s.spans in
            absurd (omega (arith, value t (omega arith) (λ z. absurd (omega arith)), used_last t s.spans (omega arith), s.enough))

    lost_on : get_or fs i 0 < nodes → Stands Lost i → Stands Lost (i + 1)
    lost_on v p = (more v, λ r u w. go r w (p.1 r u w) (le_or (get_or ms (i + 1) 0) r))
      where
        go : (r : ℕ) → Fits f nodes h r → get_or ms i 0 ≤ r → (get_or ms (i + 1) 0 ≤ r) ⊎ (r < get_or ms (i + 1) 0) → get_or ms (i + 1) 0 ≤ r
        go r w z (inl y) = y
        go r w z (inr y) = absurd (omega (arith, w r (omega arith) (omega (arith, s.some)), value r z (λ x. y)))

    settled_on : (k : Anchor) → Stands k i → Short k i → (b : Bool) → leb nodes (get_or fs i 0) ≡ b → Stands (settle (get_or ms i 0) b k) (i + 1)
    settled_on (Found a) p q b e = (p.0, λ z. omega (arith, p.1 l, table.rise i z))
    settled_on Lost p q true e = from_on (get_or ms i 0) (leb-true nodes (get_or fs i 0) e) (free_stands Lost p refl)
    settled_on Lost p q false e = lost_on (leb-false nodes (get_or fs i 0) e) p
    settled_on (From a) p q true e = from_on a (leb-true nodes (get_or fs i 0) e) p
    settled_on (From a) p q false e = lost_on (leb-false nodes (get_or fs i 0) e) (lost_stands (From a) p q refl (leb-false nodes (get_or fs i 0) e))

    point_on : (k : Anchor) → Stands k i → Stands (pass_point h (get_or ms i 0) (leb nodes (get_or fs i 0)) k) (i + 1)
    point_on k p = let q = enter_stands k p in settled_on (enter h (get_or ms i 0) k) q.0 q.1 (leb nodes (get_or fs i 0)) refl

  -- j places on
  points_on : (i j : ℕ) (k : Anchor) → i + j ≤ n → Stands k i → Stands (pass_points h (at ms) (has nodes (at fs) i) i j k) (i + j)
  unfolding pass_points
  points_on i zero k l p = let e : i + 0 ≡ i = omega arith in rw e p
  points_on i (suc j) k l p =
      let e : i + j + 1 ≡ i + suc j = omega arith in
      rw e at (point_on (i + j) (omega arith) (pass_points h (at ms) (has nodes (at fs) i) i j k) (points_on i j k (omega arith) p))

  free_on : (i j a : ℕ) → i + j ≤ n → ((c : ℕ) → c < j → nodes ≤ get_or fs (i + c) 0) → Stands (From a) i → Stands (From a) (i + j)
  free_on i zero a l v p = let e : i + 0 ≡ i = omega arith in rw e p
  free_on i (suc j) a l v p =
      let e : i + j + 1 ≡ i + suc j = omega arith in
      rw e at (from_on (i + j) (omega arith) a (v j (omega arith)) (free_on i j a (omega arith) (λ c u. v c (omega arith)) p))

  blocked_on : (i j : ℕ) → i + j ≤ n → ((c : ℕ) → c < j → get_or fs (i + c) 0 < nodes) → Stands Lost i → Stands Lost (i + j)
  blocked_on i zero l v p = let e : i + 0 ≡ i = omega arith in rw e p
  blocked_on i (suc j) l v p =
      let e : i + j + 1 ≡ i + suc j = omega arith in
      rw e at (lost_on (i + j) (omega arith) (v j (omega arith)) (blocked_on i j (omega arith) (λ c u. v c (omega arith)) p))

  -- A block: place p is its first, and it has k + 1 places.
  module _ (p k : ℕ) (l : p + suc k ≤ n) where
    abbrev low : ℕ
    low = fewest (at fs) p k

    abbrev high : ℕ
    high = most (at fs) p k

    inside : p < n
    inside = omega arith

    first_few : most (at fs) p k < nodes → get_or fs p 0 < nodes
    first_few e = let z : p + 0 ≡ p = omega arith in omega (arith, most_le (at fs) p k 0 (omega arith), ap (at fs) z)

    free_block : (a : Anchor) → Stands a p → over a ≡ false → nodes ≤ low → Stands (settle (get_or ms p 0) true a) (p + suc k)
    free_block Lost q e v = free_on p (suc k) (get_or ms p 0) l (λ c u. omega (arith, fewest_le (at fs) p k c (omega arith))) (free_stands p inside Lost q refl)
    free_block (From b) q e v = free_on p (suc k) b l (λ c u. omega (arith, fewest_le (at fs) p k c (omega arith))) q
    free_block (Found b) q e v = true_false true refl e

    found_block : (a : Anchor) → Stands a p → over a ≡ true → Stands a (p + suc k)
    found_block Lost q e = true_false false e refl
    found_block (From b) q e = true_false false e refl
    found_block (Found b) q e = (q.0, λ z. omega (arith, q.1 inside, table_rise table p (p + suc k) (omega arith) z))

    entered_on : (a : Anchor) → Stands a p → Short a p → Stands (pass_entered nodes h (at ms) (at fs) low high p (suc k) a).anchor (p + suc k)
    unfolding pass_entered
    entered_on a q t =
        case (over a) (λ e. rw e (found_block a q e))
        (λ e. case (leb nodes low) (λ u. rw (e, u) (free_block a q e (leb-true nodes low u)))
        (λ u. case (ltb high nodes)
        (λ w. rw (e, u, w) (blocked_on p (suc k) l (λ c z. omega (arith, ltb-true high nodes w, most_le (at fs) p k c (omega arith)))
        (lost_stands p inside a q t e (first_few (ltb-true high nodes w)))))
        (λ w. rw (e, u, w) (points_on p (suc k) a l q))))

    -- a block that the search comes to begins before the hold's end, unless the start is known
    reached : (a : Anchor) → Stands a p → Short a p → over a ≡ false → get_or ms p 0 < start + h
    reached Lost q t e = omega (arith, q.1 start is_earliest.later is_earliest.fit, s.some)
    reached (From b) q t e = omega (arith, q.2 start is_earliest.later is_earliest.fit)
    reached (Found b) q t e = true_false true refl e

    passed : (a : Anchor) → Stands a p → over a ≡ true → start + h ≤ get_or ms p 0
    passed Lost q e = true_false false e refl
    passed (From b) q e = true_false false e refl
    passed (Found b) q e = omega (arith, q.0, q.1 inside)

    entered_reads : (a : Anchor) → Stands a p → Short a p
        → (pass_entered nodes h (at ms) (at fs) low high p (suc k) a).reads ≡ on (ltb (get_or ms p 0) (start + h) && (ltb low nodes && leb nodes high)) (suc k)
    unfolding pass_entered
    entered_reads a q t =
        case (over a) (λ e. rw (e, le-ltb (get_or ms p 0) (start + h) (passed a q e)))
        (λ e. let r = lt-ltb (get_or ms p 0) (start + h) (reached a q t e) in
        case (leb nodes low) (λ u. rw (e, u, r, le-ltb low nodes (leb-true nodes low u)))
        (λ u. case (ltb high nodes)
        (λ w. rw (e, u, w, r, lt-ltb low nodes (leb-false nodes low u), lt-leb nodes high (ltb-true high nodes w)))
        (λ w. rw (e, u, w, r, lt-ltb low nodes (leb-false nodes low u), le-leb nodes high (ltb-false high nodes w)))))

-- The loop stands before block b, whose first place is from.
pub record Going (ms fs : List ℕ) (n : ℕ) (lo hi : List ℕ) (nodes h : ℕ) (a : Anchor) (count b from : ℕ) : Type 0 where
  pub from_is : from ≡ 16 * b
  pub to : b ≤ blocks n
  pub few : count ≤ from
  pub stands : (s : Searches ms fs n lo hi nodes h) → Stands s a (min from n)
  pub counted : (s : Searches ms fs n lo hi nodes h) → count ≡ reads_of (at ms) (at fs) n nodes (start s + h) b

module _ {ms fs : List ℕ} {n : ℕ} {lo hi : List ℕ} {nodes h : ℕ} where
  pub going_begin : Going ms fs n lo hi nodes h Lost 0 0 0
  unfolding reads_of
  going_begin = record {
    from_is = omega arith;
    to = omega arith;
    few = omega arith;
    stands = λ s. let z : 0 ≡ min 0 n = omega arith in subst (Stands s Lost) z
        (begin_stands s);
    counted = λ s. refl;
  }

  module _ {a : Anchor} {count b from : ℕ} (q : Going ms fs n lo hi nodes h a count b from) where
    pub going_on : from < n → (k : ℕ) → k ≡ min 16 (n - from) → (t : Step) → t ≡ pass_block nodes h (at ms) (at fs) (get_or lo b 0) (get_or hi b 0) from k a
        → Going ms fs n lo hi nodes h t.anchor (count + t.reads) (b + 1) (from + 16)
    unfolding reads_of
    going_on l k ke t e = record {
      from_is = omega (arith, q.from_is);
      to = omega (arith, q.from_is);
      few = omega (
        arith,
        q.few,
        ap (λ (t : Step). t.reads) e,
        pass_few nodes h (at ms) (at fs) (get_or lo b 0) (get_or hi b 0) from k (enter h (get_or ms from 0) a),
      );
      stands = stands;
      counted = counted;
    }
      where
        -- the step over a block whose fewest and most are those of its places
        stepped : Step
        stepped = pass_block nodes h (at ms) (at fs) (fewest (at fs) from (k - 1)) (most (at fs) from (k - 1)) from (suc (k - 1)) a

        block : (s : Searches ms fs n lo hi nodes h) → t ≡ stepped
        block s =
            let lw : get_or lo b 0 ≡ fewest (at fs) from (k - 1) =
            s.indexed.low b (omega (arith, q.from_is, s.fit)) (omega (arith, q.from_is)) ∙ rw (ke, q.from_is) in
            let hg : get_or hi b 0 ≡ most (at fs) from (k - 1) =
            s.indexed.high b (omega (arith, q.from_is, s.fit)) (omega (arith, q.from_is)) ∙ rw (ke, q.from_is) in
            let z : suc (k - 1) ≡ k = omega arith in
            rw (sym lw, sym hg, z) e

        entered : (s : Searches ms fs n lo hi nodes h) → Stands s (enter h (get_or ms from 0) a) from × Short s (enter h (get_or ms from 0) a) from
        entered s = let z : min from n ≡ from = omega arith in enter_stands s from l a (subst (Stands s a) z (q.stands s))

        stands : (s : Searches ms fs n lo hi nodes h) → Stands s t.anchor (min (from + 16) n)
        stands s =
            let z : from + suc (k - 1) ≡ min (from + 16) n = omega arith in
            rw (block s)
            (subst (Stands s stepped.anchor) z (entered_on s from (k - 1) (omega arith) (enter h (get_or ms from 0) a) (entered s).0 (entered s).1))

        counted : (s : Searches ms fs n lo hi nodes h) → count + t.reads ≡ reads_of (at ms) (at fs) n nodes (start s + h) (b + 1)
        counted s =
            let z : b + 1 ≡ suc b = add-one b in
            let y : suc (k - 1) ≡ size n b = omega (arith, q.from_is) in
            let x : k - 1 ≡ size n b - 1 = omega (arith, q.from_is) in
            rw (
              z,
              block s,
              entered_reads s from (k - 1) (omega arith) (enter h (get_or ms from 0) a) (entered s).0 (entered s).1,
              y,
              x,
              q.from_is,
              q.counted s,
            )

    module _ (l : n ≤ from) (s : Searches ms fs n lo hi nodes h) where
      last : Stands s a n
      last = let z : min from n ≡ n = omega arith in subst (Stands s a) z (q.stands s)

      found : (a : Anchor) → Stands s a n → minute_of a ≡ start s
      found Lost p = absurd (omega (arith, p.0))
      found (From a) p = is_start s p.0 (λ r u v. p.1 r u (λ z. absurd (omega arith))) p.2
      found (Found a) p = p.0

      all_read : count ≡ reads (profile s.machine s.spans s.now) nodes (start s + h)
      all_read =
          let z : b ≡ blocks n = omega (arith, q.from_is, q.to) in
          q.counted s
          ∙ ap (reads_of (at ms) (at fs) n nodes (start s + h)) z
          ∙ rw (length_points_of ms fs n) (reads_same (at ms) (minute_at (points_of ms fs n)) (at fs) (free_at (points_of ms fs n)) n nodes (start s + h)
          (λ j u. sym (ap (λ (p : Point). p.minute) (at_points_of ms fs n j (record { minute = 0; free = 0 }) u)))
          (λ j u. sym (ap (λ (p : Point). p.free) (at_points_of ms fs n j (record { minute = 0; free = 0 }) u)))
          (blocks n) (omega arith))
          ∙ ap (λ (ps : List Point). reads ps nodes (start s + h)) s.profile.points

      pub going_end : {m : ℕ} → m ≡ minute_of a → Sought s (record { minute = m; reads = count })
      going_end e =
          let z = e ∙ found a last in
          record { minute = z; reads = all_read ∙ ap (λ (m : ℕ). reads (profile s.machine s.spans s.now) nodes (m + h)) (sym z) }
