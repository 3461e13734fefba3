-- A span laid over the points, or taken out of them: its beginning and its end get a place, the places between change, and a place at which nothing
-- changes leaves.
-- Assumes nothing.
use Rattle.std.specs.Prelude.{ℕ, ◌+◌, ◌-◌, max, ◌≤◌, ◌<◌, ◌≡◌, refl, Bool, true, false, List, ◌⊎◌, ◌≢◌, get_or, eqb}
use Rattle.std.proofs.Common.{arith, sym, ap, subst, ◌∙◌, inl, inr, eqb-true}
use Rattle.std.proofs.lemmas.Bool.{eqb-false}
use Rattle.lists.specs.Tests.{case, le_or}
use Rattle.scheduler.specs.Limits.{horizon}
use Rattle.spans.specs.declared.Span.{Span}
use Rattle.spans.specs.Spans.{takes}
use Rattle.spans.proofs.UsedNodes.{takes_in, takes_before, takes_after, takes_still}
use Rattle.conservative_table.specs.declared.Row.{Row}
use Rattle.conservative_table.specs.ListChanges.{rows, changed, SpareNodes, Adjustable, Adjusted}
use Rattle.conservative_table.specs.Table.{Table, table_rise, table_same, Ascends, Split, Among, Before}
use Rattle.conservative_table.specs.Points.{Real, Kept}
use Rattle.conservative_table.specs.Join.{Inside, Joined, joined_real}

-- The lists are the points of f, which with x laid over it, or taken out, is g. The minute of place a is not later than the one in which
-- that begins.
pub record Lays (ms fs : List ℕ) (a n : ℕ) (x : Span) (release : Bool) : Type 0 where
  pub f : ℕ → ℕ
  pub g : ℕ → ℕ
  pub now : ℕ
  pub kept : Kept f now n ms fs
  pub change : (t : ℕ) → now ≤ t → g t ≡ changed release (takes t x) (f t)
  pub room : (t : ℕ) → now ≤ t → SpareNodes release (takes t x) (f t)
  pub until : x.until ≤ horizon
  pub near_in : a < n
  pub near_to : get_or ms a 0 ≤ max now x.from
  pub fits : n + 2 ≤ rows

-- from place r on the lists may have changed, which is where the span begins
pub record Laid {ms fs : List ℕ} {a n : ℕ} {x : Span} {release : Bool} (l : Lays ms fs a n x release) (r : Row) (ms' fs' : List ℕ) : Type 0 where
  pub kept : Kept l.g l.now r.count ms' fs'
  pub before : Before r.at ms fs ms' fs'
  pub old : r.at ≤ n
  pub new : r.at ≤ r.count
  pub early : (j : ℕ) → j < n → get_or ms j 0 < x.from → j < r.at

-- the lists are a table in which the span begins in a place
pub record LaysAt (ms fs : List ℕ) (a : Row) (x : Span) (release : Bool) : Type 0 where
  pub f : ℕ → ℕ
  pub g : ℕ → ℕ
  pub now : ℕ
  pub table : Table f now a.count ms fs
  pub nearly : (i : ℕ) → i < a.count → Real f now (get_or ms i 0) ⊎ (get_or ms i 0 ≡ max now x.from)
  pub change : (t : ℕ) → now ≤ t → g t ≡ changed release (takes t x) (f t)
  pub room : (t : ℕ) → now ≤ t → SpareNodes release (takes t x) (f t)
  pub until : x.until ≤ horizon
  pub inside : a.at < a.count
  pub begins : get_or ms a.at 0 ≡ max now x.from
  pub some : get_or ms a.at 0 < x.until
  pub fits : a.count + 1 ≤ rows

pub record LaidAt {ms fs : List ℕ} {a : Row} {x : Span} {release : Bool} (l : LaysAt ms fs a x release) (r : ℕ) (ms' fs' : List ℕ) : Type 0 where
  pub kept : Kept l.g l.now r ms' fs'
  pub before : Before a.at ms fs ms' fs'
  pub new : a.at ≤ r

changed_nothing : (release : Bool) (v : ℕ) → changed release 0 v ≡ v
changed_nothing true v = omega arith
changed_nothing false v = omega arith

-- where the span takes nothing, nothing changes
none : {v w : ℕ} (release : Bool) (k : ℕ) → w ≡ changed release k v → k ≡ 0 → w ≡ v
none {v} release k c e = c ∙ ap (λ (k : ℕ). changed release k v) e ∙ changed_nothing release v

-- the points of what is the same from now on
real_same : {f g : ℕ → ℕ} {now : ℕ} → ((t : ℕ) → now ≤ t → g t ≡ f t) → (m : ℕ) → Real f now m → Real g now m
real_same e m (inl u) = inl u
real_same e m (inr u) = inr (u.0, λ z. u.1 (sym (e m (omega arith)) ∙ z ∙ e (m - 1) (omega arith)))

module _ {ms fs : List ℕ} {c n : ℕ} {x : Span} {release : Bool} (l : Lays ms fs c n x release) where
  -- it is over by now, or is no stretch at all
  pub laid_none : x.until ≤ max (get_or ms 0 0) x.from → Laid l (record { at = n; count = n }) ms fs
  laid_none h = record {
    kept = record { table = table_same same l.kept.table; real = λ i u. real_same same (get_or ms i 0) (l.kept.real i u) };
    before = λ j u. (refl, refl);
    old = omega arith;
    new = omega arith;
    early = λ j u v. u;
  }
    where
      out : (t : ℕ) → l.now ≤ t → (x.from ≤ t) ⊎ (t < x.from) → takes t x ≡ 0
      out t a (inl u) = takes_after t x (omega (arith, l.kept.table.first))
      out t a (inr u) = takes_before t x u

      same : (t : ℕ) → l.now ≤ t → l.g t ≡ l.f t
      same t a = none release (takes t x) (l.change t a) (out t a (le_or x.from t))

  -- its begin gets a place
  pub begin_ascends : {from : ℕ} → from ≡ max (get_or ms 0 0) x.from → Ascends ms c n from
  begin_ascends e = record {
    long = l.kept.table.minutes_long;
    inside = l.near_in;
    fit = omega (arith, l.fits);
    last = omega (arith, l.near_to, l.kept.table.first);
  }

  -- its begin has got a place
  module _ {from : ℕ} (from_is : from ≡ max (get_or ms 0 0) x.from) (some : from < x.until) {a : Row} {ms₁ fs₁ : List ℕ}
      (s : Split ms fs n from a ms₁ fs₁) where
    from_then : from ≡ max l.now x.from
    from_then = from_is ∙ ap (λ (m : ℕ). max m x.from) l.kept.table.first

    nearly : (i : ℕ) → i < a.count → Real l.f l.now (get_or ms₁ i 0) ⊎ (get_or ms₁ i 0 ≡ max l.now x.from)
    nearly i u = go (s.from i u)
      where
        go : (get_or ms₁ i 0 ≡ from) ⊎ Among ms n (get_or ms₁ i 0) → Real l.f l.now (get_or ms₁ i 0) ⊎ (get_or ms₁ i 0 ≡ max l.now x.from)
        go (inl e) = inr (e ∙ from_then)
        go (inr e) = inl (rw e.2 (l.kept.real e.0 e.1))

    -- the places of earlier minutes lie before it
    early : (j : ℕ) → j < n → get_or ms j 0 < x.from → j < a.at
    early j u v = go (le_or a.at j)
      where
        go : (a.at ≤ j) ⊎ (j < a.at) → j < a.at
        go (inr w) = w
        go (inl w) =
            let q = s.same l.f l.now l.kept.table (omega (arith, l.until)) in
            let e = s.kept l.f l.now l.kept.table j u (omega (arith, from_is)) in
            absurd (omega (arith, table_rise q a.at j w (omega (arith, s.grows)), s.minute, e, from_is))

    pub lays_at : LaysAt ms₁ fs₁ a x release
    lays_at = record {
      f = l.f;
      g = l.g;
      now = l.now;
      table = s.same l.f l.now l.kept.table (omega (arith, l.until));
      nearly = nearly;
      change = l.change;
      room = l.room;
      until = l.until;
      inside = s.inside;
      begins = s.minute ∙ from_then;
      some = omega (arith, s.minute);
      fits = omega (arith, s.most, l.fits);
    }

    pub laid_from : {r : ℕ} {ms' fs' : List ℕ} → ((q : LaysAt ms₁ fs₁ a x release) → LaidAt q r ms' fs') → Laid l (record { at = a.at; count = r }) ms' fs'
    unfolding lays_at
    laid_from f = record {
      kept = (f lays_at).kept;
      before = λ j u. let p = (f lays_at).before j u in let q = s.before j u in (p.0 ∙ q.0, p.1 ∙ q.1);
      old = s.old;
      new = (f lays_at).new;
      early = early;
    }

-- what is changed by as much stays different
changed_apart : (release : Bool) (k v w : ℕ) → SpareNodes release k v → SpareNodes release k w → v ≢ w → changed release k v ≢ changed release k w
changed_apart true k v w a b d e = d (omega arith)
changed_apart false k v w a b d e = d (omega arith)

module _ {ms fs : List ℕ} {a : Row} {x : Span} {release : Bool} (l : LaysAt ms fs a x release) where
  -- the minute in which it begins, and to be a point with it laid over or taken out
  abbrev begin : ℕ
  begin = max l.now x.from

  abbrev Point : ℕ → Type 0
  Point m = Real l.g l.now m

  -- its end gets a place
  pub end_ascends : Ascends ms a.at a.count x.until
  end_ascends = record { long = l.table.minutes_long; inside = l.inside; fit = omega (arith, l.fits); last = omega (arith, l.some) }

  module _ {b : Row} {ms₂ fs₂ : List ℕ} (u : Split ms fs a.count x.until b ms₂ fs₂) where
    table₂ : Table l.f l.now b.count ms₂ fs₂
    table₂ = u.same l.f l.now l.table l.until

    -- the span begins in a place of the last table
    begins : get_or ms₂ a.at 0 ≡ max l.now x.from
    begins = u.kept l.f l.now l.table a.at l.inside (omega (arith, l.some)) ∙ l.begins

    starts_before : max l.now x.from < x.until
    starts_before = omega (arith, l.begins, l.some)

    -- minutes of a place before, inside and after
    module _ (i t : ℕ) (h : i < b.count) (d : get_or ms₂ i 0 ≤ t) (e : i + 1 < b.count → t < get_or ms₂ (i + 1) 0) where
      from_now : l.now ≤ t
      from_now = omega (arith, table₂.first, table_rise table₂ 0 i (omega arith) h)

      takes_early : i < a.at → a.at < b.count → takes t x ≡ 0
      takes_early v w = takes_before t x (omega (arith, from_now, e (omega arith), table_rise table₂ (i + 1) a.at (omega arith) w, begins))

      takes_inside : a.at ≤ i → i < b.at → takes t x ≡ x.nodes
      takes_inside v w = takes_in t x (omega (arith, table_rise table₂ a.at i v h, begins))
          (omega (arith, e (omega (arith, u.inside)), table_rise table₂ (i + 1) b.at (omega arith) u.inside, u.minute))

      takes_late : b.at ≤ i → takes t x ≡ 0
      takes_late v = takes_after t x (omega (arith, table_rise table₂ b.at i v h, u.minute))

      old : l.f t ≡ get_or fs₂ i 0
      old = table₂.value i t h d e

    pub order : a.at < b.at
    order = go (le_or b.at a.at)
      where
        -- both lie in the table, or the later minute would not be the later
        go : (b.at ≤ a.at) ⊎ (a.at < b.at) → a.at < b.at
        go (inr v) = v
        go (inl v) = absurd (omega (arith, table_rise table₂ b.at a.at v (omega (arith, l.inside, u.grows)), begins, starts_before, u.minute))

    pub lay_adjustable : Adjustable fs₂ a.at b.at x.nodes release
    lay_adjustable = record {
      long = table₂.free_long;
      fit = omega (arith, u.inside, u.most, l.fits);
      room = λ j v w.
          let h : j < b.count = omega (arith, u.inside) in
          let e : j + 1 < b.count → get_or ms₂ j 0 < get_or ms₂ (j + 1) 0 = table₂.rise j in
          let k : takes (get_or ms₂ j 0) x ≡ x.nodes = takes_inside j (get_or ms₂ j 0) h (omega arith) e v w in
          let o : l.f (get_or ms₂ j 0) ≡ get_or fs₂ j 0 = old j (get_or ms₂ j 0) h (omega arith) e in
          subst (λ (m : ℕ). SpareNodes release m (get_or fs₂ j 0)) k
          (subst (λ (m : ℕ). SpareNodes release (takes (get_or ms₂ j 0) x) m) o (l.room (get_or ms₂ j 0) (from_now j (get_or ms₂ j 0) h (omega arith) e)));
    }

    -- what lies between has been changed
    table₃ : {fs₃ : List ℕ} → Adjusted fs₂ a.at b.at x.nodes release fs₃ → Table l.g l.now b.count ms₂ fs₃
    table₃ {fs₃} w = record {
      minutes_long = table₂.minutes_long;
      free_long = w.long ∙ table₂.free_long;
      some = table₂.some;
      first = table₂.first;
      low = table₂.low;
      rise = table₂.rise;
      value = λ i t h d e. go i t h d e (le_or a.at i) (le_or b.at i);
    }
      where
        go : (i t : ℕ) → i < b.count → get_or ms₂ i 0 ≤ t → (i + 1 < b.count → t < get_or ms₂ (i + 1) 0) → (a.at ≤ i) ⊎ (i < a.at) → (b.at ≤ i) ⊎ (i < b.at)
            → l.g t ≡ get_or fs₃ i 0
        go i t h d e (inr v) z = none release (takes t x) (l.change t (from_now i t h d e)) (takes_early i t h d e v (omega (arith, order, u.inside)))
            ∙ old i t h d e ∙ sym (w.before i v)
        go i t h d e (inl v) (inl z) = none release (takes t x) (l.change t (from_now i t h d e)) (takes_late i t h d e z)
            ∙ old i t h d e ∙ sym (w.after i v z)
        go i t h d e (inl v) (inr z) =
            l.change t (from_now i t h d e)
            ∙ ap (λ (k : ℕ). changed release k (l.f t)) (takes_inside i t h d e v z)
            ∙ ap (λ (k : ℕ). changed release x.nodes k) (old i t h d e)
            ∙ sym (w.inside i v z)

    -- where it neither begins nor ends, a point is a point
    real₃ : (m : ℕ) → Real l.f l.now m → Point m ⊎ ((m ≡ begin) ⊎ (m ≡ x.until))
    real₃ m (inl e) = inl (inl e)
    real₃ m (inr e) =
        case (eqb m x.from) (λ z. inr (inl (omega (arith, eqb-true m x.from z))))
        (λ y. case (eqb m x.until) (λ z. inr (inr (eqb-true m x.until z)))
        (λ z. inl (inr (e.0, apart (eqb-false m x.from y) (eqb-false m x.until z)))))
      where
        apart : m ≢ x.from → m ≢ x.until → l.g m ≢ l.g (m - 1)
        apart y z h =
            let k : takes m x ≡ takes (m - 1) x = takes_still (m - 1) m x (omega arith) (λ v. omega arith) (λ v. omega arith) in
            changed_apart release (takes m x) (l.f m) (l.f (m - 1)) (l.room m (omega arith))
            (subst (λ (c : ℕ). SpareNodes release c (l.f (m - 1))) (sym k) (l.room (m - 1) (omega arith))) e.1
            (sym (l.change m (omega arith)) ∙ h ∙ l.change (m - 1) (omega arith) ∙ ap (λ (c : ℕ). changed release c (l.f (m - 1))) (sym k))

    nearly₃ : (i : ℕ) → i < b.count → Point (get_or ms₂ i 0) ⊎ ((get_or ms₂ i 0 ≡ begin) ⊎ (get_or ms₂ i 0 ≡ x.until))
    nearly₃ i h = go (u.from i h)
      where
        go : (get_or ms₂ i 0 ≡ x.until) ⊎ Among ms a.count (get_or ms₂ i 0) → Point (get_or ms₂ i 0) ⊎ ((get_or ms₂ i 0 ≡ begin) ⊎ (get_or ms₂ i 0 ≡ x.until))
        go (inl e) = inr (inr e)
        go (inr e) = rw e.2 (up (l.nearly e.0 e.1))
          where
            up : {m : ℕ} → Real l.f l.now m ⊎ (m ≡ begin) → Point m ⊎ ((m ≡ begin) ⊎ (m ≡ x.until))
            up {m} (inl r) = real₃ m r
            up (inr r) = inr (inl r)

    module _ {fs₃ : List ℕ} (w : Adjusted fs₂ a.at b.at x.nodes release fs₃) where
      pub end_inside : Inside ms₂ fs₃ b.count b.at
      end_inside = record {
        minutes_long = table₂.minutes_long;
        free_long = (table₃ w).free_long;
        inside = u.inside;
        fit = omega (arith, u.most, l.fits);
      }

      -- the place of its end has left, or is a point
      module _ {r₄ : ℕ} {ms₄ fs₄ : List ℕ} (y : Joined ms₂ fs₃ b.count b.at r₄ ms₄ fs₄) where
        table₄ : Table l.g l.now r₄ ms₄ fs₄
        table₄ = y.same l.g l.now (table₃ w)

        nearly₄ : (i : ℕ) → i < r₄ → Point (get_or ms₄ i 0) ⊎ (get_or ms₄ i 0 ≡ begin)
        nearly₄ i h = go (joined_real y (λ (m : ℕ). (m ≡ begin) ⊎ (m ≡ x.until)) l.g l.now (table₃ w) nearly₃ i h)
          where
            m : ℕ
            m = get_or ms₄ i 0

            go : Point m ⊎ (((m ≡ begin) ⊎ (m ≡ x.until)) × (m ≢ get_or ms₂ b.at 0)) → Point m ⊎ (m ≡ begin)
            go (inl z) = inl z
            go (inr z) = up z.0
              where
                up : (m ≡ begin) ⊎ (m ≡ x.until) → Point m ⊎ (m ≡ begin)
                up (inl v) = inr v
                up (inr v) = absurd (z.1 (v ∙ sym u.minute))

        pub begin_inside : Inside ms₄ fs₄ r₄ a.at
        begin_inside = record {
          minutes_long = table₄.minutes_long;
          free_long = table₄.free_long;
          inside = omega (arith, y.least, order);
          fit = omega (arith, y.most, u.most, l.fits);
        }

        begins₄ : get_or ms₄ a.at 0 ≡ begin
        begins₄ = (y.before a.at order).0 ∙ begins

        -- and so has that of its begin, or is one
        pub laid_at : {r₅ : ℕ} {ms₅ fs₅ : List ℕ} → Joined ms₄ fs₄ r₄ a.at r₅ ms₅ fs₅ → LaidAt l r₅ ms₅ fs₅
        laid_at {r₅} {ms₅} {fs₅} v = record {
          kept = record {
            table = v.same l.g l.now table₄;
            real = λ i h. go i (joined_real v (λ (m : ℕ). m ≡ begin) l.g l.now table₄ nearly₄ i h);
          };
          before = λ j h.
              let p = v.before j h in
              let q = y.before j (omega (arith, order)) in
              let z = u.before j (omega (arith, order)) in
              (p.0 ∙ q.0 ∙ z.0, p.1 ∙ q.1 ∙ w.before j h ∙ z.1);
          new = v.least;
        }
          where
            go : (i : ℕ) → Point (get_or ms₅ i 0) ⊎ ((get_or ms₅ i 0 ≡ begin) × (get_or ms₅ i 0 ≢ get_or ms₄ a.at 0)) → Point (get_or ms₅ i 0)
            go i (inl z) = z
            go i (inr z) = absurd (z.1 (z.0 ∙ sym begins₄))
