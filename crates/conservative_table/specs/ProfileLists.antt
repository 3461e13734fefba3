-- The lists are the profile, point for point; and that is the same as to be a table each of whose minutes is a point.
-- Assumes nothing.
use Rattle.std.specs.Prelude.{ℕ, zero, suc, ◌+◌, ◌-◌, ◌*◌, max, ◌≤◌, ◌<◌, ◌≡◌, refl, true, false, List, [], ◌∷◌, ◌++◌, ◌⊎◌, eqb, get_or, length}
use Rattle.std.proofs.Common.{arith, add-one, sym, ap, subst, ◌∙◌, inl, inr, eqb-true}
use Rattle.std.proofs.lemmas.Bool.{eqb-false}
use Rattle.lists.specs.Lists.{In, here, in_nil, in_cons, in_left, in_right, in_append}
use Rattle.lists.specs.Tests.{case, le_or}
use Rattle.scheduler.specs.Limits.{horizon, max_nodes, slots}
use Rattle.spans.specs.declared.Span.{Span}
use Rattle.spans.specs.declared.Point.{Point}
use Rattle.spans.specs.Spans.{takes, used, free, last_end, point, profile, IsPoint, Ascend, Profile}
use Rattle.spans.proofs.UsedNodes.{free_less, free_more}
use Rattle.spans.proofs.ProfileLaws.{profile_is, profile_within, profile_length, profile_none, profile_same}
use Rattle.conservative_table.specs.ListChanges.{rows}
use Rattle.conservative_table.specs.declared.Row.{Row}
use Rattle.conservative_table.specs.Table.{Before}
use Rattle.conservative_table.specs.Points.{Real, Kept, point_at, points_of, length_points_of, at_points_of, kept_profile}
use Rattle.conservative_table.specs.LaidSpans.{Lays, Laid}
use Rattle.conservative_table.specs.Advance.{Advances}

-- the first n places of the two lists are the points of the profile
pub record IsProfile (machine : ℕ) (spans : List Span) (now n : ℕ) (ms fs : List ℕ) : Type 0 where
  pub minutes_long : length ms ≡ rows
  pub free_long : length fs ≡ rows
  pub points : points_of ms fs n ≡ profile machine spans now

pub kept_exact : (N : ℕ) (xs : List Span) {now n : ℕ} {ms fs : List ℕ} → Kept (free N xs) now n ms fs → IsProfile N xs now n ms fs
kept_exact N xs q = record { minutes_long = q.table.minutes_long; free_long = q.table.free_long; points = kept_profile N xs q }

pub exact_few : {N : ℕ} {xs : List Span} {now n : ℕ} {ms fs : List ℕ} → IsProfile N xs now n ms fs → n ≤ 1 + 2 * length xs
exact_few {N} {xs} {now} {n} {ms} {fs} q = omega (arith, length_points_of ms fs n, ap length q.points, profile_length N xs now)

-- a point of the first n places, and its place
place_in : (ms fs : List ℕ) (n i : ℕ) → i < n → In (point_at ms fs i) (points_of ms fs n)
unfolding points_of
place_in ms fs zero i l = absurd (omega arith)
place_in ms fs (suc n) i l = go (le_or n i) (λ h. place_in ms fs n i h)
  where
    go : (n ≤ i) ⊎ (i < n) → (i < n → In (point_at ms fs i) (points_of ms fs n)) → In (point_at ms fs i) (points_of ms fs n ++ (point_at ms fs n ∷ []))
    go (inl h) f = let e : i ≡ n = omega arith in in_right (points_of ms fs n) (here (ap (point_at ms fs) e))
    go (inr h) f = in_left (point_at ms fs n ∷ []) (f h)

in_place : (ms fs : List ℕ) (n : ℕ) {p : Point} → In p (points_of ms fs n) → (i : ℕ) × (i < n) × (p ≡ point_at ms fs i)
unfolding points_of
in_place ms fs zero i = in_nil i
in_place ms fs (suc n) {p} i = go (in_append (points_of ms fs n) i) (λ k. in_place ms fs n k)
  where
    go : In p (points_of ms fs n) ⊎ In p (point_at ms fs n ∷ []) → (In p (points_of ms fs n) → (i : ℕ) × (i < n) × (p ≡ point_at ms fs i))
        → (i : ℕ) × (i < suc n) × (p ≡ point_at ms fs i)
    go (inl k) f = let r = f k in (r.0, omega (arith, r.1), r.2)
    go (inr k) f = up (in_cons k)
      where
        up : (p ≡ point_at ms fs n) ⊎ In p [] → (i : ℕ) × (i < suc n) × (p ≡ point_at ms fs i)
        up (inl e) = (n, omega arith, e)
        up (inr e) = in_nil e

-- each point of an ascending list is later than the one before
rises : (a : ℕ) (ps : List Point) (i : ℕ) (z : Point) → Ascend a ps → suc i < length ps → (get_or ps i z).minute < (get_or ps (suc i) z).minute
rises a [] i z s l = absurd (omega arith)
rises a (p ∷ []) i z s l = absurd (omega arith)
rises a (p ∷ q ∷ ps) zero z s l = s.1.0
rises a (p ∷ q ∷ ps) (suc i) z s l = rises (suc p.minute) (q ∷ ps) i z s.1 (omega arith)

module _ {N : ℕ} {xs : List Span} {now n : ℕ} {ms fs : List ℕ} (q : IsProfile N xs now n ms fs) (clock : now ≤ horizon) (ends : last_end xs ≤ horizon) where
  abbrev f : ℕ → ℕ
  f = free N xs

  is : Profile f now (profile N xs now)
  is = profile_is N xs now

  inside : (i : ℕ) → i < n → In (point_at ms fs i) (profile N xs now)
  inside i l = subst (λ (ps : List Point). In (point_at ms fs i) ps) q.points (place_in ms fs n i l)

  place : (p : Point) → IsPoint f now p → (i : ℕ) × (i < n) × (p ≡ point_at ms fs i)
  place p u = in_place ms fs n (subst (λ (ps : List Point). In p ps) (sym q.points) (is.complete p u))

  real : (i : ℕ) → i < n → Real f now (get_or ms i 0)
  real i l = (is.real (point_at ms fs i) (inside i l)).1

  here_is : (i : ℕ) → i < n → f (get_or ms i 0) ≡ get_or fs i 0
  here_is i l = sym (is.real (point_at ms fs i) (inside i l)).0

  rise : (i : ℕ) → i + 1 < n → get_or ms i 0 < get_or ms (i + 1) 0
  rise i l =
      let z : Point = point_at ms fs 0 in
      let r = rises now (points_of ms fs n) i z (rw q.points is.ascending) (omega (arith, length_points_of ms fs n)) in
      omega (
        arith,
        r,
        ap (λ (p : Point). p.minute) (at_points_of ms fs n i z (omega arith)),
        ap (λ (p : Point). p.minute) (at_points_of ms fs n (suc i) z (omega arith)),
        ap (λ (k : ℕ). get_or ms k 0) (add-one i),
      )

  rise_on : (i j : ℕ) → i ≤ j → j < n → get_or ms i 0 ≤ get_or ms j 0
  rise_on i zero l h = let e : i ≡ 0 = omega arith in omega (arith, ap (λ (k : ℕ). get_or ms k 0) e)
  rise_on i (suc j) l h = go (λ k. rise_on i j k (omega arith)) (le_or i j)
    where
      go : (i ≤ j → get_or ms i 0 ≤ get_or ms j 0) → (i ≤ j) ⊎ (j < i) → get_or ms i 0 ≤ get_or ms (suc j) 0
      go g (inl k) = let e : j + 1 ≡ suc j = omega arith in omega (arith, g k, rise j (omega arith), ap (λ (m : ℕ). get_or ms m 0) e)
      go g (inr k) = let e : i ≡ suc j = omega arith in omega (arith, ap (λ (m : ℕ). get_or ms m 0) e)

  first : (1 ≤ n) × (get_or ms 0 0 ≡ now)
  first =
      let r = place (point f now) (refl, inl refl) in
      let e : now ≡ get_or ms r.0 0 = ap (λ (p : Point). p.minute) r.2 in
      let l : 0 < n = omega (arith, r.1) in
      (l, omega (arith, e, rise_on 0 r.0 (omega arith) r.1, profile_within N xs now (inside 0 l)))

  -- between two points nothing changes
  value : (k i t : ℕ) → i < n → t ≡ get_or ms i 0 + k → (i + 1 < n → t < get_or ms (i + 1) 0) → f t ≡ get_or fs i 0
  value zero i t l e h = ap f (omega (arith, e)) ∙ here_is i l
  value (suc k) i t l e h =
      case (eqb (f t) (f (t - 1)))
      (λ z. eqb-true (f t) (f (t - 1)) z ∙ value k i (t - 1) l (omega arith) (λ j. omega (arith, h j)))
      (λ z. absurd (between (place (point f t) (refl, inr (omega (arith, first.1, rise_on 0 i (omega arith) l), eqb-false (f t) (f (t - 1)) z)))))
    where
      between : (j : ℕ) × (j < n) × (point f t ≡ point_at ms fs j) → ⊥
      between r = go (le_or r.0 i)
        where
          m : t ≡ get_or ms r.0 0
          m = ap (λ (p : Point). p.minute) r.2

          go : (r.0 ≤ i) ⊎ (i < r.0) → ⊥
          go (inl u) = omega (arith, m, rise_on r.0 i u l)
          go (inr u) = omega (arith, m, h (omega (arith, r.1)), rise_on (i + 1) r.0 (omega arith) r.1)

  pub exact_kept : Kept f now n ms fs
  exact_kept = record {
    table = record {
      minutes_long = q.minutes_long;
      free_long = q.free_long;
      some = first.0;
      first = first.1;
      low = λ i l. omega (arith, profile_within N xs now (inside i l));
      rise = rise;
      value = λ i t l a b. value (t - get_or ms i 0) i t l (omega arith) b;
    };
    real = real;
  }

-- A span can be laid over a profile: there is room for it, and for one more of the 64. The minute of place a is not later than its begin.
pub record Laying (ms fs : List ℕ) (a n : ℕ) (x : Span) : Type 0 where
  pub machine : ℕ
  pub spans : List Span
  pub now : ℕ
  pub profile : IsProfile machine spans now n ms fs
  pub few : length spans < slots
  pub clock : now ≤ horizon
  pub ends : last_end spans ≤ horizon
  pub until : x.until ≤ horizon
  pub room : (t : ℕ) → now ≤ t → takes t x + used t spans ≤ machine
  pub near_in : a < n
  pub near_to : get_or ms a 0 ≤ max now x.from

-- A span can be taken out: it is among the spans, whose others are given.
pub record Lifting (ms fs : List ℕ) (a n : ℕ) (x : Span) : Type 0 where
  pub machine : ℕ
  pub spans : List Span
  pub others : List Span
  pub now : ℕ
  pub profile : IsProfile machine spans now n ms fs
  pub few : length spans ≤ slots
  pub machine_to : machine ≤ max_nodes
  pub clock : now ≤ horizon
  pub ends : last_end spans ≤ horizon
  pub until : x.until ≤ horizon
  pub room : (t : ℕ) → now ≤ t → used t spans ≤ machine
  pub among : (t : ℕ) → now ≤ t → used t spans ≡ takes t x + used t others
  pub near_in : a < n
  pub near_to : get_or ms a 0 ≤ max now x.from

-- The profile has become this one by the change of x, and the places before r are as they were: those of minutes before x are among them.
pub record Changed (machine : ℕ) (spans : List Span) (now : ℕ) (x : Span) (ms fs : List ℕ) (n : ℕ) (r : Row) (ms' fs' : List ℕ) : Type 0 where
  pub profile : IsProfile machine spans now r.count ms' fs'
  pub before : Before r.at ms fs ms' fs'
  pub old : r.at ≤ n
  pub new : r.at ≤ r.count
  pub early : (j : ℕ) → j < n → get_or ms j 0 < x.from → j < r.at

module _ {ms fs : List ℕ} {a n : ℕ} {x : Span} where
  pub laying : Laying ms fs a n x → Lays ms fs a n x false
  laying l = record {
    f = free l.machine l.spans;
    g = free l.machine (x ∷ l.spans);
    now = l.now;
    kept = exact_kept l.profile l.clock l.ends;
    change = λ t a. free_less t l.machine x l.spans (x ∷ l.spans) refl;
    room = λ t a. omega (arith, l.room t a);
    until = l.until;
    near_in = l.near_in;
    near_to = l.near_to;
    fits = omega (arith, exact_few l.profile, l.few);
  }

  pub laid_over : (l : Laying ms fs a n x) {r : Row} {ms' fs' : List ℕ} → ((k : Lays ms fs a n x false) → Laid k r ms' fs')
      → Changed l.machine (x ∷ l.spans) l.now x ms fs n r ms' fs'
  unfolding laying
  laid_over l k =
      let d = k (laying l) in
      record { profile = kept_exact l.machine (x ∷ l.spans) d.kept; before = d.before; old = d.old; new = d.new; early = d.early }

  pub lifting : Lifting ms fs a n x → Lays ms fs a n x true
  lifting l = record {
    f = free l.machine l.spans;
    g = free l.machine l.others;
    now = l.now;
    kept = exact_kept l.profile l.clock l.ends;
    change = λ t a. free_more t l.machine x l.spans l.others (l.among t a) (l.room t a);
    room = λ t a. omega (arith, l.room t a, l.among t a, l.machine_to);
    until = l.until;
    near_in = l.near_in;
    near_to = l.near_to;
    fits = omega (arith, exact_few l.profile, l.few);
  }

  pub lifted_out : (l : Lifting ms fs a n x) {r : Row} {ms' fs' : List ℕ} → ((k : Lays ms fs a n x true) → Laid k r ms' fs')
      → Changed l.machine l.others l.now x ms fs n r ms' fs'
  unfolding lifting
  lifted_out l k =
      let d = k (lifting l) in
      record { profile = kept_exact l.machine l.others d.kept; before = d.before; old = d.old; new = d.new; early = d.early }

-- The clock can move on.
pub record Advancing (ms fs : List ℕ) (n t : ℕ) : Type 0 where
  pub machine : ℕ
  pub spans : List Span
  pub now : ℕ
  pub profile : IsProfile machine spans now n ms fs
  pub few : length spans ≤ slots
  pub clock : now ≤ horizon
  pub ends : last_end spans ≤ horizon
  pub later : now ≤ t
  pub until : t ≤ horizon

pub advancing : {ms fs : List ℕ} {n t : ℕ} → Advancing ms fs n t → Advances ms fs n t
advancing l = record {
  f = free l.machine l.spans;
  now = l.now;
  kept = exact_kept l.profile l.clock l.ends;
  fit = omega (arith, exact_few l.profile, l.few);
  later = l.later;
  until = l.until;
}

pub advanced_on : {ms fs : List ℕ} {n t : ℕ} (l : Advancing ms fs n t) {r : ℕ} {ms' fs' : List ℕ} → ((k : Advances ms fs n t) → Kept k.f t r ms' fs')
    → IsProfile l.machine l.spans t r ms' fs'
unfolding advancing
advanced_on l k = kept_exact l.machine l.spans (k (advancing l))

-- spans that are over by now may be left out
pub exact_same : {N : ℕ} {xs : List Span} (ys : List Span) {now n : ℕ} {ms fs : List ℕ} → IsProfile N xs now n ms fs
    → ((t : ℕ) → now ≤ t → used t xs ≡ used t ys) → IsProfile N ys now n ms fs
exact_same {N} {xs} ys {now} q e = record {
  minutes_long = q.minutes_long;
  free_long = q.free_long;
  points = q.points ∙ profile_same N xs ys now e;
}

pub idle_exact : (N now : ℕ) {ms fs : List ℕ} → length ms ≡ rows → length fs ≡ rows → get_or ms 0 0 ≡ now → get_or fs 0 0 ≡ N → IsProfile N [] now 1 ms fs
unfolding points_of
idle_exact N now a b m v = record { minutes_long = a; free_long = b; points = rw (m, v) (sym (profile_none N now)) }
