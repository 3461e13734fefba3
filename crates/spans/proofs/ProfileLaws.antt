-- The profile: its points are those of document 01's sentence, there are at most 1 + 2 × (number of spans), and it depends on the
-- free nodes alone.
-- Assumes nothing.
use Rattle.std.specs.Prelude.{ℕ, zero, suc, ◌+◌, ◌-◌, ◌*◌, max, ◌≤◌, ◌<◌, ◌≡◌, refl, true, false, not, List, [], ◌∷◌, ◌++◌, map, ◌⊎◌, ◌≢◌, eqb, length}
use Rattle.std.proofs.Common.{arith, sym, ap, subst, ◌∙◌, append-nil, ⊎_elim}
use Rattle.std.proofs.lemmas.List.{map-append, length-map}
use Rattle.std.proofs.Math.Logic.{inl, inr}
use borrow.Author.Tests.{eqb-true, eqb-false, eq-eqb, ne_eqb, not-true, not-false}
use Rattle.lists.specs.Tests.{case, on, on_le, neither, le_or}
use Rattle.lists.specs.Lists.{keep, sum, All, In, here, there, in_nil, all_of, all_keep, in_map, map_in}
use Rattle.lists.specs.Lists.{keep_in, in_keep, keep_append, keep_cong, keep_none, sum_le, sum_zero, length_keep}
use Rattle.spans.specs.declared.Span.{Span}
use Rattle.spans.specs.declared.Point.{Point}
use Rattle.spans.specs.Spans.{takes, used, free, last_end, point, minutes, changes, points, profile, IsPoint, Ascend, Profile}
use Rattle.spans.proofs.UsedNodes.{takes_still, used_last}

-- Minutes

in_minutes : (a k : ℕ) {t : ℕ} → In t (minutes a k) → (a ≤ t) × (t < a + k)
in_minutes a zero i = in_nil i
in_minutes a (suc k) (here e) = (omega arith, omega arith)
in_minutes a (suc k) (there i) = let r = in_minutes (suc a) k i in (omega arith, omega arith)

minutes_in : (a k t : ℕ) → a ≤ t → t < a + k → In t (minutes a k)
minutes_in a zero t l h = absurd (omega arith)
minutes_in a (suc k) t l h = case (eqb t a) (λ e. here (eqb-true t a e)) (λ e. there (minutes_in (suc a) k t (omega (arith, eqb-false t a e)) (omega arith)))

minutes_append : (a k j : ℕ) → minutes a (k + j) ≡ minutes a k ++ minutes (a + k) j
minutes_append a zero j =
    let p : a + 0 ≡ a = omega arith in
    let q : 0 + j ≡ j = omega arith in
    rw (p, q)
minutes_append a (suc k) j =
    let p : suc k + j ≡ suc (k + j) = omega arith in
    let q : a + suc k ≡ suc a + k = omega arith in
    rw (p, q, minutes_append (suc a) k j)

-- Which minutes are points

module _ (f : ℕ → ℕ) (now t : ℕ) (l : now ≤ t) where
  changes_true : changes f now t ≡ true → (t ≡ now) ⊎ ((now < t) × (f t ≢ f (t - 1)))
  unfolding changes
  changes_true e =
      case (eqb t now) (λ q. inl (eqb-true t now q))
      (λ q. inr (omega (arith, eqb-false t now q), eqb-false (f t) (f (t - 1)) (not-true _ (rw q at e))))

  pub true_changes : (t ≡ now) ⊎ ((now < t) × (f t ≢ f (t - 1))) → changes f now t ≡ true
  unfolding changes
  true_changes (inl e) = rw (eq-eqb t now e)
  true_changes (inr p) = rw (ne_eqb t now (λ e. omega arith), ne_eqb (f t) (f (t - 1)) p.1)

  pub changes_false : changes f now t ≡ false → (now < t) × (f t ≡ f (t - 1))
  unfolding changes
  changes_false e =
      let p = neither (eqb t now) (not (eqb (f t) (f (t - 1)))) e in
      (omega (arith, eqb-false t now p.0), eqb-true (f t) (f (t - 1)) (not-false _ p.1))

  false_changes : (now < t) × (f t ≡ f (t - 1)) → changes f now t ≡ false
  unfolding changes
  false_changes p = rw (ne_eqb t now (λ q. omega arith), eq-eqb (f t) (f (t - 1)) p.1)

-- The points of the k minutes from now on

module _ (f : ℕ → ℕ) (now : ℕ) where
  pub points_append : (k j : ℕ) → points f now (k + j) ≡ points f now k ++ map (point f) (keep (changes f now) (minutes (now + k) j))
  unfolding points
  points_append k j = rw (minutes_append now k j, keep_append, map-append)

  -- while nothing changes no point is added
  pub points_still : (a b : ℕ) → now ≤ a → a < b → ((t : ℕ) → a ≤ t → t < b → f t ≡ f a) → points f now (b - now) ≡ points f now (suc a - now)
  points_still a b l h c =
      let k : ℕ = suc a - now in
      let j : ℕ = b - suc a in
      let e : b - now ≡ k + j = omega arith in
      let none : keep (changes f now) (minutes (now + k) j) ≡ [] =
      keep_none (changes f now) (minutes (now + k) j) (λ t i. quiet t (in_minutes (now + k) j i)) in
      rw (e, points_append k j, none) (append-nil (points f now k))
    where
      quiet : (t : ℕ) → (now + (suc a - now) ≤ t) × (t < now + (suc a - now) + (b - suc a)) → changes f now t ≡ false
      quiet t r = false_changes f now t (omega arith) (omega arith, c t (omega arith) (omega arith) ∙ sym (c (t - 1) (omega arith) (omega arith)))

-- functions that agree from now on have the same points
pub points_same : (f g : ℕ → ℕ) (now k : ℕ) → ((t : ℕ) → now ≤ t → f t ≡ g t) → points f now k ≡ points g now k
unfolding points changes
points_same f g now k e =
    ap (λ l. map (point f) l) (keep_cong (changes f now) (changes g now) (minutes now k) (λ t i. test t (in_minutes now k i).0))
    ∙ values (keep (changes g now) (minutes now k))
    (all_keep Agree (changes g now) (minutes now k) (all_of Agree (minutes now k) (λ t i. e t (in_minutes now k i).0)))
  where
    Agree : ℕ → Type 0
    Agree t = f t ≡ g t

    values : (l : List ℕ) → All Agree l → map (point f) l ≡ map (point g) l
    values [] a = refl
    values (t ∷ l) a = rw (a.0, values l a.1)

    test : (t : ℕ) → now ≤ t → changes f now t ≡ changes g now t
    test t l = case (eqb t now) (λ q. rw q) (λ q. let h : now ≤ t - 1 = omega (arith, eqb-false t now q) in rw (q, e t l, e (t - 1) h))

-- The whole profile

-- any number of minutes past the last end gives it
pub profile_to : (N : ℕ) (xs : List Span) (now k : ℕ) → last_end xs < now + k → 1 ≤ k → profile N xs now ≡ points (free N xs) now k
unfolding profile
profile_to N xs now k h l =
    let a : ℕ = max now (last_end xs) in
    let p : suc (last_end xs - now) ≡ suc a - now = omega arith in
    let q : k ≡ now + k - now = omega arith in
    rw (p, q)
    (sym (points_still (free N xs) now a (now + k) (omega arith) (omega arith)
    (λ t b c. omega (arith, used_last t xs (omega arith), used_last a xs (omega arith)))))

-- spans count by what they take, so those that take the same from now on have the same profile
pub profile_same : (N : ℕ) (xs ys : List Span) (now : ℕ) → ((t : ℕ) → now ≤ t → used t xs ≡ used t ys) → profile N xs now ≡ profile N ys now
profile_same N xs ys now e =
    let k : ℕ = suc (last_end xs + last_end ys) in
    profile_to N xs now k (omega arith) (omega arith)
    ∙ points_same (free N xs) (free N ys) now k (λ t l. omega (arith, e t l))
    ∙ sym (profile_to N ys now k (omega arith) (omega arith))

-- with no spans there is the point of now alone
pub profile_none : (N now : ℕ) → profile N [] now ≡ (record { minute = now; free = N } ∷ [])
unfolding profile points last_end
profile_none N now =
    let e : 0 - now ≡ 0 = omega arith in
    let v : N - 0 ≡ N = omega arith in
    rw (e, true_changes (free N []) now now (omega arith) (inl refl), v)

-- the profile has exactly the points of document 01's sentence, in order
pub profile_is : (N : ℕ) (xs : List Span) (now : ℕ) → Profile (free N xs) now (profile N xs now)
unfolding profile points
profile_is N xs now = record {
  real = λ p i. real p (map_in (point f) (keep (changes f now) ms) i);
  complete = λ p q. complete p q;
  ascending = rising k now;
}
  where
    f : ℕ → ℕ
    f = free N xs

    k : ℕ
    k = suc (last_end xs - now)

    ms : List ℕ
    ms = minutes now k

    real : (p : Point) → (t : ℕ) × In t (keep (changes f now) ms) × (p ≡ point f t) → IsPoint f now p
    real p r =
        let i = keep_in (changes f now) ms r.1 in
        rw r.2 (refl, changes_true f now r.0 (in_minutes now k i.0).0 i.1)

    -- past the last end nothing changes
    within : (t : ℕ) → (t ≡ now) ⊎ ((now < t) × (f t ≢ f (t - 1))) → (now ≤ t) × (t < now + k)
    within t (inl e) = (omega arith, omega arith)
    within t (inr e) = (omega arith, by (le_or t (last_end xs)))
      where
        by : (t ≤ last_end xs) ⊎ (last_end xs < t) → t < now + k
        by (inl q) = omega arith
        by (inr q) = absurd (e.1 (omega (arith, used_last t xs (omega arith), used_last (t - 1) xs (omega arith))))

    complete : (p : Point) → IsPoint f now p → In p (map (point f) (keep (changes f now) ms))
    complete p q =
        let t : ℕ = p.minute in
        let w : (now ≤ t) × (t < now + k) = within t q.1 in
        let e : p ≡ point f t = ap (λ v. record { minute = t; free = v }) q.0 in
        subst (λ (r : Point). In r (map (point f) (keep (changes f now) ms))) (sym e)
        (in_map (point f) (in_keep (changes f now) (minutes_in now k t w.0 w.1) (true_changes f now t w.0 q.1)))

    earlier : (a : ℕ) (ps : List Point) → Ascend (suc a) ps → Ascend a ps
    earlier a [] s = tt
    earlier a (p ∷ ps) s = (omega arith, s.1)

    rising : (j a : ℕ) → Ascend a (map (point f) (keep (changes f now) (minutes a j)))
    rising zero a = tt
    rising (suc j) a =
        case (changes f now a) (λ e. rw e (omega arith, rising j (suc a)))
        (λ e. rw e (earlier a (map (point f) (keep (changes f now) (minutes (suc a) j))) (rising j (suc a))))

-- no point lies before now, nor past the last end
pub profile_within : (N : ℕ) (xs : List Span) (now : ℕ) {p : Point} → In p (profile N xs now) → (now ≤ p.minute) × (p.minute ≤ max now (last_end xs))
unfolding profile points
profile_within N xs now i =
    let k : ℕ = suc (last_end xs - now) in
    let f : ℕ → ℕ = free N xs in
    let r = map_in (point f) (keep (changes f now) (minutes now k)) i in
    let w = in_minutes now k (keep_in (changes f now) (minutes now k) r.1).0 in
    rw r.2 (omega arith, omega arith)

-- How many points

sum_plus : (f g : ℕ → ℕ) (l : List ℕ) → sum (λ (t : ℕ). f t + g t) l ≡ sum f l + sum g l
sum_plus f g [] = refl
sum_plus f g (t ∷ l) = omega (arith, sum_plus f g l)

-- a minute is met at most once
once : (c k a : ℕ) → sum (λ (t : ℕ). on (eqb t c) 1) (minutes a k) ≤ 1
once c zero a = omega arith
once c (suc k) a = case (eqb a c) (λ e. rw e (omega (arith, passed (eqb-true a c e)))) (λ e. rw e (omega (arith, once c k (suc a))))
  where
    passed : a ≡ c → sum (λ (t : ℕ). on (eqb t c) 1) (minutes (suc a) k) ≡ 0
    passed e = sum_zero (λ (t : ℕ). on (eqb t c) 1) (minutes (suc a) k) (λ t i. rw (ne_eqb t c (λ q. omega (arith, in_minutes (suc a) k i))))

-- a span adds no point but where it begins and where it ends
one_more : (N : ℕ) (x : Span) (xs : List Span) (now t : ℕ) → now ≤ t
    → on (changes (free N (x ∷ xs)) now t) 1 ≤ on (changes (free N xs) now t) 1 + (on (eqb t x.from) 1 + on (eqb t x.until) 1)
one_more N x xs now t l =
    let most = on_le (changes (free N (x ∷ xs)) now t) 1 in
    case (changes f now t) (λ a. rw a (omega arith))
    (λ a. case (eqb t x.from) (λ b. rw b (omega arith)) (λ b. case (eqb t x.until) (λ c. rw c (omega arith)) (λ c. rw (none a b c) (omega arith))))
  where
    f : ℕ → ℕ
    f = free N xs

    none : changes f now t ≡ false → eqb t x.from ≡ false → eqb t x.until ≡ false → changes (free N (x ∷ xs)) now t ≡ false
    none a b c =
        let p = changes_false f now t l a in
        let u = eqb-false t x.from b in
        let w = eqb-false t x.until c in
        let e : takes t x ≡ takes (t - 1) x = takes_still (t - 1) t x (omega arith) (λ q. omega arith) (λ q. omega arith) in
        false_changes (free N (x ∷ xs)) now t l (p.0, omega arith)

-- so there are one point for now and two for each span
pub points_length : (N : ℕ) (xs : List Span) (now k : ℕ) → length (points (free N xs) now k) ≤ 1 + 2 * length xs
unfolding points
points_length N xs now k =
    omega (
      arith,
      length-map (keep (changes (free N xs) now) (minutes now k)) (point (free N xs)),
      length_keep (changes (free N xs) now) (minutes now k),
      count xs,
    )
  where
    mark : List Span → ℕ → ℕ
    mark xs t = on (changes (free N xs) now t) 1

    at : ℕ → ℕ → ℕ
    at c t = on (eqb t c) 1

    alone : (t : ℕ) → now ≤ t → mark [] t ≤ at now t
    alone t l =
        case (eqb t now) (λ e. rw e (on_le (changes (free N []) now t) 1))
        (λ e. rw (false_changes (free N []) now t l (omega (arith, eqb-false t now e), refl)) (omega arith))

    count : (xs : List Span) → sum (mark xs) (minutes now k) ≤ 1 + 2 * length xs
    count [] = omega (arith, once now k now, sum_le (mark []) (at now) (minutes now k) (λ t i. alone t (in_minutes now k i).0))
    count (x ∷ xs) =
        let ends : ℕ → ℕ = λ t. at x.from t + at x.until t in
        omega (
          arith,
          sum_le (mark (x ∷ xs)) (λ (t : ℕ). mark xs t + ends t) (minutes now k) (λ t i. one_more N x xs now t (in_minutes now k i).0),
          sum_plus (mark xs) ends (minutes now k),
          sum_plus (at x.from) (at x.until) (minutes now k),
          once x.from k now,
          once x.until k now,
          count xs,
        )

pub profile_length : (N : ℕ) (xs : List Span) (now : ℕ) → length (profile N xs now) ≤ 1 + 2 * length xs
unfolding profile
profile_length N xs now = points_length N xs now (suc (last_end xs - now))

-- free nodes that agree from now on have the same points
point_same : (f g : ℕ → ℕ) (now : ℕ) (p : Point) → ((t : ℕ) → now ≤ t → f t ≡ g t) → IsPoint f now p → IsPoint g now p
point_same f g now p same i =
    let low : now ≤ p.minute = ⊎_elim (λ (q : p.minute ≡ now). omega arith)
    (λ (q : (now < p.minute) × (f p.minute ≢ f (p.minute - 1))). omega (arith, q.0)) i.1 in (
      i.0 ∙ same p.minute low,
      ⊎_elim
          (λ (q : p.minute ≡ now). inl q)
          (λ (q : (now < p.minute) × (f p.minute ≢ f (p.minute - 1))). inr
          (q.0, λ z. q.1 (same p.minute low ∙ z ∙ sym (same (p.minute - 1) (omega (arith, q.0))))))
          i.1,
    )

pub profile_agrees : {f g : ℕ → ℕ} (now : ℕ) (ps : List Point) → ((t : ℕ) → now ≤ t → f t ≡ g t) → Profile f now ps → Profile g now ps
profile_agrees {f} {g} now ps same r = record {
  real = λ p i. point_same f g now p same (r.real p i);
  complete = λ p i. r.complete p (point_same g f now p (λ t h. sym (same t h)) i);
  ascending = r.ascending;
}
