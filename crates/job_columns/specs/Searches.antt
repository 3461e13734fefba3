-- What searches and counts over columns give.
-- Assumes nothing.
use Rattle.std.specs.Prelude.{ℕ, zero, suc, ◌+◌, ◌≤◌, ◌<◌, min, ◌≡◌, ◌==◌, refl, Bool, true, false, List, [], ◌∷◌, ◌++◌, ◌⊎◌, eqb, length, get_or, map, count_by, filter}
use Rattle.std.proofs.lemmas.List.Sums.{length-filter}
use Rattle.std.proofs.Common.{arith, sym, ap, ◌∙◌, inl, inr, eq-eqb, ne_eqb}
use Rattle.std.proofs.Math.Option.{Option, none, some}
use Rattle.lists.specs.Tests.{le_or, case}
use Rattle.lists.specs.Lists.{keep, In, here, there, in_getD}
use Rattle.lists.specs.Loops.{position_from, position, position_says}
use Rattle.scheduler.specs.declared.Job.{Job}
use Rattle.scheduler.specs.Jobs.{unused}
use Rattle.jobs.specs.Order.{Asc, asc_in}

-- ## A place

-- the index found, and k where there is none
abbrev pub place_of : Option ℕ → ℕ → ℕ
place_of none k = k
place_of (some i) k = i

pub place_some : (o : Option ℕ) (k r : ℕ) → r ≡ place_of o k → r < k → o ≡ some r
place_some none k r e l = absurd (omega arith)
place_some (some i) k r e l = ap some (sym e)

module _ {A : Type 0} (z : A) (p : A → Bool) where
  -- none before it passes, and it does
  pub position_first : (xs : List A) (k i : ℕ) → i < length xs → ((n : ℕ) → n < i → p (get_or xs n z) ≡ false) → p (get_or xs i z) ≡ true
      → position_from p k xs ≡ some (k + i)
  position_first [] k i l f t = absurd (omega arith)
  position_first (x ∷ xs) k zero l f t = let e : k ≡ k + 0 = omega arith in rw t (ap some e)
  position_first (x ∷ xs) k (suc i) l f t =
      let e : k + 1 + i ≡ k + suc i = omega arith in
      rw (f 0 (omega arith)) (position_first xs (k + 1) i (omega arith) (λ n h. f (suc n) (omega arith)) t ∙ ap some e)

  pub position_nowhere : (xs : List A) (k : ℕ) → ((n : ℕ) → n < length xs → p (get_or xs n z) ≡ false) → position_from p k xs ≡ none
  position_nowhere [] k f = refl
  position_nowhere (x ∷ xs) k f = rw (f 0 (omega arith)) (position_nowhere xs (k + 1) (λ n h. f (suc n) (omega arith)))

  pub place_none : (xs : List A) (k r : ℕ) → r ≡ place_of (position p xs) k → length xs ≡ k → k ≤ r → position p xs ≡ none
  place_none xs k r e n l = by (position p xs) refl e
    where
      by : (o : Option ℕ) → position p xs ≡ o → r ≡ place_of o k → o ≡ none
      by none q w = refl
      by (some i) q w = let h = position_says z p xs 0 i q in absurd (omega (arith, h.at_is, h.inside))

-- ## The place of a ticket

abbrev pub has_ticket : ℕ → Job → Bool
has_ticket t j = eqb j.ticket t

-- of two places the later has the larger ticket
pub asc_places : (lo : ℕ) (js : List Job) (i k : ℕ) → Asc lo js → i < k → k < length js → (get_or js i unused).ticket < (get_or js k unused).ticket
asc_places lo [] i k a l h = absurd (omega arith)
asc_places lo (j ∷ js) zero zero a l h = absurd (omega arith)
asc_places lo (j ∷ js) zero (suc k) a l h = asc_in (suc j.ticket) js a.1 (in_getD js k unused (omega arith))
asc_places lo (j ∷ js) (suc i) zero a l h = absurd (omega arith)
asc_places lo (j ∷ js) (suc i) (suc k) a l h = asc_places (suc j.ticket) js i k a.1 (omega arith) (omega arith)

-- the ticket stands neither before `low` nor from `high` on
pub record Between (js : List Job) (ticket low high : ℕ) : Type 0 where
  pub before : (k : ℕ) → k < low → (get_or js k unused).ticket < ticket
  pub after : (k : ℕ) → high ≤ k → k < length js → ticket ≤ (get_or js k unused).ticket

module _ {js : List Job} {ticket low high : ℕ} (a : Asc 1 js) (v : Between js ticket low high) where
  -- half of the places are passed
  pub between_later : (m : ℕ) → m < length js → (get_or js m unused).ticket < ticket → Between js ticket (m + 1) high
  between_later m l h = record {
    before = λ k q. by k q (le_or m k);
    after = v.after;
  }
    where
      by : (k : ℕ) → k < m + 1 → (m ≤ k) ⊎ (k < m) → (get_or js k unused).ticket < ticket
      by k q (inl b) = let e : k ≡ m = omega arith in rw e h
      by k q (inr b) = omega (arith, asc_places 1 js k m a b l)

  pub between_sooner : (m : ℕ) → m < length js → ticket ≤ (get_or js m unused).ticket → Between js ticket low m
  between_sooner m l h = record {
    before = v.before;
    after = λ k q r. by k q r (le_or k m);
  }
    where
      by : (k : ℕ) → m ≤ k → k < length js → (k ≤ m) ⊎ (m < k) → ticket ≤ (get_or js k unused).ticket
      by k q r (inl b) = let e : k ≡ m = omega arith in rw e h
      by k q r (inr b) = omega (arith, asc_places 1 js m k a b r)

  -- and where they meet the ticket is there or nowhere
  pub between_here : high ≤ low → low < length js → (get_or js low unused).ticket ≡ ticket → position (has_ticket ticket) js ≡ some low
  between_here m l e =
      let z : 0 + low ≡ low = omega arith in
      position_first unused (has_ticket ticket) js 0 low l (λ n h. ne_eqb _ ticket (λ q. omega (arith, v.before n h)))
      (eq-eqb _ ticket e) ∙ ap some z

  pub between_none : high ≤ low → (low < length js → (get_or js low unused).ticket ≡ ticket → ⊥) → position (has_ticket ticket) js ≡ none
  between_none m f =
      position_nowhere unused (has_ticket ticket) js 0 (λ n h. ne_eqb _ ticket (λ q. by n h q (le_or low n)))
    where
      late : (n : ℕ) → n < length js → (get_or js n unused).ticket ≡ ticket → low ≤ n → (n ≤ low) ⊎ (low < n) → ⊥
      late n h q b (inl c) = let e : n ≡ low = omega arith in f (omega arith) (rw e at q)
      late n h q b (inr c) = omega (arith, v.after low m (omega arith), asc_places 1 js low n a c h)

      by : (n : ℕ) → n < length js → (get_or js n unused).ticket ≡ ticket → (low ≤ n) ⊎ (n < low) → ⊥
      by n h q (inl b) = late n h q b (le_or n low)
      by n h q (inr b) = omega (arith, v.before n b)

-- ## The next that is due

-- the first place from one on, up to an end, that has this minute; the end where none has it
pub record FirstDue (dues : List ℕ) (from end minute r : ℕ) : Type 0 where
  pub from_to : from ≤ r
  pub to_end : r ≤ end
  pub passed : (k : ℕ) → from ≤ k → k < r → get_or dues k 0 ≡ minute → ⊥
  pub here : r < end → get_or dues r 0 ≡ minute

-- the smallest of the minutes, if it is before `never`
abbrev pub soonest : (never : ℕ) → List ℕ → ℕ
soonest never [] = never
soonest never (x ∷ xs) = min x (soonest never xs)

pub soonest_to : (never : ℕ) (xs : List ℕ) → soonest never xs ≤ never
soonest_to never [] = omega arith
soonest_to never (x ∷ xs) = omega (arith, soonest_to never xs)

pub soonest_le : (never : ℕ) {x : ℕ} {xs : List ℕ} → In x xs → soonest never xs ≤ x
soonest_le never (here e) = omega arith
soonest_le never (there {x = y} {xs = xs} i) = omega (arith, soonest_le never i)

pub soonest_in : (never : ℕ) (xs : List ℕ) → soonest never xs < never → In (soonest never xs) xs
soonest_in never [] l = absurd (omega arith)
soonest_in never (x ∷ xs) l = by (le_or x (soonest never xs)) (λ q. soonest_in never xs q)
  where
    by : (x ≤ soonest never xs) ⊎ (soonest never xs < x) → (soonest never xs < never → In (soonest never xs) xs) → In (soonest never (x ∷ xs)) (x ∷ xs)
    by (inl a) f = let e : min x (soonest never xs) ≡ x = omega arith in here e
    by (inr a) f = let e : min x (soonest never xs) ≡ soonest never xs = omega arith in rw e (there (f (omega arith)))

-- one number more has been looked at
pub soonest_last : (never : ℕ) (xs : List ℕ) (x : ℕ) → soonest never (xs ++ (x ∷ [])) ≡ min (soonest never xs) x
soonest_last never [] x = omega arith
soonest_last never (y ∷ xs) x = omega (arith, soonest_last never xs x)

-- ## A count

-- as many numbers of a column are the one wanted as jobs have it
pub counted : (f : Job → ℕ) (wanted : ℕ) (js : List Job) → count_by (λ x. x == wanted) (map f js) ≡ length (keep (λ (j : Job). eqb (f j) wanted) js)
counted f wanted js = sym (length-filter (λ x. x == wanted) (map f js)) ∙ by js
  where
    by : (js : List Job) → length (filter (λ x. x == wanted) (map f js)) ≡ length (keep (λ (j : Job). eqb (f j) wanted) js)
    by [] = refl
    by (j ∷ js) = case (eqb (f j) wanted) (λ t. rw t (ap suc (by js))) (λ t. rw t (by js))
