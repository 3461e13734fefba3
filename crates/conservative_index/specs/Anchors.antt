-- The search as a machine that comes to one point, or one block, after another.
-- Assumes nothing.
use Rattle.std.specs.Prelude.{ℕ, zero, suc, ◌+◌, ◌≤◌, ◌<◌, ◌≡◌, refl, Bool, true, false, cond, List, leb, ltb, get_or, length}
use Rattle.std.proofs.Common.{arith, sym, ◌∙◌}
use Rattle.std.proofs.Math.Path.{ap}
use borrow.Author.Tests.{le-leb, lt-leb, lt-ltb, le-ltb}
use Rattle.lists.specs.Tests.{case, true_false}
use Rattle.conservative_index.specs.declared.Anchor.{Anchor}
use Rattle.conservative_index.specs.declared.Anchor.TheVariants.{Lost, From, Found}
use Rattle.conservative_index.specs.declared.Step.{Step}

-- by this minute the hold may be over
abbrev pub enter : ℕ → ℕ → Anchor → Anchor
enter h t Lost = Lost
enter h t (From a) = cond (leb (a + h) t) (Found a) (From a)
enter h t (Found a) = Found a

-- from minute t on there are nodes enough, or not
abbrev pub settle : ℕ → Bool → Anchor → Anchor
settle t enough Lost = cond enough (From t) Lost
settle t enough (From a) = cond enough (From a) Lost
settle t enough (Found a) = Found a

abbrev pub over : Anchor → Bool
over Lost = false
over (From a) = false
over (Found a) = true

-- the nodes have been free since a minute, or are not
abbrev pub standing : Bool → ℕ → Anchor
standing true a = From a
standing false a = Lost

abbrev pub is_open : Anchor → Bool
is_open Lost = false
is_open (From a) = true
is_open (Found a) = false

abbrev pub minute_of : Anchor → ℕ
minute_of Lost = 0
minute_of (From a) = a
minute_of (Found a) = a

abbrev pub pass_point : ℕ → ℕ → Bool → Anchor → Anchor
pass_point h t enough s = settle t enough (enter h t s)

-- the three ways of a point
module _ (h t a : ℕ) (enough : Bool) where
  pub pass_found : a + h ≤ t → pass_point h t enough (From a) ≡ Found a
  pass_found l = rw (le-leb (a + h) t l)

  pub pass_open : t < a + h → pass_point h t enough (From a) ≡ standing enough a
  pass_open l = rw (lt-leb (a + h) t l) (go enough)
    where
      go : (b : Bool) → cond b (From a) Lost ≡ standing b a
      go true = refl
      go false = refl

  pub pass_shut : pass_point h t enough Lost ≡ standing enough t
  pass_shut = go enough
    where
      go : (b : Bool) → cond b (From t) Lost ≡ standing b t
      go true = refl
      go false = refl

-- k places from p on, of which e says whether there are nodes enough
unfoldable pub pass_points : ℕ → (ℕ → ℕ) → (ℕ → Bool) → ℕ → ℕ → Anchor → Anchor
pass_points h m e p zero s = s
pass_points h m e p (suc k) s = pass_point h (m (p + k)) (e k) (pass_points h m e p k s)

pub points_same : (h : ℕ) (m : ℕ → ℕ) (e e' : ℕ → Bool) (p k : ℕ) (s : Anchor) → ((j : ℕ) → j < k → e j ≡ e' j)
    → pass_points h m e p k s ≡ pass_points h m e' p k s
unfolding pass_points
points_same h m e e' p zero s q = refl
points_same h m e e' p (suc k) s q = rw (q k (omega arith), points_same h m e e' p k s (λ j l. q j (omega arith)))

-- are there n nodes in the place j after p?
abbrev pub has : ℕ → (ℕ → ℕ) → ℕ → ℕ → Bool
has n g p j = leb n (g (p + j))

-- what is noted of a place
abbrev pub note : List Bool → ℕ → Bool
note bs j = get_or bs j false

-- All k points from p on have been read: as many as r says, and of each it is noted whether there are n nodes.
pub record Noted (n : ℕ) (g : ℕ → ℕ) (p k r : ℕ) (bs : List Bool) : Type 0 where
  pub long : length bs ≡ 16
  pub count : r ≡ k
  pub each : (j : ℕ) → j < k → note bs j ≡ has n g p j

pub stands : (s : Anchor) → over s ≡ false → standing (is_open s) (minute_of s) ≡ s
stands Lost e = refl
stands (From a) e = refl
stands (Found a) e = true_false true refl e

-- a minute that was found stays
pub found_stays : (h : ℕ) (m : ℕ → ℕ) (e : ℕ → Bool) (p k r a : ℕ) (s : Anchor) → pass_points h m e p k s ≡ Found a → pass_points h m e p (k + r) s ≡ Found a
unfolding pass_points
found_stays h m e p k zero a s q = let z : k + 0 ≡ k = omega arith in rw z q
found_stays h m e p k (suc r) a s q = let z : k + suc r ≡ suc (k + r) = omega arith in rw (z, found_stays h m e p k r a s q)

-- a block of k places from p on, whose fewest and most are low and high, once the search has come to it
unfoldable pub pass_entered : ℕ → ℕ → (ℕ → ℕ) → (ℕ → ℕ) → ℕ → ℕ → ℕ → ℕ → Anchor → Step
pass_entered n h m g low high p k s =
    cond (over s) (record { anchor = s; reads = 0 })
    (cond (leb n low) (record { anchor = settle (m p) true s; reads = 0 })
    (cond (ltb high n) (record { anchor = Lost; reads = 0 }) (record { anchor = pass_points h m (has n g p) p k s; reads = k })))

abbrev pub pass_block : ℕ → ℕ → (ℕ → ℕ) → (ℕ → ℕ) → ℕ → ℕ → ℕ → ℕ → Anchor → Step
pass_block n h m g low high p k s = pass_entered n h m g low high p k (enter h (m p) s)

-- The four ways through a block; s is where the search stands as it comes to it.
module _ (n h : ℕ) (m g : ℕ → ℕ) (low high p k : ℕ) {s t : Anchor} (e : s ≡ t) where
  pub pass_over : over s ≡ true → record { anchor = s; reads = 0 } ≡ pass_entered n h m g low high p k t
  unfolding pass_entered
  pass_over o = rw (sym e, o)

  pub pass_free : {r : Anchor} → over s ≡ false → n ≤ low → r ≡ settle (m p) true s → record { anchor = r; reads = 0 } ≡ pass_entered n h m g low high p k t
  unfolding pass_entered
  pass_free o a q = rw (sym e, o, le-leb n low a, q)

  pub pass_lost : over s ≡ false → low < n → high < n → record { anchor = Lost; reads = 0 } ≡ pass_entered n h m g low high p k t
  unfolding pass_entered
  pass_lost o a b = rw (sym e, o, lt-leb n low a, lt-ltb high n b)

  -- the points have been read and noted, and the search has passed them
  pub pass_read : {r : Anchor} {c : ℕ} {bs : List Bool} → over s ≡ false → low < n → n ≤ high → Noted n g p k c bs → r ≡ pass_points h m (note bs) p c s
      → record { anchor = r; reads = c } ≡ pass_entered n h m g low high p k t
  unfolding pass_entered
  pass_read {r} {c} {bs} o a b v q =
      let z : r ≡ pass_points h m (has n g p) p k s =
      q ∙ ap (λ (c : ℕ). pass_points h m (note bs) p c s) v.count ∙ points_same h m (note bs) (has n g p) p k s v.each in
      rw (sym e, o, lt-leb n low a, le-ltb high n b, z, v.count)

pub pass_few : (n h : ℕ) (m g : ℕ → ℕ) (low high p k : ℕ) (s : Anchor) → (pass_entered n h m g low high p k s).reads ≤ k
unfolding pass_entered
pass_few n h m g low high p k s =
    case (over s) (λ a. rw a (omega arith))
    (λ a. case (leb n low) (λ b. rw (a, b) (omega arith)) (λ b. case (ltb high n) (λ d. rw (a, b, d) (omega arith)) (λ d. rw (a, b, d) (omega arith))))
