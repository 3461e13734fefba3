-- Nodes that are taken over a stretch of minutes: how many are left, the earliest minute at which a job fits, and the profile. Document 01,
-- "Promise Desk". This file and its laws speak of spans alone and know nothing of jobs.
-- Assumes nothing.
use Rattle.std.specs.Prelude.{ℕ, zero, suc, ◌+◌, ◌-◌, max, ◌≤◌, ◌<◌, ◌≡◌, Bool, true, not, ◌&&◌, ◌||◌, List, [], ◌∷◌, map, ◌⊎◌, ◌≢◌, leb, ltb, eqb}
use Rattle.lists.specs.Tests.{on}
use Rattle.lists.specs.Lists.{keep, sum, In}
use Rattle.lists.specs.Least.{least}
use Rattle.spans.specs.declared.Span.{Span}
use Rattle.spans.specs.declared.Point.{Point}

-- the nodes that x takes in minute t
unfoldable pub takes : ℕ → Span → ℕ
takes t x = on (leb x.from t && ltb t x.until) x.nodes

abbrev pub used : ℕ → List Span → ℕ
used t xs = sum (takes t) xs

-- Document 01: "Free nodes at minute t are the rack's, less those of running stacks whose end is after t, less those of waiting stacks with start ≤
-- t < start + held." N are the machine's nodes. A running job began by now, so from now on one rule covers both.
abbrev pub free : ℕ → List Span → ℕ → ℕ
free N xs t = N - used t xs

-- the last minute at which a span ends: from then on nothing is taken
unfoldable pub last_end : List Span → ℕ
last_end [] = 0
last_end (x ∷ xs) = max x.until (last_end xs)

-- The earliest start

-- are n nodes free in each of the h minutes from s on, where f gives the free nodes of a minute
unfoldable pub fits : (ℕ → ℕ) → ℕ → ℕ → ℕ → Bool
fits f n zero s = true
fits f n (suc h) s = let rest = fits f n h (suc s) in leb n (f s) && rest

-- Document 01: "The planned start is the smallest minute, now or later, such that the stack's nodes are free in every minute of
-- its held time." At the last end all nodes are free, so no later minute need be tried. n are the job's nodes, h its wall time.
unfoldable pub earliest : ℕ → List Span → ℕ → ℕ → ℕ → ℕ
earliest N xs now n h = least (fits (free N xs) n h) (last_end xs - now) now

-- The same sentence as a law: what a reader holds `earliest` against.
abbrev pub Fits : (ℕ → ℕ) → ℕ → ℕ → ℕ → Type 0
Fits f n h s = (t : ℕ) → s ≤ t → t < s + h → n ≤ f t

pub record Earliest (f : ℕ → ℕ) (now n h s : ℕ) : Type 0 where
  pub later : now ≤ s
  pub fit : Fits f n h s
  pub smallest : (r : ℕ) → now ≤ r → Fits f n h r → s ≤ r

-- The profile

-- Document 01: "points, each a minute and the free nodes from it on".
abbrev pub point : (ℕ → ℕ) → ℕ → Point
point f t = record { minute = t; free = f t }

-- the k minutes from a on
abbrev pub minutes : ℕ → ℕ → List ℕ
minutes a zero = []
minutes a (suc k) = a ∷ minutes (suc a) k

-- "The first is now; then every later minute whose free nodes differ from those of the minute before."
unfoldable pub changes : (ℕ → ℕ) → ℕ → ℕ → Bool
changes f now t = eqb t now || not (eqb (f t) (f (t - 1)))

-- the points of the k minutes from now on
unfoldable pub points : (ℕ → ℕ) → ℕ → ℕ → List Point
points f now k = map (point f) (keep (changes f now) (minutes now k))

-- after the last end nothing changes
unfoldable pub profile : ℕ → List Span → ℕ → List Point
profile N xs now = points (free N xs) now (suc (last_end xs - now))

-- The same sentence as a law, of one point and then of the list: what a reader holds `profile` against.
abbrev pub IsPoint : (ℕ → ℕ) → ℕ → Point → Type 0
IsPoint f now p = (p.free ≡ f p.minute) × ((p.minute ≡ now) ⊎ ((now < p.minute) × (f p.minute ≢ f (p.minute - 1))))

-- each point later than the one before, and none before a
abbrev pub Ascend : ℕ → List Point → Type 0
Ascend a [] = Unit {0}
Ascend a (p ∷ ps) = (a ≤ p.minute) × Ascend (suc p.minute) ps

pub record Profile (f : ℕ → ℕ) (now : ℕ) (ps : List Point) : Type 0 where
  pub real : (p : Point) → In p ps → IsPoint f now p
  pub complete : (p : Point) → IsPoint f now p → In p ps
  pub ascending : Ascend now ps
