-- The queue of EASY, one waiting job after another: what is asked of each job. Together this is what acceptance asks of all.
-- Assumes nothing.
use Rattle.std.specs.Prelude.{ℕ, suc, ◌+◌, ◌-◌, ◌*◌, ◌≤◌, ◌<◌, ◌≡◌, refl, true, false, cond, ◌&&◌, ◌||◌, List, [], ◌∷◌, leb, ltb}
use native.Mathlib.Omega.{arith}
use Rattle.std.proofs.Common.{sym, ap, ◌∙◌}
use Rattle.std.proofs.Math.Bool.{Bool, not}
use Rattle.std.proofs.Math.Option.{some}
use Rattle.std.proofs.Math.Dec.{eqb}
use borrow.Author.Tests.{le-leb, lt-leb, lt-ltb, le-ltb, ne_eqb}
use Rattle.lists.specs.Tests.{case, on, leb_sub}
use Rattle.lists.specs.Lists.{first, sum, In, sum_zero, sum_cong, sum_picked}
use Rattle.lists.specs.Every.{every, every_cong}
use Rattle.scheduler.specs.declared.Job.{Job}
use Rattle.scheduler.specs.declared.Scheduler.{Scheduler}
use Rattle.scheduler.specs.declared.Settings.{Settings}
use Rattle.scheduler.specs.declared.Kind.TheVariants.{Easy}
use Rattle.scheduler.specs.Limits as limit
use Rattle.scheduler.specs.Limits.{longest_hold}
use Rattle.scheduler.specs.Jobs.{is_waiting}
use Rattle.scheduler.specs.Settings.{hold_time, unit, bound_of}
use Rattle.scheduler.specs.Model.{Model}
use Rattle.jobs.specs.Order.{Asc, asc_in, asc_keep}
use Rattle.easy_rules.specs.Easy.{queue, free, shadow, extra, qualifies, pick, on_choice}
use Rattle.easy_laws.specs.Settling.{shadow_from}
use Rattle.checkpoint_rules.specs.Acceptance.{waiting_before, bound_holds}
use Rattle.checkpoint_laws.specs.Stages.{own_plan}
use Rattle.lists.specs.EveryLoop.{every_from, from_cong}

-- ## What is asked of each

-- whether it may pass the head, by the numbers: it fits now, and is over in time or fits the extra nodes
abbrev pub passes_by : Settings → (spare extra room : ℕ) → Job → Bool
passes_by S spare extra room j = leb j.nodes spare && (leb (hold_time S j.estimate) room || leb j.nodes extra)

-- whether the shadow t, and a unit for each job ahead of it, is not past its bound
abbrev pub bound_at : Settings → (t ahead : ℕ) → Job → Bool
bound_at S t k j = leb (t + k * unit S) (bound_of S j)

-- and whether the head's forecast is not before the shadow, while another job has none and may not pass the head
abbrev pub rests_at : Settings → (spare extra room t ahead : ℕ) → Job → Bool
rests_at S spare extra room t k j =
    bound_at S t k j && cond (eqb k 0) (leb t j.forecast) (eqb j.forecast 0 && not (passes_by S spare extra room j))

-- the numbers of which code makes sums are in range: of one waiting job, and of all
pub record Timed (ahead t : ℕ) (j : Job) : Type 0 where
  pub few : ahead ≤ limit.slots
  pub early : t ≤ limit.horizon + longest_hold
  pub submitted_to : j.submitted ≤ limit.horizon
  pub rank_to : j.rank ≤ limit.slots

pub record QueueTimed (d : Scheduler) (t : ℕ) : Type 0 where
  pub from : d.clock ≤ t
  pub early : t ≤ limit.horizon + longest_hold
  pub each : (j : Job) → In j (queue d.jobs) → (j.submitted ≤ limit.horizon) × (j.rank ≤ limit.slots)

-- code compares the bound by the unit that it has worked out
module _ (S : Settings) (t k : ℕ) (j : Job) {u : ℕ} (e : u ≡ unit S) where
  pub bound_past : j.submitted + j.rank * u < t + k * u → bound_at S t k j ≡ false
  bound_past l = lt-leb (t + k * unit S) (bound_of S j) (rw e at l)

  pub bound_kept : t + k * u ≤ j.submitted + j.rank * u → bound_at S t k j ≡ true
  bound_kept l = le-leb (t + k * unit S) (bound_of S j) (rw e at l)

-- ## How many stand ahead

-- how many have a smaller ticket
abbrev below : ℕ → List Job → ℕ
below u js = sum (λ (j : Job). on (ltb j.ticket u) 1) js

-- of those that wait, acceptance counts them among all jobs
below_queue : (u : ℕ) (js : List Job) → waiting_before u js ≡ below u (queue js)
below_queue u js =
    sum_cong (λ (j : Job). on (is_waiting j && ltb j.ticket u) 1) (λ (j : Job). on (is_waiting j) (on (ltb j.ticket u) 1)) js
    (λ j i. case (is_waiting j) (λ w. rw w) (λ w. rw w))
    ∙ sym (sum_picked (λ (j : Job). on (ltb j.ticket u) 1) is_waiting js)

-- no job of a list in ticket order stands before its first
none_below : (u lo : ℕ) (js : List Job) → Asc lo js → u ≤ lo → below u js ≡ 0
none_below u lo js a l =
    sum_zero (λ (j : Job). on (ltb j.ticket u) 1) js (λ j i. rw (le-ltb j.ticket u (omega (arith, asc_in lo js a i))))

-- in ticket order these are the jobs ahead
pub from_below : (f : ℕ → Job → Bool) (k lo : ℕ) (js : List Job) → Asc lo js
    → every_from f k js ≡ every (λ (j : Job). f (k + below j.ticket js) j) js
from_below f k lo [] a = refl
from_below f k lo (x ∷ xs) a =
    rw (
      from_below f (k + 1) (suc x.ticket) xs a.1,
      every_cong (λ (j : Job). f (k + 1 + below j.ticket xs) j) (λ (j : Job). f (k + below j.ticket (x ∷ xs)) j) xs
          (λ j i. ap (λ (n : ℕ). f n j) (more j i)),
    ) (ap (λ (n : ℕ). f n x && every (λ (j : Job). f (k + below j.ticket (x ∷ xs)) j) xs) here_is)
  where
    more : (j : Job) → In j xs → k + 1 + below j.ticket xs ≡ k + below j.ticket (x ∷ xs)
    more j i =
        let z : on (ltb x.ticket j.ticket) 1 ≡ 1 = rw (lt-ltb x.ticket j.ticket (asc_in (suc x.ticket) xs a.1 i)) in
        omega arith

    here_is : k ≡ k + below x.ticket (x ∷ xs)
    here_is =
        let z : on (ltb x.ticket x.ticket) 1 ≡ 0 = rw (le-ltb x.ticket x.ticket (omega arith)) in
        omega (arith, none_below x.ticket (suc x.ticket) xs a.1 (omega arith))

-- ## Those behind the head, together

-- nobody among them passes the test, as acceptance says it of a choice
abbrev nobody : (Job → Bool) → List Job → Bool
nobody p js = on_choice (first p js) true (λ j. false)

-- the three tests of one job go to those of the jobs after it
swapped : (a b c x y z : Bool) → ((a && (b && not c)) && (x && y && z)) ≡ (cond c false x && (b && y) && (a && z))
swapped true true true x y z = refl
swapped true true false x y z = refl
swapped true false true x y z = refl
swapped true false false true y z = refl
swapped true false false false y z = refl
swapped false true true x y z = refl
swapped false true false true true z = refl
swapped false true false true false z = refl
swapped false true false false y z = refl
swapped false false true x y z = refl
swapped false false false true y z = refl
swapped false false false false y z = refl

-- three tests of each job in turn are three tests of all
pub apart : (a : ℕ → Job → Bool) (b c : Job → Bool) (k : ℕ) (js : List Job)
    → every_from (λ (n : ℕ) (j : Job). a n j && (b j && not (c j))) k js ≡ (nobody c js && every b js && every_from a k js)
apart a b c k [] = refl
apart a b c k (j ∷ js) =
    rw (apart a b c (k + 1) js) (swapped (a k j) (b j) (c j) (nobody c js) (every b js) (every_from a (k + 1) js) ∙ chosen (c j))
  where
    chosen : (d : Bool) → (cond d false (nobody c js) && (b j && every b js) && (a k j && every_from a (k + 1) js))
        ≡ (on_choice (cond d (some j) (first c js)) true (λ i. false) && (b j && every b js) && (a k j && every_from a (k + 1) js))
    chosen true = refl
    chosen false = refl

-- ## The whole queue

-- the head's parts go to their places among those of all
gathered : (x y s o z : Bool) → ((x && y) && (s && o && z)) ≡ (s && y && o && (x && z))
gathered true true true o z = refl
gathered true true false o z = refl
gathered true false true o z = refl
gathered true false false o z = refl
gathered false true true true z = refl
gathered false true true false z = refl
gathered false true false o z = refl
gathered false false true o z = refl
gathered false false false o z = refl

-- where nobody waits nothing is asked
pub nobody_asked : (m : Model) → queue m.jobs ≡ [] → own_plan Easy m ≡ true
unfolding pick
nobody_asked m e = rw e

module _ (m : Model) (h : Job) (later : List Job) (e : queue m.jobs ≡ h ∷ later) where
  abbrev S : Settings
  S = m.settings

  abbrev t : ℕ
  t = shadow m h.nodes

  -- a head that fits now would start
  pub head_starts : h.nodes ≤ free m → own_plan Easy m ≡ false
  unfolding pick
  head_starts l = rw (e, le-leb h.nodes (free m) l)

  -- the test by numbers is the test of the rules
  passes_by_lem : (j : Job) → passes_by S (free m) (extra m h.nodes) (t - m.clock) j ≡ qualifies m h j
  unfolding qualifies
  passes_by_lem j =
      let turned : hold_time S j.estimate + m.clock ≡ m.clock + hold_time S j.estimate = omega arith in
      rw (leb_sub t m.clock (hold_time S j.estimate) (shadow_from m h.nodes), turned)

  -- the jobs that wait before one are those ahead of it
  bounds_are : Asc 1 m.jobs → every_from (bound_at S t) 0 (h ∷ later) ≡ every (bound_holds m h) (h ∷ later)
  bounds_are a =
      from_below (bound_at S t) 0 1 (h ∷ later) (rw e at (asc_keep is_waiting 1 m.jobs a))
      ∙ every_cong (λ (j : Job). bound_at S t (0 + below j.ticket (h ∷ later)) j) (bound_holds m h) (h ∷ later)
      (λ j i. ap (λ (n : ℕ). bound_at S t n j) (omega (arith, below_queue j.ticket m.jobs, ap (below j.ticket) e)))

  -- where the head does not fit, what is asked of each is what is asked of all
  pub rests_all : Asc 1 m.jobs → free m < h.nodes
      → every_from (rests_at S (free m) (extra m h.nodes) (t - m.clock) t) 0 (queue m.jobs) ≡ own_plan Easy m
  unfolding pick
  rests_all a l =
      let rest = rests_at S (free m) (extra m h.nodes) (t - m.clock) t in
      let unheard : Job → Bool = λ (j : Job). eqb j.forecast 0 in
      let behind : every_from rest 1 later ≡ (nobody (qualifies m h) later && every unheard later && every_from (bound_at S t) 1 later) =
      from_cong rest (λ (n : ℕ) (j : Job). bound_at S t n j && (unheard j && not (qualifies m h j))) 1 later
      (λ n j g. rw (ne_eqb n 0 (λ z. omega arith), passes_by_lem j))
      ∙ apart (bound_at S t) unheard (qualifies m h) 1 later in
      rw (e, lt-leb h.nodes (free m) l, behind, ← bounds_are a)
      (gathered (bound_at S t 0 h) (leb t h.forecast) (nobody (qualifies m h) later) (every unheard later) (every_from (bound_at S t) 1 later))
