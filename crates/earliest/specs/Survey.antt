-- The survey of the jobs that hold nodes, each over at its least: the lists that EASY's search takes.
-- Assumes nothing.
use Rattle.std.specs.Prelude.{ℕ, ◌+◌, ◌-◌, ◌≤◌, ◌<◌, ◌≡◌, Bool, false, ◌&&◌, get_or, set, take}
use native.Mathlib.Omega.{arith}
use Rattle.std.proofs.Math.Path.{refl, sym, ap, subst}
use Rattle.std.proofs.Common.{◌∙◌, length-append, take_all, length-take-le}
use Rattle.std.proofs.Math.Bool.{true}
use mathlib.Core.List.{List, [], ◌∷◌, ◌++◌, map, map-append}
use Rattle.std.proofs.Math.Option.{Option, none, some}
use Rattle.std.proofs.Math.Dec.{eqb}
use Rattle.std.proofs.Math.ListN.{length}
use Rattle.std.proofs.lemmas.List.{length-map}
use Rattle.lists.specs.Tests.{on}
use Rattle.lists.specs.Lists.{In, sum, first, first_in, map_in, keep_in, sum_map, sum_picked, sum_cong, length_keep_le}
use Rattle.lists.specs.Loops.{keep_take_yes, keep_take_no}
use Rattle.lists.specs.FirstLaws.{first_keep}
use Rattle.lists.specs.Pads.{keep_pad}
use Rattle.scheduler.specs.declared.Departure.TheVariants.{Cancel}
use Rattle.scheduler.specs.declared.Refusal.TheVariants as refusal
use Rattle.scheduler.specs.declared.State.{State}
use Rattle.scheduler.specs.declared.State.TheVariants.{Unused, Waiting, Running, Cleanup}
use Rattle.scheduler.specs.States.{live?, waiting?}
use Rattle.scheduler.specs.declared.Job.{Job}
use Rattle.scheduler.specs.declared.Scheduler.{Scheduler}
use Rattle.scheduler.specs.Limits.{slots, horizon}
use Rattle.scheduler.specs.Jobs.{unused, is_live_of, is_holding, held, departs_as}
use Rattle.scheduler.specs.Settings.{unit, until}
use Rattle.scheduler.specs.Table.{nodes_held}
use Rattle.scheduler.specs.Model.{store, view}
use Rattle.scheduler.specs.TableLaws.{nodes_held_stored}
use Rattle.jobs.specs.Soundness.{SoundJob, Sound}
use Rattle.jobs.specs.Premise.{Holds}
use Rattle.jobs.specs.Slots.{slots_are}
use Rattle.easy_rules.specs.Easy.{avail}
use Rattle.easy_rules.specs.EarliestStart.{over_at_least, at_least, earliest_for, earliest_start}
use Rattle.easy_laws.specs.EarliestStart.{over_holding, over_nodes, least_held_lem, least_releasing, earliest_now}
use Rattle.job_columns.specs.Columns.{Column, nodes_of, column_push}
use Rattle.easy_engine.specs.Survey.{running, Holding, Held, Lacks}
use Rattle.easy_engine.specs.SurveyLoop.{sum_first, slot_fits}

-- the nodes of a job found; 0 where there is none
abbrev pub nodes_in : Option Job → ℕ
nodes_in none = 0
nodes_in (some j) = j.nodes

-- the nodes of some jobs that hold nodes, each over at its least
abbrev pub overs : Scheduler → List Job → List Job
overs d js = map (over_at_least d.clock) (running js)

-- the lists are those of a scheduler's jobs that hold nodes, each over at its least
abbrev pub Surveyed : Scheduler → (held ends : List ℕ) (running spare : ℕ) → Type 0
Surveyed d held ends r spare = Holding (at_least (view d)) (overs d (view d).jobs) held ends r spare

pub clock_low : (d : Scheduler) → Holds Sound d → d.clock ≤ horizon
unfolding view
clock_low d h = h.holds.clock_to

-- so far, over the first slots
pub record Passed (d : Scheduler) (js : List Job) (held ends : List ℕ) (r spare : ℕ) : Type 0 where
  pub running_is : length (overs d js) ≡ r
  pub held_is : Column nodes_of (overs d js) held
  pub ends_are : Column (until d.settings) (overs d js) ends
  pub spare_is : spare + nodes_held js ≡ d.settings.nodes

module _ {d : Scheduler} {heldₗ ends : List ℕ} {r spare : ℕ} (h : Holds Sound d) (i : ℕ) (v : Passed d (take i d.jobs) heldₗ ends r spare) (l : i < 64)
    (len : length d.jobs ≡ 64) where
  abbrev xs : List Job
  xs = d.jobs

  abbrev x : Job
  x = get_or xs i unused

  inside : i < length xs
  inside = omega arith

  -- a place is left in the lists
  pub few_so_far : r < slots
  few_so_far =
      omega (
        arith,
        v.running_is,
        length-map (running (take i xs)) (over_at_least d.clock),
        length_keep_le is_holding (take i xs),
        length-take-le i xs (omega arith),
      )

  -- it holds none
  pub skips_next : is_holding x ≡ false → Passed d (take (i + 1) xs) heldₗ ends r spare
  skips_next e =
      let k : overs d (take (i + 1) xs) ≡ overs d (take i xs) = ap (map (over_at_least d.clock)) (keep_take_no unused is_holding xs i inside e) in
      let z : held x ≡ 0 = rw e in
      record {
        running_is = ap length k ∙ v.running_is;
        held_is = subst (λ (js : List Job). Column nodes_of js heldₗ) (sym k) v.held_is;
        ends_are = subst (λ (js : List Job). Column (until d.settings) js ends) (sym k) v.ends_are;
        spare_is = omega (arith, v.spare_is, sum_first held xs i inside);
      }

  -- it holds some
  module _ (e : is_holding x ≡ true) where
    pub room_for : x.nodes ≤ spare
    room_for = slot_fits d h i spare inside e v.spare_is

    pub holds_next : (n t : ℕ) → n ≡ x.nodes → t ≡ until d.settings (over_at_least d.clock x)
        → Passed d (take (i + 1) xs) (set heldₗ r n) (set ends r t) (r + 1) (spare - n)
    holds_next n t a b =
        let low = few_so_far in
        let o = over_at_least d.clock in
        let k : overs d (take (i + 1) xs) ≡ overs d (take i xs) ++ (o x ∷ []) =
        ap (map o) (keep_take_yes unused is_holding xs i inside e) ∙ map-append o (running (take i xs)) (x ∷ []) in
        let z : held x ≡ x.nodes = rw e in
        record {
          running_is = ap length k ∙ length-append (overs d (take i xs)) (o x ∷ []) ∙ ap (λ (n : ℕ). n + 1) v.running_is;
          held_is = subst (λ (js : List Job). Column nodes_of js (set heldₗ r n)) (sym k)
              (column_push nodes_of (overs d (take i xs)) heldₗ v.held_is (o x) r n v.running_is low (a ∙ sym (over_nodes d.clock x)));
          ends_are = subst (λ (js : List Job). Column (until d.settings) js (set ends r t)) (sym k)
              (column_push (until d.settings) (overs d (take i xs)) ends v.ends_are (o x) r t v.running_is low b);
          spare_is = omega (arith, v.spare_is, sum_first held xs i inside, room_for);
        }

module _ (d : Scheduler) (h : Holds Sound d) (len : length d.jobs ≡ 64) {heldₗ ends : List ℕ} {r spare : ℕ} (i : ℕ) (past : 64 ≤ i)
    (v : Passed d (take i d.jobs) heldₗ ends r spare) where
  all_slots : take i d.jobs ≡ d.jobs
  all_slots = take_all i d.jobs (omega arith)

  -- the slots that hold nodes are the jobs that do
  same : running (take i d.jobs) ≡ running (view d).jobs
  unfolding store
  same = ap running (all_slots ∙ slots_are d h) ∙ keep_pad slots unused is_holding (view d).jobs refl

  pub surveyed : Surveyed d heldₗ ends r spare
  unfolding view
  surveyed =
      let m = view d in
      let o = over_at_least d.clock in
      let k : overs d (take i d.jobs) ≡ overs d m.jobs = ap (map o) same in
      let n : nodes_held (take i d.jobs) ≡ nodes_held m.jobs =
      ap nodes_held (all_slots ∙ slots_are d h) ∙ nodes_held_stored m in
      record {
        releasing = least_releasing m h.holds;
        runs = record { each = λ j x. holding j (map_in o (running m.jobs) x); same = sums };
        held_is = subst (λ (js : List Job). Column nodes_of js heldₗ) k v.held_is;
        ends_is = subst (λ (js : List Job). Column (until d.settings) js ends) k v.ends_are;
        count_is = sym (ap length k) ∙ v.running_is;
        spare_is = omega (arith, v.spare_is, least_held_lem m h.holds, n);
      }
    where
      holding : (j : Job) → (k : Job) × In k (running (view d).jobs) × (j ≡ over_at_least d.clock k) → is_holding j ≡ true
      holding j (k, a, e) = ap is_holding e ∙ over_holding d.clock k ∙ (keep_in is_holding (view d).jobs a).1

      sums : (f : Job → ℕ) → sum f (overs d (view d).jobs) ≡ sum (λ (j : Job). on (is_holding j) (f j)) (at_least (view d)).jobs
      sums f =
          let o = over_at_least d.clock in
          sum_map f o (running (view d).jobs)
          ∙ sum_picked (λ (j : Job). f (o j)) is_holding (view d).jobs
          ∙ sum_cong (λ (j : Job). on (is_holding j) (f (o j))) (λ (j : Job). on (is_holding (o j)) (f (o j))) (view d).jobs
          (λ j i. ap (λ (b : Bool). on b (f (o j))) (sym (over_holding d.clock j)))
          ∙ sym (sum_map (λ (j : Job). on (is_holding j) (f j)) o (view d).jobs)

-- ## What the search takes

module _ (d : Scheduler) {heldₗ ends : List ℕ} {r spare : ℕ} (v : Surveyed d heldₗ ends r spare) where
  abbrev pub held_by : Held heldₗ ends r spare
  held_by = record { model = at_least (view d); jobs = overs d (view d).jobs; holding = v }

  -- this many nodes are not there now
  pub record Short (n latest : ℕ) : Type 0 where
    pub more : avail (at_least (view d)) (view d).clock < n
    pub within : n ≤ (view d).settings.nodes
    pub latest_is : latest ≡ (view d).clock + unit (view d).settings

  pub short_by : (n latest : ℕ) → avail (at_least (view d)) d.clock < n → n ≤ d.settings.nodes → latest ≡ d.clock + unit d.settings → Short n latest
  unfolding view
  short_by n latest l w e = record { more = l; within = w; latest_is = e }

  abbrev pub lacks_by : {n latest : ℕ} → Short n latest → Lacks heldₗ ends r spare n latest
  lacks_by x = record { of = held_by; more = x.more; within = x.within; latest_is = x.latest_is }

pub now_given : (d : Scheduler) (n : ℕ) → n ≤ avail (at_least (view d)) d.clock → d.clock ≡ earliest_for (view d) n
unfolding view
now_given d n l = earliest_now (view d) n l

-- ## The job that is asked for

module _ (d : Scheduler) (h : Holds Sound d) (t : ℕ) where
  abbrev p : Job → Bool
  p = departs_as Cancel t

  abbrev asked : ℕ
  asked = nodes_in (first p d.jobs)

  -- among the slots as among the jobs
  found_is : first p (view d).jobs ≡ first p d.jobs
  unfolding view
  found_is = first_keep p is_live_of d.jobs ∙ by d.jobs
    where
      live : (j : Job) → (is_live_of j && p j) ≡ p j
      live j = waits j.state
        where
          waits : (x : State) → (live? x && (waiting? x && eqb j.ticket t)) ≡ (waiting? x && eqb j.ticket t)
          waits Unused = refl
          waits Waiting = refl
          waits Running = refl
          waits Cleanup = refl

      by : (js : List Job) → first (λ (j : Job). is_live_of j && p j) js ≡ first p js
      by [] = refl
      by (j ∷ js) = rw (live j, by js)

  -- it asks for some nodes, and no more than the machine has
  module _ (j : Job) (e : first p d.jobs ≡ some j) where
    sound_found : SoundJob (view d).settings (view d).clock j
    sound_found = h.holds.each j (first_in p (view d).jobs (found_is ∙ e)).0

  pub asked_within : asked ≤ d.settings.nodes
  unfolding view
  asked_within = by (first p d.jobs) refl
    where
      by : (f : Option Job) → first p d.jobs ≡ f → nodes_in f ≤ d.settings.nodes
      by none e = omega arith
      by (some j) e = (sound_found j e).nodes_to

  pub start_refused : asked ≡ 0 → record { refusal = refusal.NotWaiting; minute = 0 } ≡ earliest_start (view d) t
  unfolding earliest_start
  start_refused z = by (first p d.jobs) refl
    where
      by : (f : Option Job) → first p d.jobs ≡ f → record { refusal = refusal.NotWaiting; minute = 0 } ≡ earliest_start (view d) t
      by none e = rw (found_is, e)
      by (some j) e = absurd (omega (arith, (sound_found j e).nodes_from, ap nodes_in e))

  pub start_given : (n x : ℕ) → n ≡ asked → (n ≡ 0 → ⊥) → x ≡ earliest_for (view d) n
      → record { refusal = refusal.None; minute = x } ≡ earliest_start (view d) t
  unfolding earliest_start
  start_given n x q z y = by (first p d.jobs) refl
    where
      by : (f : Option Job) → first p d.jobs ≡ f → record { refusal = refusal.None; minute = x } ≡ earliest_start (view d) t
      by none e = absurd (z (q ∙ ap nodes_in e))
      by (some j) e = rw (found_is, e, y, q ∙ ap nodes_in e)

  -- the same, as code gives the nodes
  pub refused_by : first p d.jobs ≡ none → record { refusal = refusal.NotWaiting; minute = 0 } ≡ earliest_start (view d) t
  refused_by e = start_refused (ap nodes_in e)

  module _ (n : ℕ) (a : (j : Job) × (first p d.jobs ≡ some j) × (n ≡ j.nodes)) where
    asked_is : n ≡ asked
    asked_is = a.2 ∙ sym (ap nodes_in a.1)

    pub given_within : n ≤ d.settings.nodes
    given_within = omega (arith, asked_is, asked_within)

    pub given_by : (x : ℕ) → x ≡ earliest_for (view d) n → record { refusal = refusal.None; minute = x } ≡ earliest_start (view d) t
    given_by x y = start_given n x asked_is (λ z. omega (arith, (sound_found a.0 a.1).nodes_from, a.2)) y
