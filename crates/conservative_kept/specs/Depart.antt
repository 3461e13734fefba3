-- An early completion or a withdrawal with the points kept beside the model: what the job gives back is taken out of the points, and the
-- passes go over them.
-- Assumes nothing.
use Rattle.std.specs.Prelude.{ℕ, suc, ◌+◌, ◌-◌, ◌≤◌, ◌<◌, ◌≡◌, refl, true, false, ◌⊎◌, eqb, replicate}
use Rattle.std.proofs.Common.{arith, sym, ◌∙◌, inl, inr, eqb-true}
use Rattle.std.proofs.Math.Path.{ap, subst}
use mathlib.Core.List.{List, [], ◌∷◌}
use Rattle.std.proofs.Math.Option.{Option, none, some}
use Rattle.std.proofs.Math.ListN.{length, get_or, get_or-append}
use Rattle.lists.specs.Tests.{on, case, true_false, both, le_or}
use Rattle.lists.specs.Lists.{keep, sum, In, here, there, in_nil, in_cons, in_getD, keep_none, sum_picked}
use Rattle.lists.specs.Loops.{position, position_says}
use Rattle.lists.specs.Pads.{pad}
use Rattle.spans.specs.declared.Span.{Span}
use Rattle.spans.specs.Spans.{takes, used, free}
use Rattle.spans.proofs.UsedNodes.{takes_in, takes_before, takes_after}
use Rattle.scheduler.specs.declared.Departure.{Departure}
use Rattle.scheduler.specs.declared.Departure.TheVariants.{Complete, Cancel}
use Rattle.scheduler.specs.declared.Job.{Job}
use Rattle.scheduler.specs.declared.Scheduler.{Scheduler}
use Rattle.scheduler.specs.declared.Select.TheVariants as select
use Rattle.scheduler.specs.declared.Settings.{Settings}
use Rattle.scheduler.specs.declared.State.{State}
use Rattle.scheduler.specs.declared.State.TheVariants.{Unused, Waiting, Running, Cleanup}
use Rattle.scheduler.specs.Limits.{slots}
use Rattle.scheduler.specs.Settings.{cleanup, hold_time}
use Rattle.scheduler.specs.Times.{until_is, until_end, until_cleaned}
use Rattle.scheduler.specs.States.{live?}
use Rattle.scheduler.specs.Jobs.{unused, is_cleaning, departs?, departs_as}
use Rattle.scheduler.specs.Model.{Model, store, view, without}
use Rattle.scheduler.specs.Answers.{accepts}
use Rattle.scheduler.specs.Refusals.{not_there_of, depart_refusal}
use Rattle.history.specs.Calls.{depart}
use Rattle.jobs.specs.Departing.{not_there, none_departs}
use Rattle.jobs.specs.Order.{Asc}
use Rattle.jobs.specs.Premise.{Holds}
use Rattle.jobs.specs.Slots.{slots_are, live_low}
use Rattle.jobs.specs.Soundness.{Sound, SoundJob, running_holds, running_clean, waiting_clean}
use Rattle.job_table.specs.declared.Part.{Part}
use Rattle.job_table.specs.Leaving.{finds}
use Rattle.job_table.specs.Parts.{found_at, departing, leaving, withdrawn_by, own_taken, own_refused}
use Rattle.conservative_table.specs.declared.Row.{Row}
use Rattle.conservative_table.specs.Points.{Kept}
use Rattle.conservative_table.specs.ProfileLists.{IsProfile, Lifting, Changed, exact_kept}
use Rattle.conservative_rules.specs.Conservative.{spans, call}
use Rattle.conservative_plan.specs.PlannedSlots.{Tabulated}
use Rattle.conservative_laws.specs.Validity.{Valid, taken, used_jobs}
use Rattle.conservative_laws.specs.Remaining.{left, used_left}
use Rattle.conservative_kept.specs.Beside.{few_spans, ends_within, stored_profile, profile_stored}

-- the slot that a search has found; the one after the last if there is none
abbrev pub slot_at : Option ℕ → ℕ
slot_at (some i) = i
slot_at none = slots

-- the nodes that a departure gives back: a run that ends gives them back once cleanup is over; a waiting job gives back all that it was to hold
abbrev pub freed_from : Departure → (start now clear : ℕ) → ℕ
freed_from Complete start now clear = now + clear
freed_from Cancel start now clear = start

abbrev pub freed_by : Departure → (nodes start hold now clear : ℕ) → Span
freed_by h nodes start hold now clear = record { from = freed_from h start now clear; until = start + hold; nodes = nodes }

abbrev pub freed : Settings → ℕ → Departure → Job → Span
freed S now h j = freed_by h j.nodes j.start (hold_time S j.estimate) now (cleanup S)

-- a span is what it takes up to a minute, and from there on
takes_parts : (t a b c k : ℕ) → a ≤ b → b ≤ c
    → takes t (record { from = a; until = c; nodes = k }) ≡ takes t (record { from = a; until = b; nodes = k }) + takes t
    (record { from = b; until = c; nodes = k })
takes_parts t a b c k l m = go (le_or a t) (le_or b t) (le_or c t)
  where
    whole : Span
    whole = record { from = a; until = c; nodes = k }

    first : Span
    first = record { from = a; until = b; nodes = k }

    rest : Span
    rest = record { from = b; until = c; nodes = k }

    go : (a ≤ t) ⊎ (t < a) → (b ≤ t) ⊎ (t < b) → (c ≤ t) ⊎ (t < c) → takes t whole ≡ takes t first + takes t rest
    go (inr p) q r = omega (arith, takes_before t whole p, takes_before t first p, takes_before t rest (omega arith))
    go (inl p) (inr q) r = omega (arith, takes_in t whole p (omega arith), takes_in t first p q, takes_before t rest q)
    go (inl p) (inl q) (inl r) = omega (arith, takes_after t whole r, takes_after t first q, takes_after t rest r)
    go (inl p) (inl q) (inr r) = omega (arith, takes_in t whole p r, takes_after t first q, takes_in t rest q r)

sum_split : {A : Type 0} (f g k : A → ℕ) (xs : List A) → ((a : A) → In a xs → f a ≡ g a + k a) → sum f xs ≡ sum g xs + sum k xs
sum_split f g k [] e = refl
sum_split f g k (x ∷ xs) e = omega (arith, e x (here refl), sum_split f g k xs (λ a i. e a (there i)))

-- what a job takes is what is left of it and what it gives back
module _ (S : Settings) (now t : ℕ) (l : now ≤ t) (u : ℕ) where
  given : (h : Departure) (j : Job) → SoundJob S now j → taken S t j ≡ left S now (select.Departing h u) t j + on (departs_as h u j) (takes t (freed S now h j))
  given Complete j s = case (departs_as Complete u j) ends (λ y. rw y (omega arith))
    where
      ends : departs_as Complete u j ≡ true
          → taken S t j ≡ left S now (select.Departing Complete u) t j + on (departs_as Complete u j) (takes t (freed S now Complete j))
      ends y =
          let r = (both (departs? Complete j.state) (eqb j.ticket u) y).0 in
          let clean = running_clean j.state r in
          let parts = takes_parts t j.start (now + cleanup S) (j.start + hold_time S j.estimate) j.nodes
          (omega (arith, (s.holds (running_holds j.state r)).0)) (omega (arith, s.runs r, until_end S j clean, until_is S j clean)) in
          case (eqb (cleanup S) 0)
          (λ z. let first = takes_after t (record { from = j.start; until = now + cleanup S; nodes = j.nodes }) (omega (arith, eqb-true (cleanup S) 0 z)) in
          rw (y, z, until_is S j clean) (omega (arith, parts, first)))
          (λ z. rw (y, z, until_is S j clean, until_cleaned S now j) parts)
  given Cancel j s =
      case (departs_as Cancel u j)
      (λ y. let clean = waiting_clean j.state (both (departs? Cancel j.state) (eqb j.ticket u) y).0 in rw (y, until_is S j clean) (omega arith))
      (λ y. rw y (omega arith))

-- it is the only one of its ticket
alone : (h : Departure) (u lo : ℕ) (js : List Job) {z : Job} → Asc lo js → In z js → departs_as h u z ≡ true → keep (departs_as h u) js ≡ z ∷ []
alone h u lo [] a i y = in_nil i
alone h u lo (j ∷ js) {z} a i y = case (departs_as h u j) (λ w. found w (in_cons i)) (λ w. rw w (alone h u (suc j.ticket) js a.1 (later w (in_cons i)) y))
  where
    one : (z ≡ j) ⊎ In z js → ((x : Job) → In x js → departs_as h u x ≡ false) → j ∷ [] ≡ z ∷ []
    one (inl e) f = ap (λ (x : Job). x ∷ []) (sym e)
    one (inr k) f = true_false (departs_as h u z) y (f z k)

    found : departs_as h u j ≡ true → (z ≡ j) ⊎ In z js → keep (departs_as h u) (j ∷ js) ≡ z ∷ []
    found w k =
        let is : j.ticket ≡ u = eqb-true j.ticket u (both (departs? h j.state) (eqb j.ticket u) w).1 in
        let others = none_departs h u (suc j.ticket) js (omega arith) a.1 in
        rw (w, keep_none (departs_as h u) js others) (one k others)

    later : departs_as h u j ≡ false → (z ≡ j) ⊎ In z js → In z js
    later w (inl e) = true_false (departs_as h u z) y (ap (departs_as h u) e ∙ w)
    later w (inr k) = k

module _ (m : Model) (v : Valid m) (h : Departure) (u : ℕ) {z : Job} (i : In z m.jobs) (y : departs_as h u z ≡ true) where
  abbrev S : Settings
  S = m.settings

  abbrev rest : Model
  rest = without m m.clock (select.Departing h u)

  among : (t : ℕ) → m.clock ≤ t → used t (spans S m.jobs) ≡ takes t (freed S m.clock h z) + used t (spans S rest.jobs)
  among t l =
      let gives : Job → ℕ = λ j. takes t (freed S m.clock h j) in
      let one : sum gives (keep (departs_as h u) m.jobs) ≡ gives z + 0 = ap (sum gives) (alone h u 1 m.jobs v.sound.asc i y) in
      let all = sum_split (taken S t) (left S m.clock (select.Departing h u) t) (λ (j : Job). on (departs_as h u j) (gives j)) m.jobs
      (λ j k. given S m.clock t l u h j (v.sound.each j k)) in
      omega (
        arith,
        used_jobs S t m.jobs,
        all,
        used_left S m.clock (select.Departing h u) t m.jobs,
        sum_picked gives (departs_as h u) m.jobs,
        one,
      )

  clean : is_cleaning z ≡ false
  clean = go h (both (departs? h z.state) (eqb z.ticket u) y).0
    where
      go : (h : Departure) → departs? h z.state ≡ true → is_cleaning z ≡ false
      go Complete r = running_clean z.state r
      go Cancel r = waiting_clean z.state r

  module _ {n : ℕ} {ms fs : List ℕ} (p : IsProfile S.nodes (spans S m.jobs) m.clock n ms fs) where
    kept : Kept (free S.nodes (spans S m.jobs)) m.clock n ms fs
    kept = exact_kept p v.sound.clock_to (ends_within v.sound)

    pub lifts : Lifting ms fs 0 n (freed S m.clock h z)
    lifts = record {
      machine = S.nodes;
      spans = spans S m.jobs;
      others = spans S rest.jobs;
      now = m.clock;
      profile = p;
      few = few_spans v.sound p;
      machine_to = v.sound.nodes_to;
      clock = v.sound.clock_to;
      ends = ends_within v.sound;
      until = omega (arith, (v.sound.each z i).ends, until_is S z clean);
      room = v.room;
      among = among;
      near_in = kept.table.some;
      near_to = omega (arith, kept.table.first);
    }

    pub lifted_profile : {r : Row} {ms' fs' : List ℕ}
        → ((l : Lifting ms fs 0 n (freed S m.clock h z)) → Changed l.machine l.others l.now (freed S m.clock h z) ms fs n r ms' fs')
        → IsProfile S.nodes (spans S rest.jobs) m.clock r.count ms' fs'
    unfolding lifts
    lifted_profile f = (f lifts).profile

-- what is left is the profile of those that remain
pub lifted_stored : (m : Model) (h : Departure) (u : ℕ) → accepts (departing m h u).refusal ≡ true → {n : ℕ} {ms fs : List ℕ}
    → IsProfile m.settings.nodes (spans m.settings (without m m.clock (select.Departing h u)).jobs) m.clock n ms fs
    → Tabulated (store (departing m h u).model) n ms fs
lifted_stored m h u a p =
    let o = (own_taken m (depart_refusal m h u) (leaving m m.clock (select.Departing h u) (withdrawn_by h u)) a).1 in
    rw o (profile_stored (without m m.clock (select.Departing h u)) p)

-- after the passes they are the profile of the model handed back
pub passed_profile : (d : Scheduler) (m : Model) → d ≡ store m → {n : ℕ} {ms fs : List ℕ} → Tabulated d n ms fs
    → IsProfile m.settings.nodes (spans m.settings m.jobs) m.clock n ms fs
passed_profile d m e {n} {ms} {fs} t = stored_profile m (subst (λ (x : Scheduler). Tabulated x n ms fs) e t)

-- a refused departure changes nothing
pub refused_beside : (m : Model) (h : Departure) (u : ℕ) → accepts (departing m h u).refusal ≡ false → (call m (depart h u)).model ≡ m
unfolding call
refused_beside m h u a =
    let o = (own_refused m (depart_refusal m h u) (leaving m m.clock (select.Departing h u) (withdrawn_by h u)) refl a).0 in
    rw o

-- ## The slot of the job that leaves

departs_live : (h : Departure) (s : State) → departs? h s ≡ true → live? s ≡ true
departs_live Complete Unused e = e
departs_live Complete Waiting e = refl
departs_live Complete Running e = refl
departs_live Complete Cleanup e = refl
departs_live Cancel Unused e = e
departs_live Cancel Waiting e = refl
departs_live Cancel Running e = refl
departs_live Cancel Cleanup e = refl

module _ (d : Scheduler) (h : Departure) (u : ℕ) (v : Holds Sound d) (all : length d.jobs ≡ slots) where
  -- the job in this slot leaves
  pub record Leaver (i : ℕ) : Type 0 where
    pub low : i < slots
    pub inside : In (get_or d.jobs i unused) (view d).jobs
    pub departs : departs_as h u (get_or d.jobs i unused) ≡ true

  stands : (i : ℕ) → i < length (view d).jobs → In (get_or d.jobs i unused) (view d).jobs
  unfolding store pad
  stands i l =
      let js = (view d).jobs in
      let e : get_or d.jobs i unused ≡ get_or js i unused = ap (λ (ks : List Job). get_or ks i unused) (slots_are d v)
      ∙ get_or-append js (replicate (slots - length js) unused) unused i l in
      subst (λ (x : Job). In x js) (sym e) (in_getD js i unused l)

  hit : (i : ℕ) → position (departs_as h u) d.jobs ≡ some i → Leaver i
  hit i e =
      let s = position_says unused (departs_as h u) d.jobs 0 i e in
      let at : s.at ≡ i = omega (arith, s.at_is) in
      let y : departs_as h u (get_or d.jobs i unused) ≡ true = ap (λ (k : ℕ). departs_as h u (get_or d.jobs k unused)) (sym at) ∙ s.passes in
      let j = get_or d.jobs i unused in
      record {
        low = omega (arith, s.inside);
        inside = stands i (live_low d v i (departs_live h j.state (both (departs? h j.state) (eqb j.ticket u) y).0));
        departs = y;
      }

  pub leaver : (i : ℕ) → i ≡ slot_at (position (departs_as h u) d.jobs) → accepts (departing (view d) h u).refusal ≡ true → Leaver i
  leaver i e a = by (position (departs_as h u) d.jobs) refl
    where
      by : (p : Option ℕ) → position (departs_as h u) d.jobs ≡ p → Leaver i
      by none q =
          let f = (finds d h u v (found_at d h none) (ap (found_at d h) (sym q))).nobody (omega arith) in
          true_false (accepts (not_there_of h)) (ap (λ (p : Part). accepts p.refusal) f ∙ a) (not_there h)
      by (some k) q = subst Leaver (sym (e ∙ ap slot_at q)) (hit k q)
