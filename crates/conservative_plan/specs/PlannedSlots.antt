-- The plan on the 64 slots of the table: an unused slot takes nothing, so the slots plan as the model's jobs do. The jobs alone, without
-- unused slots, fit the machine too.
-- Assumes nothing.
use Rattle.std.specs.Prelude.{◌≡◌, refl, false, List, [], ◌∷◌, ℕ, ◌+◌, ◌≤◌, ◌<◌, length, get_or, take, drop}
use Rattle.std.proofs.Math.Path.{sym}
use Rattle.std.proofs.Common.{ap, subst, ◌∙◌, add-one, arith, take-append-drop, take-suc, take_all, length-take-le}
use Rattle.std.proofs.lemmas.List.{map-append, length-map}
use Rattle.lists.specs.Tests.{true_false}
use Rattle.lists.specs.Lists.{All, In, all_of, all_in, all_at, map_in, in_left, sum_append, sum_map}
use Rattle.lists.specs.Pads.{pad, sum_pad, length_pad, all_pad}
use Rattle.spans.specs.declared.Span.{Span}
use Rattle.spans.specs.Spans.{takes, used, free, last_end, profile}
use Rattle.spans.proofs.UsedNodes.{takes_le, last_le}
use Rattle.spans.proofs.ProfileLaws.{profile_length}
use Rattle.scheduler.specs.declared.Job.{Job}
use Rattle.scheduler.specs.declared.Scheduler.{Scheduler}
use Rattle.scheduler.specs.Limits.{max_nodes, slots}
use Rattle.scheduler.specs.Jobs.{unused, is_live_of, is_cleaning}
use Rattle.scheduler.specs.declared.Settings.{Settings}
use Rattle.scheduler.specs.Settings.{horizon, hold_time, until}
use Rattle.scheduler.specs.Times.{hold_le, until_is}
use Rattle.scheduler.specs.Model.{Model, store, view}
use Rattle.jobs.specs.Soundness.{Sound}
use Rattle.jobs.specs.Premise.{Holds}
use Rattle.jobs.specs.Slots.{Low, sound_low}
use Rattle.spans.specs.Index.{blocks, free_at, index}
use Rattle.conservative_table.specs.declared.Row.{Row}
use Rattle.conservative_table.specs.Points.{Kept}
use Rattle.conservative_table.specs.ProfileLists.{IsProfile, Laying, Changed, exact_kept, exact_same}
use Rattle.conservative_index.specs.BuiltIndex.{length_blocks}
use Rattle.conservative_profile.specs.declared.Profile.{Profile}
use Rattle.conservative_profile.specs.StoredProfile.{stored}
use Rattle.conservative_profile.specs.CopiedPoints.{Copies}
use Rattle.conservative_rules.specs.Conservative.{span, spans, points}
use Rattle.conservative_laws.specs.Validity.{Valid}

abbrev pub span_at : ℕ → ℕ → ℕ → Span
span_at nodes from hold = record { from = from; until = from + hold; nodes = nodes }

pub span_at_lem : (S : Settings) (j : Job) → is_cleaning j ≡ false → span S j ≡ span_at j.nodes j.start (hold_time S j.estimate)
span_at_lem S j n = rw (until_is S j n)

-- a model whose jobs fit the machine in every minute from now on
pub record Planned (m : Model) : Type 0 where
  pub sound : Sound m
  pub room : (t : ℕ) → m.clock ≤ t → used t (spans m.settings m.jobs) ≤ m.settings.nodes

pub valid_planned : (m : Model) → Valid m → Planned m
valid_planned m v = record { sound = v.sound; room = v.room }

-- so many slots that fit the machine
pub record SlotsOf (size : ℕ) (S : Settings) (now : ℕ) (js : List Job) : Type 0 where
  pub nodes_to : S.nodes ≤ max_nodes
  pub clock_to : now ≤ horizon S
  pub all : length js ≡ size
  pub few : size ≤ slots
  pub ends : All (λ (j : Job). until S j ≤ horizon S) js
  pub low : All Low js
  -- an unused slot has no nodes
  pub idle : All (λ (j : Job). is_live_of j ≡ false → j.nodes ≡ 0) js
  pub room : (t : ℕ) → now ≤ t → used t (spans S js) ≤ S.nodes

-- those of the table
abbrev pub Slots : Settings → ℕ → List Job → Type 0
Slots S now js = SlotsOf slots S now js

-- the jobs of a model, each a slot
pub planned_jobs : (m : Model) → Planned m → SlotsOf (length m.jobs) m.settings m.clock m.jobs
planned_jobs m p = record {
  nodes_to = p.sound.nodes_to;
  clock_to = p.sound.clock_to;
  all = refl;
  few = p.sound.few;
  ends = all_of _ m.jobs (λ j i. (p.sound.each j i).ends);
  low = all_of Low m.jobs (λ j i. sound_low m p.sound j i);
  idle = all_of _ m.jobs (λ j i e. true_false (is_live_of j) (p.sound.each j i).is_live e);
  room = p.room;
}

pub takes_unused : (S : Settings) (t : ℕ) → takes t (span S unused) ≡ 0
takes_unused S t = omega (arith, takes_le t (span S unused))

pub used_slots : (S : Settings) (t : ℕ) (js : List Job) → used t (spans S (pad slots unused js)) ≡ used t (spans S js)
used_slots S t js =
    sum_map (takes t) (span S) (pad slots unused js)
    ∙ sum_pad slots unused (λ (j : Job). takes t (span S j)) js (takes_unused S t)
    ∙ sym (sum_map (takes t) (span S) js)

pub planned_slots : (m : Model) → Planned m → Slots m.settings m.clock (store m).jobs
unfolding store
planned_slots m p =
    let f = planned_jobs m p in
    record {
      nodes_to = f.nodes_to;
      clock_to = f.clock_to;
      all = length_pad slots unused m.jobs f.few;
      few = omega arith;
      ends = all_pad slots unused (λ (j : Job). until m.settings j ≤ horizon m.settings) m.jobs
          (omega (arith, until_is m.settings unused refl, hold_le m.settings 0)) f.ends;
      low = all_pad slots unused Low m.jobs (omega arith) f.low;
      idle = all_pad slots unused (λ (j : Job). is_live_of j ≡ false → j.nodes ≡ 0) m.jobs (λ e. refl) f.idle;
      room = λ t l. omega (arith, used_slots m.settings t m.jobs, f.room t l);
    }

pub held_slots_lem : (d : Scheduler) → Holds Planned d → Slots (view d).settings d.clock d.jobs
unfolding view
held_slots_lem d h = subst (λ (e : Scheduler). Slots (view d).settings d.clock e.jobs) (sym h.stored) (planned_slots (view d) h.holds)

-- every start and every end is a minute of the clock
pub slot_low : {S : Settings} {now : ℕ} {js : List Job} → Slots S now js → (i : ℕ) → i < slots → Low (get_or js i unused)
slot_low {js = js} s i h = all_at Low js i unused s.low (omega (arith, s.all))

-- ## The profile of the slots

-- no slot ends past the last minute
pub last_slots : (S : Settings) (L : ℕ) (js : List Job) → ((j : Job) → In j js → until S j ≤ L) → last_end (spans S js) ≤ L
last_slots S L js h = last_le L (spans S js) (all_of _ (spans S js) (λ x i. one x (map_in (span S) js i)))
  where
    one : (x : Span) → (j : Job) × In j js × (x ≡ span S j) → x.until ≤ L
    one x k = omega (arith, h k.0 k.1, ap (λ (y : Span). y.until) k.2)

pub slot_ends : {size : ℕ} {S : Settings} {now : ℕ} {js : List Job} → SlotsOf size S now js → (j : Job) → In j js → until S j ≤ horizon S
slot_ends {S = S} s j i = all_in (λ (k : Job). until S k ≤ horizon S) s.ends i

-- the profile of the first i slots
abbrev pub Front : Settings → ℕ → List Job → ℕ → ℕ → List ℕ → List ℕ → Type 0
Front S now js i n ms fs = IsProfile S.nodes (spans S (take i js)) now n ms fs

module _ {S : Settings} {now : ℕ} {js : List Job} (s : Slots S now js) {i : ℕ} (low : i < slots) {n : ℕ} {ms fs : List ℕ} (v : Front S now js i n ms fs) where
  abbrev j : Job
  j = get_or js i unused

  in₀ : i < length js
  in₀ = omega (arith, s.all)

  end_low : until S j ≤ horizon S
  end_low = all_at (λ (k : Job). until S k ≤ horizon S) js i unused s.ends in₀

  -- one slot more
  used_more : (t : ℕ) → used t (spans S (take (i + 1) js)) ≡ takes t (span S j) + used t (spans S (take i js))
  used_more t = rw (
    add-one,
    take-suc js i unused in₀,
    map-append (span S) (take i js) (j ∷ []),
    sum_append (takes t) (spans S (take i js)) (spans S (j ∷ [])),
  ) (omega arith)

  used_front : (t : ℕ) → used t (spans S (take (i + 1) js)) ≤ used t (spans S js)
  used_front t =
      let e : used t (spans S js) ≡ used t (spans S (take (i + 1) js)) + used t (spans S (drop (i + 1) js)) =
      ap (λ (l : List Job). used t (spans S l)) (sym (take-append-drop (i + 1) js))
      ∙ rw (map-append (span S) (take (i + 1) js) (drop (i + 1) js)) (sum_append (takes t) (spans S (take (i + 1) js)) (spans S (drop (i + 1) js))) in
      omega arith

  ends_front : last_end (spans S (take i js)) ≤ horizon S
  ends_front = last_slots S (horizon S) (take i js) (λ k l. slot_ends s k (subst (In k) (take-append-drop i js) (in_left (drop i js) l)))

  kept : Kept (free S.nodes (spans S (take i js))) now n ms fs
  kept = exact_kept v s.clock_to ends_front

  pub lay : Laying ms fs 0 n (span S j)
  lay = record {
    machine = S.nodes;
    spans = spans S (take i js);
    now = now;
    profile = v;
    few = omega (arith, length-map (take i js) (span S), length-take-le i js (omega (arith, in₀)));
    clock = s.clock_to;
    ends = ends_front;
    until = end_low;
    room = λ t l. omega (arith, used_more t, used_front t, s.room t l);
    near_in = kept.table.some;
    near_to = omega (arith, kept.table.first);
  }

  pub laid_more : {r : Row} {ms' fs' : List ℕ}
      → ((l : Laying ms fs 0 n (span S j)) → Changed l.machine (span S j ∷ l.spans) l.now (span S j) ms fs n r ms' fs')
      → Front S now js (i + 1) r.count ms' fs'
  unfolding lay
  laid_more f = exact_same (spans S (take (i + 1) js)) (f lay).profile (λ t l. sym (used_more t))

  pub laid_unused : is_live_of j ≡ false → Front S now js (i + 1) n ms fs
  laid_unused e =
      let none : j.nodes ≡ 0 = all_at (λ (k : Job). is_live_of k ≡ false → k.nodes ≡ 0) js i unused s.idle in₀ e in
      exact_same (spans S (take (i + 1) js)) v (λ t l. omega (arith, used_more t, takes_le t (span S j)))

-- all slots: the profile of the scheduler
abbrev pub Tabulated : Scheduler → ℕ → List ℕ → List ℕ → Type 0
Tabulated d n ms fs = IsProfile (view d).settings.nodes (spans (view d).settings d.jobs) d.clock n ms fs

pub laid_all : (d : Scheduler) {n : ℕ} {ms fs : List ℕ} → Holds Planned d → Front (view d).settings d.clock d.jobs slots n ms fs → Tabulated d n ms fs
laid_all d {n} {ms} {fs} h v =
    subst (λ (js : List Job). IsProfile (view d).settings.nodes (spans (view d).settings js) d.clock n ms fs)
    (take_all slots d.jobs (omega (arith, (held_slots_lem d h).all))) v

-- what the slots take, the model's jobs take
pub used_held : (d : Scheduler) → Holds Planned d → (t : ℕ) → used t (spans (view d).settings d.jobs) ≡ used t (spans (view d).settings (view d).jobs)
unfolding view store
used_held d h t = ap (λ (e : Scheduler). used t (spans (view d).settings e.jobs)) h.stored ∙ used_slots (view d).settings t (view d).jobs

-- so the lists are the points of the model
pub tabulated_view : (d : Scheduler) {n : ℕ} {ms fs : List ℕ} → Holds Planned d → Tabulated d n ms fs
    → IsProfile (view d).settings.nodes (spans (view d).settings (view d).jobs) (view d).clock n ms fs
unfolding view
tabulated_view d h t = exact_same (spans (view d).settings (view d).jobs) t (λ t l. used_held d h t)

-- and can be copied
pub copies : (d : Scheduler) {n : ℕ} {ms fs : List ℕ} → Holds Planned d → Tabulated d n ms fs → Copies ms fs n
copies d h t = record {
  machine = (view d).settings.nodes;
  spans = spans (view d).settings (view d).jobs;
  now = (view d).clock;
  profile = tabulated_view d h t;
  few = omega (arith, h.holds.sound.few, length-map (view d).jobs (span (view d).settings));
}

pub copied_points : (d : Scheduler) {n : ℕ} {ms fs : List ℕ} {p : Profile} (h : Holds Planned d) (t : Tabulated d n ms fs)
    → ((q : Copies ms fs n) → p ≡ stored (profile q.machine q.spans q.now)) → p ≡ stored (points (view d))
unfolding copies
copied_points d h t f = f (copies d h t)

-- the profile fits its array
pub points_fit : (d : Scheduler) → Holds Valid d → length (points (view d)) ≤ 129
points_fit d h =
    omega (
      arith,
      profile_length (view d).settings.nodes (spans (view d).settings (view d).jobs) (view d).clock,
      h.holds.sound.few,
      length-map (view d).jobs (span (view d).settings),
    )

-- and so does its index
pub blocks_fit : (d : Scheduler) → Holds Valid d → length (index (points (view d))) ≤ 9
blocks_fit d h =
    let ps = points (view d) in
    omega (arith, length_blocks (free_at ps) (length ps) (blocks (length ps)), points_fit d h)
