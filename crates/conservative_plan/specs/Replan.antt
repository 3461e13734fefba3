-- One turn of the pass after an early end: a waiting job is taken out of the plan and put in again at its smallest minute.
-- Assumes nothing.
use Rattle.std.specs.Prelude.{◌≡◌, refl, true, false, List, [], ◌∷◌, ◌++◌, ◌⊎◌, ◌≢◌, ℕ, ◌+◌, ◌≤◌, ◌<◌, eqb, length, get_or}
use Rattle.std.proofs.Math.Path.{sym}
use Rattle.std.proofs.Common.{ap, subst, ◌∙◌, inl, inr, arith, length-append}
use Rattle.std.proofs.lemmas.List.{map-append, length-map}
use Rattle.lists.specs.Tests.{case, true_false}
use Rattle.lists.specs.Lists.{All, In, here, there, in_left, in_right, in_append}
use Rattle.spans.specs.declared.Span.{Span}
use Rattle.spans.specs.Spans.{takes, used, last_end, earliest}
use Rattle.spans.proofs.UsedNodes.{used_among, takes_before, takes_in}
use Rattle.spans.proofs.EarliestStart.{earliest_is}
use Rattle.scheduler.specs.declared.Job.{Job}
use Rattle.scheduler.specs.Jobs.{is_waiting, is_cleaning, is_live_of}
use Rattle.scheduler.specs.Limits.{longest_hold, slots}
use Rattle.scheduler.specs.declared.Settings.{Settings}
use Rattle.scheduler.specs.Settings.{horizon, hold_time, until}
use Rattle.scheduler.specs.Times.{hold_le, until_is, until_at}
use Rattle.jobs.specs.Slots.{Low}
use Rattle.jobs.specs.Soundness.{waiting_clean}
use Rattle.conservative_table.specs.declared.Row.{Row}
use Rattle.conservative_table.specs.declared.Found.{Found}
use Rattle.conservative_table.specs.ProfileLists.{IsProfile, Laying, Lifting, Changed, exact_kept, exact_few, exact_same}
use Rattle.conservative_table.specs.Search.{Seeks, Finds}
use Rattle.conservative_rules.specs.Conservative.{span, spans, state_at, placed, moved}
use Rattle.conservative_laws.specs.Validity.{state_clean, Follows, follows_start, moved_follows}
use Rattle.conservative_laws.specs.Compression.{placed_still}
use Rattle.conservative_plan.specs.declared.Replanned.{Replanned}
use Rattle.conservative_plan.specs.declared.Turn.{Turn}
use Rattle.conservative_plan.specs.PlannedSlots.{span_at, span_at_lem, SlotsOf, slot_ends, last_slots}

-- the lists are the profile of the slots xs, j and ys, and j waits
pub record Replans (ms fs : List ℕ) (n : ℕ) (j : Job) (now : ℕ) : Type 0 where
  pub settings : Settings
  pub size : ℕ
  pub xs : List Job
  pub ys : List Job
  pub fits : SlotsOf size settings now (xs ++ j ∷ ys)
  pub profile : IsProfile settings.nodes (spans settings (xs ++ j ∷ ys)) now n ms fs
  pub waits : is_waiting j ≡ true
  pub ahead : now < j.start
  pub nodes_from : 1 ≤ j.nodes
  pub nodes_to : j.nodes ≤ settings.nodes
  pub hold_from : 1 ≤ hold_time settings j.estimate
  pub no_end : j.end ≡ 0

-- another element in the place of one
pub all_instead : {A : Type 0} (P : A → Type 0) (xs : List A) (x y : A) (ys : List A) → All P (xs ++ x ∷ ys) → P y → All P (xs ++ y ∷ ys)
all_instead P [] x y ys a h = (h, a.1)
all_instead P (z ∷ xs) x y ys a h = (a.0, all_instead P xs x y ys a.1 h)

placed_span : (S : Settings) (now s : ℕ) (j : Job) → span S (placed now s j) ≡ span_at j.nodes s (hold_time S j.estimate)
placed_span S now s j = rw (until_at S (state_at now s) s j (state_clean now s))

module _ {ms fs : List ℕ} {n : ℕ} {j : Job} {now : ℕ} (q : Replans ms fs n j now) where
  abbrev S : Settings
  S = q.settings

  abbrev others : List Job
  others = q.xs ++ q.ys

  -- where it comes to stand
  abbrev pub moved_to : Job
  moved_to = moved S now others j

  split : (k : Job) → spans S (q.xs ++ k ∷ q.ys) ≡ spans S q.xs ++ span S k ∷ spans S q.ys
  split k = map-append (span S) q.xs (k ∷ q.ys)

  split_others : spans S others ≡ spans S q.xs ++ spans S q.ys
  split_others = map-append (span S) q.xs q.ys

  among : (t : ℕ) (k : Job) → used t (spans S (q.xs ++ k ∷ q.ys)) ≡ takes t (span S k) + used t (spans S others)
  among t k = rw (split k, split_others) (used_among t (spans S q.xs) (span S k) (spans S q.ys))

  room : (t : ℕ) → now ≤ t → takes t (span S j) + used t (spans S others) ≤ S.nodes
  room t l = omega (arith, among t j, q.fits.room t l)

  pub follows : Follows now j moved_to
  follows = (moved_follows S now others j q.nodes_to (λ w. q.ahead) room).0

  pub room_after : (t : ℕ) → now ≤ t → takes t (span S moved_to) + used t (spans S others) ≤ S.nodes
  room_after = (moved_follows S now others j q.nodes_to (λ w. q.ahead) room).1

  clean : is_cleaning j ≡ false
  clean = waiting_clean j.state q.waits

  end_of : until S j ≤ horizon S
  end_of = slot_ends q.fits j (in_right q.xs (here refl))

  pub start_of : j.start ≤ horizon S
  start_of = omega (arith, end_of, until_is S j clean)

  -- where it is put in again
  abbrev pub start_at : ℕ
  start_at = earliest S.nodes (spans S others) now j.nodes (hold_time S j.estimate)

  pub start_later : now ≤ start_at
  start_later = (earliest_is S.nodes (spans S others) now j.nodes (hold_time S j.estimate) q.nodes_to).later

  few : length (spans S (q.xs ++ j ∷ q.ys)) ≤ slots
  few = omega (arith, length-map (q.xs ++ j ∷ q.ys) (span S), q.fits.all, q.fits.few)

  ends : last_end (spans S (q.xs ++ j ∷ q.ys)) ≤ horizon S
  ends = last_slots S (horizon S) (q.xs ++ j ∷ q.ys) (slot_ends q.fits)

  others_in : (k : Job) → In k others → In k (q.xs ++ j ∷ q.ys)
  others_in k i = go (in_append q.xs i)
    where
      go : In k q.xs ⊎ In k q.ys → In k (q.xs ++ j ∷ q.ys)
      go (inl u) = in_left (j ∷ q.ys) u
      go (inr u) = in_right q.xs (there u)

  -- sought with itself in the plan
  seeks : Seeks ms fs j.start j.nodes (hold_time S j.estimate)
  seeks = record {
    machine = S.nodes;
    all = spans S (q.xs ++ j ∷ q.ys);
    others = spans S others;
    now = now;
    count = n;
    table = (exact_kept q.profile q.fits.clock_to ends).table;
    fit = omega (arith, exact_few q.profile, few);
    enough = q.nodes_to;
    some = q.hold_from;
    hold_to = hold_le S j.estimate;
    ahead = omega (arith, q.ahead);
    early = λ t l b. omega (arith, among t j, takes_before t (span S j) b);
    late = λ t l b. omega (arith, room t (omega (arith, q.ahead)), takes_in t (span S j) l (omega (arith, until_is S j clean)));
    taken =
        let k = takes_in j.start (span S j) (omega arith) (omega (arith, q.hold_from, until_is S j clean)) in
        omega (arith, among j.start j, k, q.nodes_from, q.nodes_to);
  }

  pub moved_is : moved_to ≡ placed now start_at j
  moved_is = rw q.waits

  -- it stays where it is
  pub stays_put : start_at ≡ j.start → j ≡ moved_to
  stays_put e = sym (placed_still now j q.waits q.ahead q.no_end) ∙ ap (λ (s : ℕ). placed now s j) (sym e) ∙ sym moved_is

  -- or moves
  start_low : moved_to.start ≤ j.start
  start_low = follows_start now j moved_to follows

  pub moved_low : start_at ≤ horizon S
  moved_low = omega (arith, start_low, start_of, ap (λ (k : Job). k.start) moved_is)

  moved_until : until S moved_to ≡ start_at + hold_time S j.estimate
  moved_until = ap (until S) moved_is ∙ until_at S (state_at now start_at) start_at j (state_clean now start_at)

  moved_start : moved_to.start ≡ start_at
  moved_start = ap (λ (k : Job). k.start) moved_is

  end_after : until S moved_to ≤ horizon S
  end_after = omega (arith, start_low, end_of, moved_until, moved_start, until_is S j clean)

  pub moved_span : span S moved_to ≡ span_at j.nodes start_at (hold_time S j.estimate)
  moved_span = ap (span S) moved_is ∙ placed_span S now start_at j

  -- after the turn: the job at its place, and the profile with it there
  pub record TurnDone (r : Replanned) (ms' fs' : List ℕ) : Type 0 where
    pub job_is : r.job ≡ moved_to
    pub profile : IsProfile S.nodes (spans S (q.xs ++ moved_to ∷ q.ys)) now r.count ms' fs'

  -- the slots after the turn fit the machine too
  pub fits_after : SlotsOf q.size S now (q.xs ++ moved_to ∷ q.ys)
  fits_after = record {
    nodes_to = q.fits.nodes_to;
    clock_to = q.fits.clock_to;
    all = length-append q.xs (moved_to ∷ q.ys) ∙ sym (length-append q.xs (j ∷ q.ys)) ∙ q.fits.all;
    few = q.fits.few;
    ends = all_instead _ q.xs j moved_to q.ys q.fits.ends end_after;
    low = all_instead Low q.xs j moved_to q.ys q.fits.low (subst Low (sym moved_is) (moved_low, omega arith));
    idle = all_instead _ q.xs j moved_to q.ys q.fits.idle (λ e. true_false (is_live_of moved_to) (ap is_live_of moved_is ∙ state_live) e);
    room = λ t l. omega (arith, among t moved_to, room_after t l);
  }
    where
      state_live : is_live_of (placed now start_at j) ≡ true
      state_live = case (eqb start_at now) (λ e. rw e) (λ e. rw e)

  -- and in numbers: the start that it has come to
  pub record Turned (r : Turn) (ms' fs' : List ℕ) : Type 0 where
    pub start_is : r.start ≡ start_at
    pub profile : IsProfile S.nodes (spans S (q.xs ++ moved_to ∷ q.ys)) now r.count ms' fs'

  turned_stays : start_at ≡ j.start → Turned (record { start = j.start; count = n }) ms fs
  turned_stays e = record {
    start_is = sym e;
    profile = subst (λ (k : Job). IsProfile S.nodes (spans S (q.xs ++ k ∷ q.ys)) now n ms fs) (stays_put e) q.profile;
  }

  -- so is the job: it has stayed, or is placed anew
  pub done_stays : {r : Turn} {ms' fs' : List ℕ} → Turned r ms' fs' → r.start ≡ j.start → TurnDone (record { job = j; count = r.count }) ms' fs'
  done_stays t e = record { job_is = stays_put (sym t.start_is ∙ e); profile = t.profile }

  pub done_placed : {r : Turn} {ms' fs' : List ℕ} → Turned r ms' fs' → TurnDone (record { job = placed now r.start j; count = r.count }) ms' fs'
  done_placed t = record { job_is = ap (λ (s : ℕ). placed now s j) t.start_is ∙ sym moved_is; profile = t.profile }

  -- the search has found another minute, with a place that is not later
  pub record Moves (r : Found) : Type 0 where
    pub minute : r.minute ≡ start_at
    pub near_in : r.near < n
    pub near_to : get_or ms r.near 0 ≤ r.minute

  module _ {o : Found} (m : Moves o) where
    early_place : get_or ms o.near 0 ≤ start_at
    early_place = omega (arith, m.minute, m.near_to)

    -- taken out
    take_out : Lifting ms fs o.near n (span S j)
    take_out = record {
      machine = S.nodes;
      spans = spans S (q.xs ++ j ∷ q.ys);
      others = spans S others;
      now = now;
      profile = q.profile;
      few = omega (arith, few);
      machine_to = q.fits.nodes_to;
      clock = q.fits.clock_to;
      ends = ends;
      until = end_of;
      room = q.fits.room;
      among = λ t l. among t j;
      near_in = m.near_in;
      near_to = omega (arith, early_place, start_low, moved_start);
    }

    module _ (else : start_at ≢ j.start) {r : Row} {ms₁ fs₁ : List ℕ}
        (f : (l : Lifting ms fs o.near n (span S j)) → Changed l.machine l.others l.now (span S j) ms fs n r ms₁ fs₁) where
      out : Changed S.nodes (spans S others) now (span S j) ms fs n r ms₁ fs₁
      unfolding take_out
      out = f take_out

      still : o.near < r.at
      still = out.early o.near m.near_in (omega (arith, early_place, start_low, moved_start))

      -- and laid in again
      back : Laying ms₁ fs₁ o.near r.count (span S moved_to)
      back = record {
        machine = S.nodes;
        spans = spans S others;
        now = now;
        profile = out.profile;
        few = omega (arith, length-map others (span S), length-append q.xs q.ys, length-append q.xs (j ∷ q.ys), q.fits.all, q.fits.few);
        clock = q.fits.clock_to;
        ends = last_slots S (horizon S) others (λ k i. slot_ends q.fits k (others_in k i));
        until = end_after;
        room = room_after;
        near_in = omega (arith, still, out.new);
        near_to = omega (arith, (out.before o.near still).0, early_place, moved_start);
      }

      turned_moves : {r₂ : Row} {ms₂ fs₂ : List ℕ}
          → ((l : Laying ms₁ fs₁ o.near r.count (span S moved_to))
          → Changed l.machine (span S moved_to ∷ l.spans) l.now (span S moved_to) ms₁ fs₁ r.count r₂ ms₂ fs₂)
          → Turned (record { start = start_at; count = r₂.count }) ms₂ fs₂
      unfolding back
      turned_moves g = record { start_is = refl; profile = exact_same (spans S (q.xs ++ moved_to ∷ q.ys)) (g back).profile (λ t l. sym (among t moved_to)) }

-- A turn in numbers: the nodes, the start and the hold time of a job that waits.
pub record TurnAsked (ms fs : List ℕ) (n nodes start hold : ℕ) : Type 0 where
  pub job : Job
  pub now : ℕ
  pub replans : Replans ms fs n job now
  pub nodes_are : nodes ≡ job.nodes
  pub start_is : start ≡ job.start
  pub hold_is : hold ≡ hold_time replans.settings job.estimate

module _ {ms fs : List ℕ} {n nodes start hold : ℕ} (a : TurnAsked ms fs n nodes start hold) where
  pub asked_seeks : Seeks ms fs start nodes hold
  asked_seeks = rw (a.nodes_are, a.start_is, a.hold_is) (seeks a.replans)

  pub asked_moves : {o : Found} → ((l : Seeks ms fs start nodes hold) → Finds l o) → Moves a.replans o
  unfolding seeks
  asked_moves f =
      let k = (rw (a.nodes_are, a.start_is, a.hold_is) at f) (seeks a.replans) in
      record { minute = k.minute; near_in = k.near_in; near_to = k.near_to }

  -- its numbers are low
  pub asked_low : (start ≤ horizon a.replans.settings) × (hold ≤ longest_hold)
  asked_low = (omega (arith, a.start_is, start_of a.replans), omega (arith, a.hold_is, hold_le a.replans.settings a.job.estimate))

  module _ {o : Found} (m : Moves a.replans o) where
    pub found_low : o.minute ≤ horizon a.replans.settings
    found_low = omega (arith, m.minute, moved_low a.replans)

    pub turned_back : o.minute ≡ start → Turned a.replans (record { start = start; count = n }) ms fs
    turned_back e = rw a.start_is (turned_stays a.replans (sym m.minute ∙ e ∙ a.start_is))

    before_is : span_at nodes start hold ≡ span a.replans.settings a.job
    before_is = rw (a.nodes_are, a.start_is, a.hold_is) (sym (span_at_lem a.replans.settings a.job (clean a.replans)))

    after_is : span_at nodes o.minute hold ≡ span a.replans.settings (moved_to a.replans)
    after_is = rw (a.nodes_are, a.hold_is, m.minute) (sym (moved_span a.replans))

    pub lifts : Lifting ms fs o.near n (span_at nodes start hold)
    lifts = rw before_is (take_out a.replans m)

    module _ (else : o.minute ≢ start) {r : Row} {ms₁ fs₁ : List ℕ}
        (f : (l : Lifting ms fs o.near n (span_at nodes start hold))
        → Changed l.machine l.others l.now (span_at nodes start hold) ms fs n r ms₁ fs₁) where
      moving : start_at a.replans ≢ a.job.start
      moving e = else (m.minute ∙ e ∙ sym a.start_is)

      abbrev after : Span
      after = span_at nodes o.minute hold

      pub lays : Laying ms₁ fs₁ o.near r.count after
      lays = rw after_is (back a.replans m moving (rw before_is at f))

      pub turned : {r₂ : Row} {ms₂ fs₂ : List ℕ}
          → ((l : Laying ms₁ fs₁ o.near r.count after) → Changed l.machine (after ∷ l.spans) l.now after ms₁ fs₁ r.count r₂ ms₂ fs₂)
          → Turned a.replans (record { start = o.minute; count = r₂.count }) ms₂ fs₂
      turned g = rw m.minute (turned_moves a.replans m moving (rw before_is at f) (rw after_is at g))
