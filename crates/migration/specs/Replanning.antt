-- The waiting jobs are planned one after another over the slots: those before a slot are done with, and the lists are the profile of them
-- and of those after it that hold nodes.
-- Assumes nothing.
use Rattle.std.specs.Prelude.{◌≡◌, refl, true, false, ◌⊎◌, ℕ, suc, ◌+◌, ◌≤◌, ◌<◌, length, get_or, set, take}
use Rattle.std.proofs.Math.Path.{sym, ap}
use Rattle.std.proofs.Common.{subst, ◌∙◌, inl, inr, ⊎_elim, add-one, length-append, length-set, length-drop, take-append-drop, drop-cons, take_all, take-suc-set, drop-set-lt, length-take-le}
use mathlib.Core.List.{List, [], ◌∷◌, ◌++◌, map-append, append-nil}
use native.Mathlib.Omega.{arith}
use Rattle.std.proofs.Math.ListN.{drop, drop_of_length-le}
use Rattle.std.proofs.lemmas.List.{length-map}
use Rattle.std.proofs.Math.Seq.{append_snoc}
use Rattle.lists.specs.Tests.{case}
use Rattle.lists.specs.Lists.{In, here, there, all_at, in_left, in_right, in_append}
use Rattle.spans.specs.declared.Span.{Span}
use Rattle.spans.specs.Spans.{takes, used, free, last_end, earliest}
use Rattle.spans.proofs.EarliestStart.{earliest_same}
use Rattle.scheduler.specs.declared.Job.{Job}
use Rattle.scheduler.specs.declared.Scheduler.{Scheduler}
use Rattle.scheduler.specs.declared.Settings.{Settings}
use Rattle.scheduler.specs.Limits.{longest_hold, slots}
use Rattle.scheduler.specs.Jobs.{unused, is_waiting, is_holding}
use Rattle.scheduler.specs.Settings.{horizon, hold_time, until}
use Rattle.scheduler.specs.Times.{hold_pos, hold_le, until_is}
use Rattle.scheduler.specs.Table.{with_jobs}
use Rattle.scheduler.specs.Model.{Model, store, view, store_length}
use Rattle.jobs.specs.Soundness.{SoundJob, Sound}
use Rattle.conservative_table.specs.ListChanges.{rows}
use Rattle.conservative_table.specs.Points.{Kept}
use Rattle.conservative_table.specs.ProfileLists.{IsProfile, Laying, exact_kept, exact_few, exact_same}
use Rattle.conservative_index.specs.declared.Start.{Start}
use Rattle.conservative_index.specs.BuiltIndex.{Indexed}
use Rattle.conservative_index.specs.Intake.{Took}
use Rattle.conservative_index.specs.Search.{Searches, Sought}
use Rattle.conservative_rules.specs.Conservative.{span, spans, planned, placed}
use Rattle.conservative_laws.specs.Validity.{used_append, state_clean}
use Rattle.conservative_plan.specs.PlannedSlots.{span_at, slot_ends, last_slots, takes_unused}
use Rattle.easy_laws.specs.Settling.{idle}
use Rattle.easy_laws.specs.Validity.{Valid}
use Rattle.migration_rules.specs.Migration.{promise_settings, promise_model, kept, promised, planned_among, replanned, migrated}
use Rattle.migration_laws.specs.Holders.{holders}
use Rattle.migration.specs.HeldSlots.{held_slot, held_slots, SlotJob, slot_jobs, used_holders, held_fits}
use Rattle.migration.specs.StoredChange.{slots_after, stored_change, after_fits}

module _ (m : Model) where
  abbrev S : Settings
  S = m.settings

  abbrev P : Settings
  P = promise_settings m.settings

  abbrev T : Model
  T = promise_model m

  abbrev now : ℕ
  now = m.clock

  -- the slots before the change
  abbrev js : List Job
  js = (store m).jobs

  -- the plan while slot i has its turn: those passed stand as the change leaves them
  abbrev pub plan : List Job → ℕ → List Job
  plan ks i = take i ks ++ held_slots (drop i js)

  -- it is the turn of slot i
  pub record Replanning (ks : List Job) (i n : ℕ) (ms fs lo hi : List ℕ) : Type 0 where
    pub valid : Valid m
    pub low : i ≤ slots
    pub long : length ks ≡ slots
    -- those from it on are as they were
    pub back : drop i ks ≡ drop i js
    -- the definition's `done`, which take what the plan takes
    pub done : List Job
    pub same : (t : ℕ) → used t (spans P done) ≡ used t (spans P (plan ks i))
    -- and what is left comes to what is asked for
    pub rest : take i ks ++ replanned T done (drop i js) ≡ slots_after m
    pub profile : IsProfile S.nodes (spans P (plan ks i)) now n ms fs
    pub indexed : Indexed fs n lo hi

  -- a job that holds nodes stays where it is, whichever jobs are planned
  held_under : (t : ℕ) (done ys : List Job) → used t (spans P (held_slots ys)) ≤ used t (spans P (replanned T done ys))
  unfolding replanned
  held_under t done [] = omega arith
  held_under t done (j ∷ ys) =
      let new : Job = promised now (planned_among T done j) j in
      case (is_waiting j)
      (λ w. rw (w, idle j w) (omega (arith, held_under t (new ∷ done) ys, takes_unused P t)))
      (λ w. rw w (case (is_holding j) (λ h. rw h (omega (arith, held_under t done ys))) (λ h. rw h (omega (arith, held_under t done ys, takes_unused P t)))))

pub replanning_begins : {m : Model} {ks : List Job} {n : ℕ} {ms fs lo hi : List ℕ} → Valid m → ks ≡ js m
    → IsProfile (S m).nodes (spans (P m) (held_slots ks)) (now m) n ms fs → Indexed fs n lo hi → Replanning m ks 0 n ms fs lo hi
replanning_begins {m} {ks} {n} {ms} {fs} v e p q = record {
  valid = v;
  low = omega arith;
  long = ap length e ∙ store_length m v.ready.sound.few;
  back = e;
  done = holders m;
  same = λ t. sym (used_holders m t);
  rest = refl;
  profile = subst (λ (l : List Job). IsProfile (S m).nodes (spans (P m) (held_slots l)) (now m) n ms fs) e p;
  indexed = q;
}

module _ {m : Model} {ks : List Job} {i n : ℕ} {ms fs lo hi : List ℕ} (g : Replanning m ks i n ms fs lo hi) where
  abbrev s : Sound m
  s = g.valid.ready.sound

  slots_long : length (js m) ≡ slots
  slots_long = store_length m s.few

  pub replanning_ends : slots ≤ i → ks ≡ slots_after m
  unfolding replanned
  replanning_ends l =
      let none : drop i (js m) ≡ [] = drop_of_length-le (js m) {i = i} (omega (arith, slots_long)) in
      sym (append-nil ks) ∙ ap (λ (l : List Job). l ++ []) (sym (take_all i ks (omega (arith, g.long)))) ∙ (rw none at g.rest)

  module _ (l : i < slots) where
    abbrev j : Job
    j = get_or ks i unused

    -- before and after it
    abbrev xs : List Job
    xs = take i ks

    abbrev ys : List Job
    ys = drop (suc i) (js m)

    cut : drop i ks ≡ j ∷ drop (suc i) ks
    cut = drop-cons ks i unused (omega (arith, g.long))

    cut_before : drop i (js m) ≡ get_or (js m) i unused ∷ ys
    cut_before = drop-cons (js m) i unused (omega (arith, slots_long))

    both : j ∷ drop (suc i) ks ≡ get_or (js m) i unused ∷ ys
    both = sym cut ∙ g.back ∙ cut_before

    j_is : j ≡ get_or (js m) i unused
    j_is = ap (λ (l : List Job). get_or l 0 unused) both

    left : drop i (js m) ≡ j ∷ ys
    left = cut_before ∙ ap (λ (x : Job). x ∷ ys) (sym j_is)

    slot_job : SlotJob m j
    slot_job = subst (SlotJob m) (sym j_is) (all_at (SlotJob m) (js m) i unused (slot_jobs m s) (omega (arith, slots_long)))

    -- ## The plan

    -- all but this one
    abbrev others : List Job
    others = xs ++ held_slots ys

    plan_is : plan m ks i ≡ xs ++ held_slots (j ∷ ys)
    plan_is = rw left

    after_is : slots_after m ≡ xs ++ replanned (T m) g.done (j ∷ ys)
    after_is = sym g.rest ∙ rw left

    among : (t : ℕ) (k : Job) → used t (spans (P m) (xs ++ k ∷ held_slots ys)) ≡ takes t (span (P m) k) + used t (spans (P m) others)
    among t k = omega (arith, used_append (P m) t xs (k ∷ held_slots ys), used_append (P m) t xs (held_slots ys))

    -- no hold passes the last minute
    ends : (x : Job) → In x xs ⊎ In x (held_slots (j ∷ ys)) → until (P m) x ≤ horizon (P m)
    ends x (inl u) = slot_ends (after_fits m g.valid) x (rw after_is (in_left (replanned (T m) g.done (j ∷ ys)) u))
    ends x (inr u) =
        slot_ends (held_fits m s) x
        (subst (In x) (sym (map-append held_slot (take i (js m)) (drop i (js m))) ∙ ap held_slots (take-append-drop i (js m)))
        (in_right (held_slots (take i (js m))) (rw left u)))

    plan_ends : last_end (spans (P m) (plan m ks i)) ≤ horizon (P m)
    plan_ends = last_slots (P m) (horizon (P m)) (plan m ks i) (λ x u. ends x (in_append xs (rw plan_is at u)))

    others_ends : last_end (spans (P m) others) ≤ horizon (P m)
    others_ends = last_slots (P m) (horizon (P m)) others (λ x u. ends x (⊎_elim inl (λ r. inr (there r)) (in_append xs u)))

    others_few : length (spans (P m) others) < slots
    others_few =
        omega (
          arith,
          length-map others (span (P m)),
          length-append xs (held_slots ys),
          length-take-le i ks (omega (arith, g.long)),
          length-map ys held_slot,
          length-drop (suc i) (js m),
          slots_long,
        )

    few : n ≤ rows
    few =
        omega (
          arith,
          exact_few g.profile,
          length-map (plan m ks i) (span (P m)),
          length-append xs (held_slots (drop i (js m))),
          length-take-le i ks (omega (arith, g.long)),
          length-map (drop i (js m)) held_slot,
          length-drop i (js m),
          slots_long,
        )

    table : Kept (free (S m).nodes (spans (P m) (plan m ks i))) (now m) n ms fs
    table = exact_kept g.profile s.clock_to plan_ends

    -- the next turn, once the slot holds k
    module _ (k : Job) (done' : List Job) (rest : replanned (T m) g.done (j ∷ ys) ≡ k ∷ replanned (T m) done' ys)
        (same : (t : ℕ) → used t (spans (P m) done') ≡ used t (spans (P m) (xs ++ k ∷ held_slots ys)))
        {n' : ℕ} {ms' fs' lo' hi' : List ℕ} (p : IsProfile (S m).nodes (spans (P m) (xs ++ k ∷ held_slots ys)) (now m) n' ms' fs')
        (q : Indexed fs' n' lo' hi') where
      passed : take (i + 1) (set ks i k) ≡ xs ++ (k ∷ [])
      passed = rw (add-one i) (take-suc-set ks i k (omega (arith, g.long)))

      plan_next : plan m (set ks i k) (i + 1) ≡ xs ++ k ∷ held_slots ys
      plan_next = ap (λ (l : List Job). l ++ held_slots (drop (i + 1) (js m))) passed ∙ rw (add-one i) (append_snoc xs k (held_slots ys))

      next : Replanning m (set ks i k) (i + 1) n' ms' fs' lo' hi'
      next = record {
        valid = g.valid;
        low = omega arith;
        long = length-set ks i k ∙ g.long;
        back = drop-set-lt (i + 1) ks i k (omega arith) ∙ rw (add-one i) (ap (drop 1) both);
        done = done';
        same = λ t. same t ∙ ap (λ (l : List Job). used t (spans (P m) l)) (sym plan_next);
        rest =
            ap (λ (l : List Job). l ++ replanned (T m) done' (drop (i + 1) (js m))) passed
            ∙ rw (add-one i) (append_snoc xs k (replanned (T m) done' ys) ∙ ap (λ (l : List Job). xs ++ l) (sym rest) ∙ sym after_is);
        profile = subst (λ (l : List Job). IsProfile (S m).nodes (spans (P m) l) (now m) n' ms' fs') (sym plan_next) p;
        indexed = q;
      }

    -- ## One that does not wait

    pub kept_turn : is_waiting j ≡ false → Replanning m (set ks i (kept j)) (i + 1) n ms fs lo hi
    unfolding replanned
    kept_turn w =
        let e : plan m ks i ≡ xs ++ kept j ∷ held_slots ys = plan_is ∙ ap (λ (x : Job). xs ++ x ∷ held_slots ys) (slot_job.1 w) in
        next (kept j) g.done (rw w) (λ t. g.same t ∙ ap (λ (l : List Job). used t (spans (P m) l)) e)
        (subst (λ (l : List Job). IsProfile (S m).nodes (spans (P m) l) (now m) n ms fs) e g.profile) g.indexed

    -- ## One that waits

    module _ (w : is_waiting j ≡ true) where
      f : SoundJob (S m) (now m) j
      f = slot_job.0 w

      -- its planned start, as the definition has it
      at : ℕ
      at = planned_among (T m) g.done j

      abbrev new : Job
      new = promised (now m) at j

      -- it has no plan yet
      bare : (t : ℕ) → used t (spans (P m) (plan m ks i)) ≡ used t (spans (P m) others)
      bare t =
          let unheld : held_slot j ≡ unused = rw (idle j w) in
          let e = plan_is ∙ ap (λ (x : Job). xs ++ x ∷ held_slots ys) unheld in
          omega (arith, ap (λ (l : List Job). used t (spans (P m) l)) e, among t unused, takes_unused (P m) t)

      after_new : replanned (T m) g.done (j ∷ ys) ≡ new ∷ replanned (T m) (new ∷ g.done) ys
      unfolding replanned at
      after_new = rw w

      all_new : slots_after m ≡ xs ++ new ∷ replanned (T m) (new ∷ g.done) ys
      all_new = after_is ∙ ap (λ (l : List Job). xs ++ l) after_new

      new_until : until (P m) new ≡ at + hold_time (P m) j.estimate
      new_until = until_is (P m) new (state_clean (now m) at)

      new_ends : until (P m) new ≤ horizon (P m)
      new_ends = slot_ends (after_fits m g.valid) new (rw all_new (in_right xs (here refl)))

      room : (t : ℕ) → now m ≤ t → takes t (span (P m) new) + used t (spans (P m) others) ≤ (S m).nodes
      room t b =
          omega (
            arith,
            among t new,
            used_append (P m) t xs (new ∷ held_slots ys),
            used_append (P m) t xs (new ∷ replanned (T m) (new ∷ g.done) ys),
            held_under m t (new ∷ g.done) ys,
            ap (λ (l : List Job). used t (spans (P m) l)) all_new,
            (after_fits m g.valid).room t b,
          )

      -- in the words of the code
      module _ {hold : ℕ} (h : hold ≡ hold_time (P m) j.estimate) where
        pub searches : Searches ms fs n lo hi j.nodes hold
        searches = record {
          machine = (S m).nodes;
          spans = spans (P m) (plan m ks i);
          now = now m;
          profile = g.profile;
          clock = s.clock_to;
          ends = plan_ends;
          indexed = g.indexed;
          fit = few;
          enough = f.nodes_to;
          some = omega (arith, h, hold_pos (P m) j.estimate f.estimate_from);
        }

        module _ {r : Start} (sought : (q : Searches ms fs n lo hi j.nodes hold) → Sought q r) where
          start_is : r.minute ≡ at
          unfolding searches at planned
          start_is =
              (sought searches).minute
              ∙ earliest_same (S m).nodes (spans (P m) (plan m ks i)) (spans (P m) g.done) (now m) j.nodes hold f.nodes_to (λ t b. sym (g.same t))
              ∙ ap (earliest (S m).nodes (spans (P m) g.done) (now m) j.nodes) h

          pub span_low : (r.minute ≤ horizon (P m)) × (hold ≤ longest_hold)
          span_low = (omega (arith, start_is, new_until, new_ends), omega (arith, h, hold_le (P m) j.estimate))

          abbrev x : Span
          x = span_at j.nodes r.minute hold

          span_is : span (P m) new ≡ x
          span_is = rw (new_until, start_is, h)

          pub lays : Laying ms fs 0 n x
          lays = record {
            machine = (S m).nodes;
            spans = spans (P m) others;
            now = now m;
            profile = exact_same (spans (P m) others) g.profile (λ t b. bare t);
            few = others_few;
            clock = s.clock_to;
            ends = others_ends;
            until = omega (arith, start_is, new_until, new_ends, h);
            room = subst (λ (y : Span). (t : ℕ) → now m ≤ t → takes t y + used t (spans (P m) others) ≤ (S m).nodes) span_is room;
            near_in = table.table.some;
            near_to = omega (arith, table.table.first);
          }

          pub planned_turn : {n' : ℕ} {ms' fs' lo' hi' : List ℕ} → ((q : Laying ms fs 0 n x) → Indexed fs n lo hi → Took q n' ms' fs' lo' hi')
              → Replanning m (set ks i (kept (placed (now m) r.minute j))) (i + 1) n' ms' fs' lo' hi'
          unfolding lays
          planned_turn took =
              let k = took lays g.indexed in
              rw start_is
              (next new (new ∷ g.done) after_new (λ t. omega (arith, among t new, g.same t, bare t))
              (exact_same (spans (P m) (xs ++ new ∷ held_slots ys)) k.profile (λ t b. omega (arith, among t new, ap (takes t) span_is))) k.indexed)

-- with the kind that the change gives them, the slots are the model that it leaves
pub changed_scheduler : (d e : Scheduler) → e ≡ with_jobs d e.jobs → e.jobs ≡ slots_after (view d)
    → record { settings = promise_settings d.settings; clock = e.clock; next = e.next; jobs = e.jobs } ≡ store (migrated (view d))
unfolding view store migrated
changed_scheduler d e q p =
    ap (λ (x : Scheduler). record { settings = promise_settings d.settings; clock = x.clock; next = x.next; jobs = x.jobs }) q
    ∙ ap (λ (ks : List Job). record { settings = promise_settings d.settings; clock = d.clock; next = d.next; jobs = ks }) (p ∙ sym (stored_change (view d)))
