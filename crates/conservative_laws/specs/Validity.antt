-- What holds of every model that openings and calls of conservative backfilling hand back (document 01: "The one premise"), and what becomes of a
-- job in a call. Outcomes.antt has the ways in which calls come out.
-- Assumes nothing.
use Rattle.std.specs.Prelude.{ℕ, suc, ◌+◌, ◌≤◌, ◌<◌, ◌≡◌, refl, Bool, true, false, not, ◌&&◌, ◌⊎◌, eqb, length}
use Rattle.std.proofs.Common.{arith, ap, inl, inr, eqb-true}
use mathlib.Core.List.{List, [], ◌∷◌, ◌++◌, map, map-append}
use Rattle.std.proofs.lemmas.Bool.{eqb-false}
use Rattle.lists.specs.Tests.{case, true_false, both, le_or, on}
use Rattle.lists.specs.Lists.{sum, In, here, there, in_nil, in_cons, keep_in, sum_append, sum_map, sum_keep, sum_le}
use Rattle.spans.specs.declared.Span.{Span}
use Rattle.spans.specs.Spans.{takes, used, free, earliest, Fits, Earliest}
use Rattle.spans.proofs.UsedNodes.{takes_in, takes_before, takes_after, takes_less}
use Rattle.spans.proofs.EarliestStart.{earliest_is}
use Rattle.scheduler.specs.declared.Kind.TheVariants.{Conservative}
use Rattle.scheduler.specs.declared.State.{State}
use Rattle.scheduler.specs.declared.State.TheVariants.{Waiting, Running}
use Rattle.scheduler.specs.declared.Job.{Job}
use Rattle.scheduler.specs.declared.Tenant.{Tenant}
use Rattle.scheduler.specs.Tenants.{same_tenant}
use Rattle.scheduler.specs.declared.Opening.{Opening}
use Rattle.scheduler.specs.declared.Select.{Select}
use Rattle.scheduler.specs.States.{live?, waiting?, running?, cleaning?, holding?}
use Rattle.scheduler.specs.Jobs.{is_waiting, is_running, is_holding, cleaning, held}
use Rattle.scheduler.specs.declared.Settings.{Settings}
use Rattle.scheduler.specs.Settings.{refused_settings, horizon, hold_time}
use Rattle.scheduler.specs.Times.{run_pos, hold_pos, end_is, until_is, until_end, until_cleaned, until_at, until_still}
use Rattle.scheduler.specs.Table as table
use Rattle.scheduler.specs.Table.{nodes_held, live_of, tickets_of, ends, staying, ceased, remaining}
use Rattle.scheduler.specs.Model.{Model, empty}
use Rattle.scheduler.specs.Answers.{accepts}
use Rattle.scheduler.specs.Opening.{opening_refusal, opening}
use Rattle.jobs.specs.Soundness.{SoundJob, Sound, opening_sound, Leaving, running_clean, waiting_clean, ends_runs, ends_by}
use Rattle.jobs.specs.Amended.{waits_runs}
use Rattle.conservative_rules.specs.Conservative.{span, spans, state_at, placed, moved, pass, turned}

-- document 02, No. 11: "Loose records now keep intake minute, .. r at intake .. and any forecast"; here a record lacks these three
abbrev pub Unranked : Job → Type 0
Unranked j = (j.submitted ≡ 0) × (j.rank ≡ 0) × (j.forecast ≡ 0)

pub record Valid (m : Model) : Type 0 where
  pub kind : m.settings.kind ≡ Conservative
  pub sound : Sound m
  -- in no minute from now on does the plan take more nodes than there are
  pub room : (t : ℕ) → m.clock ≤ t → used t (spans m.settings m.jobs) ≤ m.settings.nodes
  -- no job is planned for later than promised, and a waiting one for later than now
  pub promised : (j : Job) → In j m.jobs → j.start ≤ j.promise
  -- a promise is a minute of the clock
  pub promise_to : (j : Job) → In j m.jobs → j.promise ≤ horizon m.settings
  pub ahead : (j : Job) → In j m.jobs → is_waiting j ≡ true → m.clock < j.start
  pub unranked : (j : Job) → In j m.jobs → Unranked j

-- ## Two lists of jobs, side by side

abbrev pub Zip : (Job → Job → Type 0) → List Job → List Job → Type 0
Zip R [] [] = Unit {0}
Zip R [] (k ∷ ks) = ⊥
Zip R (j ∷ js) [] = ⊥
Zip R (j ∷ js) (k ∷ ks) = R j k × Zip R js ks

module _ (R : Job → Job → Type 0) where
  pub zip_map : (Q : Job → Job → Type 0) (js ks : List Job) → ((j k : Job) → In j js → R j k → Q j k) → Zip R js ks → Zip Q js ks
  zip_map Q [] [] f z = tt
  zip_map Q [] (k ∷ ks) f z = absurd z
  zip_map Q (j ∷ js) [] f z = absurd z
  zip_map Q (j ∷ js) (k ∷ ks) f z = (f j k (here refl) z.0, zip_map Q js ks (λ x y i. f x y (there i)) z.1)

  -- whom a job of the second list stands beside, and whom one of the first
  pub zip_right : (js ks : List Job) {k : Job} → Zip R js ks → In k ks → (j : Job) × In j js × R j k
  zip_right [] [] z i = in_nil i
  zip_right [] (y ∷ ys) z i = absurd z
  zip_right (x ∷ xs) [] z i = absurd z
  zip_right (x ∷ xs) (y ∷ ys) {k} z i = go (in_cons i) (λ l. zip_right xs ys z.1 l)
    where
      go : (k ≡ y) ⊎ In k ys → (In k ys → (j : Job) × In j xs × R j k) → (j : Job) × In j (x ∷ xs) × R j k
      go (inl e) f = (x, here refl, rw e z.0)
      go (inr l) f = let r = f l in (r.0, there r.1, r.2)

  pub zip_left : (js ks : List Job) {j : Job} → Zip R js ks → In j js → (k : Job) × In k ks × R j k
  zip_left [] [] z i = in_nil i
  zip_left [] (y ∷ ys) z i = absurd z
  zip_left (x ∷ xs) [] z i = absurd z
  zip_left (x ∷ xs) (y ∷ ys) {j} z i = go (in_cons i) (λ l. zip_left xs ys z.1 l)
    where
      go : (j ≡ x) ⊎ In j xs → (In j xs → (k : Job) × In k ys × R j k) → (k : Job) × In k (y ∷ ys) × R j k
      go (inl e) f = (y, here refl, rw e z.0)
      go (inr l) f = let r = f l in (r.0, there r.1, r.2)

  pub zip_length : (js ks : List Job) → Zip R js ks → length ks ≡ length js
  zip_length [] [] z = refl
  zip_length [] (k ∷ ks) z = absurd z
  zip_length (j ∷ js) [] z = absurd z
  zip_length (j ∷ js) (k ∷ ks) z = ap suc (zip_length js ks z.1)

  pub zip_live : (t : Tenant) (js ks : List Job) → ((j k : Job) → R j k → k.tenant ≡ j.tenant) → Zip R js ks → live_of t ks ≡ live_of t js
  zip_live t [] [] f z = refl
  zip_live t [] (k ∷ ks) f z = absurd z
  zip_live t (j ∷ js) [] f z = absurd z
  zip_live t (j ∷ js) (k ∷ ks) f z =
      omega (arith, ap (λ (x : Tenant). on (same_tenant x t) 1) (f j k z.0), zip_live t js ks f z.1)

  pub zip_tickets : (js ks : List Job) → ((j k : Job) → R j k → k.ticket ≡ j.ticket) → Zip R js ks → tickets_of js ≡ tickets_of ks
  zip_tickets [] [] f z = refl
  zip_tickets [] (k ∷ ks) f z = absurd z
  zip_tickets (j ∷ js) [] f z = absurd z
  zip_tickets (j ∷ js) (k ∷ ks) f z = rw (f j k z.0, zip_tickets js ks f z.1)

-- ## What jobs take

module _ (S : Settings) (t : ℕ) where
  -- the nodes that a job takes in minute t
  abbrev pub taken : Job → ℕ
  taken j = takes t (span S j)

  pub used_jobs : (js : List Job) → used t (spans S js) ≡ sum taken js
  used_jobs js = sum_map (takes t) (span S) js

  pub used_append : (xs ys : List Job) → used t (spans S (xs ++ ys)) ≡ used t (spans S xs) + used t (spans S ys)
  used_append xs ys = rw (map-append (span S) xs ys) (sum_append (takes t) (spans S xs) (spans S ys))

-- the jobs that remain take no more than all did: a run that ends does so by its time
pub used_remaining : (m : Model) (c : ℕ) (s : Select) → Sound m → Leaving m c s → (t : ℕ)
    → used t (spans m.settings (remaining m.settings c s m.jobs)) ≤ used t (spans m.settings m.jobs)
used_remaining m c s v l t =
    omega (
      arith,
      used_jobs S t m.jobs,
      used_jobs S t (remaining S c s m.jobs),
      sum_map (taken S t) (ceased c s) (staying S s m.jobs),
      sum_le (λ (j : Job). taken S t (ceased c s j)) (taken S t) (staying S s m.jobs)
          (λ j i. one j (v.each j (keep_in (λ (j : Job). not (table.leaves S s j)) m.jobs i).0)),
      sum_keep (taken S t) (table.leaves S s) m.jobs,
    )
  where
    S : Settings
    S = m.settings

    one : (j : Job) → SoundJob S m.clock j → taken S t (ceased c s j) ≤ taken S t j
    one j f =
        case (ends s j)
        (λ e. rw e (takes_less t (span S (cleaning c j)) (span S j) refl
        (omega (arith, until_cleaned S c j, ends_by m c s l j f e, until_end S j (running_clean j.state (ends_runs s j e)))) refl))
        (λ e. rw e (omega arith))

-- the nodes that are held now are taken now
pub held_used : (S : Settings) (clock : ℕ) (js : List Job) → ((j : Job) → In j js → SoundJob S clock j) → nodes_held js ≤ used clock (spans S js)
held_used S clock js f = omega (arith, used_jobs S clock js, sum_le held (taken S clock) js (λ j i. one j (f j i)))
  where
    one : (j : Job) → SoundJob S clock j → held j ≤ taken S clock j
    one j s =
        case (is_holding j)
        (λ r. rw r (omega (arith, takes_in clock (span S j) (s.holds r).0 (s.holds r).1)))
        (λ r. rw r (omega arith))

-- a job put where it fits leaves no minute with more than there is
pub room_with : (N : ℕ) (xs : List Span) (x : Span) (now n h s : ℕ) → x.from ≡ s → x.until ≡ s + h → x.nodes ≡ n → Earliest (free N xs) now n h s
    → ((t : ℕ) → now ≤ t → used t xs ≤ N) → (t : ℕ) → now ≤ t → takes t x + used t xs ≤ N
room_with N xs x now n h s a b c E f t l = go (le_or s t) (le_or (s + h) t)
  where
    go : (s ≤ t) ⊎ (t < s) → (s + h ≤ t) ⊎ (t < s + h) → takes t x + used t xs ≤ N
    go (inr p) q = omega (arith, f t l, takes_before t x (omega arith))
    go (inl p) (inl q) = omega (arith, f t l, takes_after t x (omega arith))
    go (inl p) (inr q) = omega (arith, f t l, takes_in t x (omega arith) (omega arith), E.fit t p q)

-- ## What becomes of a job that stays, in a call that leaves the clock at now

pub data Follows (now : ℕ) (j : Job) : Job → Type 0 where
  -- one that does not wait for now is as it was
  stays : (is_waiting j ≡ true → now < j.start) → Follows now j j
  -- one that waits is planned for a minute no later than before, and starts if that is now
  moves : (s : ℕ) → is_waiting j ≡ true → now ≤ s → s ≤ j.start → Follows now j (placed now s j)

-- a job placed now or later is in order
pub state_live : (now s : ℕ) → live? (state_at now s) ≡ true
state_live now s = case (eqb s now) (λ e. rw e) (λ e. rw e)

-- one that does not wait starts now
pub state_now : (p : State → Bool) → p Waiting ≡ false → (now s : ℕ) → p (state_at now s) ≡ true → s ≡ now
state_now p w now s r = case (eqb s now) (λ e. eqb-true s now e) (λ e. true_false (p Waiting) (rw e at r) w)

pub state_clean : (now s : ℕ) → cleaning? (state_at now s) ≡ false
state_clean now s = case (eqb s now) (λ e. rw e) (λ e. rw e)

pub state_waits : (now s : ℕ) → now ≤ s → waiting? (state_at now s) ≡ true → now < s
state_waits now s l w = case (eqb s now) (λ e. true_false false (rw e at w) refl) (λ e. omega (arith, eqb-false s now e))

pub follows_ticket : (now : ℕ) (j k : Job) → Follows now j k → k.ticket ≡ j.ticket
follows_ticket now j k (stays e) = refl
follows_ticket now j k (moves s e a b) = refl

pub follows_tenant : (now : ℕ) (j k : Job) → Follows now j k → k.tenant ≡ j.tenant
follows_tenant now j k (stays e) = refl
follows_tenant now j k (moves s e a b) = refl

pub follows_promise : (now : ℕ) (j k : Job) → Follows now j k → k.promise ≡ j.promise
follows_promise now j k (stays e) = refl
follows_promise now j k (moves s e a b) = refl

pub follows_unranked : (now : ℕ) (j k : Job) → Follows now j k → Unranked j → Unranked k
follows_unranked now j k (stays e) u = u
follows_unranked now j k (moves s e a b) u = u

pub follows_start : (now : ℕ) (j k : Job) → Follows now j k → k.start ≤ j.start
follows_start now j k (stays e) = omega arith
follows_start now j k (moves s e a b) = b

pub follows_ahead : (now : ℕ) (j k : Job) → Follows now j k → is_waiting k ≡ true → now < k.start
follows_ahead now j k (stays e) w = e w
follows_ahead now j k (moves s e a b) w = state_waits now s a w

-- a job that waits and comes to run has its start now
pub follows_begins : (now : ℕ) (j k : Job) → Follows now j k → is_waiting j ≡ true → is_running k ≡ true → k.start ≡ now
follows_begins now j k (stays e) w r = true_false (is_running j) r (waits_runs j.state w)
follows_begins now j k (moves s e a b) w r = state_now running? refl now s r

pub follows_sound : (S : Settings) (now : ℕ) (j k : Job) → SoundJob S now j → Follows now j k → SoundJob S now k
follows_sound S now j k o (stays e) = o
follows_sound S now j k o (moves s e a b) = record {
  is_live = state_live now s;
  nodes_from = o.nodes_from;
  nodes_to = o.nodes_to;
  estimate_from = o.estimate_from;
  estimate_to = o.estimate_to;
  least_to = o.least_to;
  ends = omega (arith, o.ends, until_is S j (waiting_clean j.state e), until_at S (state_at now s) s j (state_clean now s));
  holds = λ r.
      omega (arith, state_now holding? refl now s r, until_at S (state_at now s) s j (state_clean now s), hold_pos S j.estimate o.estimate_from);
  runs = λ r. omega (arith, state_now running? refl now s r, end_is S (placed now s j), run_pos S j.estimate o.estimate_from);
  cleaned = λ r. true_false (cleaning? (state_at now s)) r (state_clean now s);
  no_end = λ r. refl;
  tenant_is = o.tenant_is;
}

-- the jobs after a call, beside those that stay
pub record Moved (S : Settings) (now : ℕ) (js ks : List Job) : Type 0 where
  pub follow : Zip (Follows now) js ks
  pub room : (t : ℕ) → now ≤ t → used t (spans S ks) ≤ S.nodes

-- ## The pass of an early end or a withdrawal

module _ (S : Settings) (now : ℕ) where
  pub moved_follows : (others : List Job) (j : Job) → j.nodes ≤ S.nodes → (is_waiting j ≡ true → now < j.start)
      → ((t : ℕ) → now ≤ t → takes t (span S j) + used t (spans S others) ≤ S.nodes)
      → Follows now j (moved S now others j) × ((t : ℕ) → now ≤ t → takes t (span S (moved S now others j)) + used t (spans S others) ≤ S.nodes)
  moved_follows others j l w f = case (is_waiting j) (λ q. rw q (at q)) (λ q. rw q (stays (λ w. true_false (is_waiting j) w q), f))
    where
      h : ℕ
      h = hold_time S j.estimate

      s : ℕ
      s = earliest S.nodes (spans S others) now j.nodes h

      E : Earliest (free S.nodes (spans S others)) now j.nodes h s
      E = earliest_is S.nodes (spans S others) now j.nodes h l

      -- where it was it fits still
      old : is_waiting j ≡ true → now < j.start → Fits (free S.nodes (spans S others)) j.nodes h j.start
      old u b t p q = omega (arith, f t (omega arith), takes_in t (span S j) p (omega (arith, until_is S j (waiting_clean j.state u))))

      at : is_waiting j ≡ true
          → Follows now j (placed now s j) × ((t : ℕ) → now ≤ t → takes t (span S (placed now s j)) + used t (spans S others) ≤ S.nodes)
      at q = (
        moves s q E.later (E.smallest j.start (omega (arith, w q)) (old q (w q))),
        room_with S.nodes (spans S others) (span S (placed now s j)) now j.nodes h s refl
            (until_at S (state_at now s) s j (state_clean now s)) refl E (λ t a. omega (arith, f t a)),
      )

  pub pass_follows : (done js : List Job) → ((j : Job) → In j js → j.nodes ≤ S.nodes) → ((j : Job) → In j js → is_waiting j ≡ true → now < j.start)
      → ((t : ℕ) → now ≤ t → used t (spans S done) + used t (spans S js) ≤ S.nodes)
      → Zip (Follows now) js (pass S now done js) × ((t : ℕ) → now ≤ t → used t (spans S done) + used t (spans S (pass S now done js)) ≤ S.nodes)
  unfolding pass
  pass_follows done [] l w f = (tt, f)
  pass_follows done (j ∷ js) l w f =
      let k : Job = moved S now (done ++ js) j in
      let one = moved_follows (done ++ js) j (l j (here refl)) (w j (here refl)) (λ t a. omega (arith, f t a, used_append S t done js)) in
      let rest =
      pass_follows (k ∷ done) js (λ x i. l x (there i)) (λ x i. w x (there i)) (λ t a. omega (arith, one.1 t a, used_append S t done js)) in
      ((one.0, rest.0), λ t a. omega (arith, rest.1 t a))

-- ## The turn of a tick

turned_follows : (now : ℕ) (j : Job) → (is_waiting j ≡ true → now ≤ j.start) → Follows now j (turned now j)
turned_follows now j w =
    case (is_waiting j)
    (λ q. case (eqb j.start now)
    (λ e. let f : Follows now j (placed now j.start j) = moves j.start q (w q) (omega arith) in rw (q, e) (rw e at f))
    (λ e. rw (q, e) (stays (λ u. omega (arith, w q, eqb-false j.start now e)))))
    (λ q. rw q (stays (λ u. true_false (is_waiting j) u q)))

turned_takes : (S : Settings) (now t : ℕ) (j : Job) → takes t (span S (turned now j)) ≡ takes t (span S j)
turned_takes S now t j =
    case (is_waiting j && eqb j.start now)
    (λ q. rw (q, until_still S Running j refl (waiting_clean j.state (both (is_waiting j) (eqb j.start now) q).0)))
    (λ q. rw q)

module _ (S : Settings) (now : ℕ) where
  pub turns_follow : (js : List Job) → ((j : Job) → In j js → is_waiting j ≡ true → now ≤ j.start) → Zip (Follows now) js (map (turned now) js)
  turns_follow [] w = tt
  turns_follow (j ∷ js) w = (turned_follows now j (w j (here refl)), turns_follow js (λ x i. w x (there i)))

  pub turns_used : (t : ℕ) (js : List Job) → used t (spans S (map (turned now) js)) ≡ used t (spans S js)
  turns_used t [] = refl
  turns_used t (j ∷ js) = omega (arith, turned_takes S now t j, turns_used t js)

-- ## Openings

empty_valid : (S : Settings) (c t : ℕ) → S.kind ≡ Conservative → Sound (empty S c t) → Valid (empty S c t)
empty_valid S c t e s = record {
  kind = e;
  sound = s;
  room = λ t a. omega arith;
  promised = λ j i. in_nil i;
  promise_to = λ j i. in_nil i;
  ahead = λ j i w. in_nil i;
  unranked = λ j i. in_nil i;
}

pub opening_valid : (o : Opening) → o.settings.kind ≡ Conservative → Valid (opening o)
unfolding opening
opening_valid o k =
    case (accepts (opening_refusal o))
    (λ e. rw e (empty_valid o.settings o.minute o.ticket k (rw e at (opening_sound o))))
    (λ e. rw e (empty_valid (refused_settings o.settings.kind) 0 1 k (rw e at (opening_sound o))))
