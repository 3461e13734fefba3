-- The ways in which a call of conservative backfilling can come out. All laws of single calls are proved from these few ways. What a call hands
-- back is valid.
-- Assumes nothing.
use Rattle.std.specs.Prelude.{ℕ, suc, ◌+◌, ◌≤◌, ◌<◌, ◌≡◌, refl, true, false, not, List, [], ◌∷◌, ◌++◌, map, ◌⊎◌, ltb}
use Rattle.std.proofs.Common.{arith, sym, ap, subst, inl, inr, ltb-false}
use Rattle.std.proofs.lemmas.Bool.{not-false}
use Rattle.lists.specs.Tests.{case, true_false}
use Rattle.lists.specs.Lists.{keep, any, In, in_nil, in_cons, in_append, keep_none, sum_append}
use Rattle.spans.specs.Spans.{used, free, Earliest}
use Rattle.spans.proofs.EarliestStart.{earliest_is}
use Rattle.scheduler.specs.declared.Job.{Job}
use Rattle.scheduler.specs.declared.Submission.{Submission}
use Rattle.scheduler.specs.declared.Refusal.{Refusal}
use Rattle.scheduler.specs.declared.Refusal.TheVariants as refusal
use Rattle.scheduler.specs.declared.Departure.{Departure}
use Rattle.scheduler.specs.declared.Departure.TheVariants.{Complete, Cancel}
use Rattle.scheduler.specs.declared.Select.{Select}
use Rattle.scheduler.specs.declared.Select.TheVariants as select
use Rattle.scheduler.specs.States.{running?, cleaning?, holding?}
use Rattle.scheduler.specs.Jobs.{is_waiting, cleaning, held, picks}
use Rattle.scheduler.specs.declared.Settings.{Settings}
use Rattle.scheduler.specs.Settings.{horizon, hold_time, until}
use Rattle.scheduler.specs.Times.{run_pos, hold_pos, end_is, until_fresh}
use Rattle.scheduler.specs.Table as table
use Rattle.scheduler.specs.Table.{tickets_of, ends, ceased, remaining}
use Rattle.scheduler.specs.Model.{Model, ending, without}
use Rattle.scheduler.specs.Answers.{Result, accepts, refuse, refusing}
use Rattle.scheduler.specs.Refusals.{not_there_of, depart_refusal, tick_refusal}
use Rattle.scheduler.specs.declared.Amendment.{Amendment}
use Rattle.scheduler.specs.Amending.{in_place_refusal, supersede, in_place_of}
use Rattle.jobs.specs.Order.{asc_same}
use Rattle.jobs.specs.Departing.{not_there, departs_alone}
use Rattle.jobs.specs.Judgement.{judged_by}
use Rattle.jobs.specs.Soundness.{SoundJob, Sound, Fit, passed, submit_fit, sound_join, Leaving, early, in_time_lem, sound_leave}
use Rattle.jobs.specs.Soundness.{remaining_in, remained_waits}
use Rattle.jobs.specs.Amended.{InPlace, inplace_fit}
use Rattle.history.specs.Calls.{Call, submit, depart, tick, amend, unchanged}
use Rattle.history.specs.News.{News, news_of, clock_after, nothing, refused_news, unchanged_news}
use Rattle.history_proof.specs.Departures.{Departs}
use Rattle.conservative_rules.specs.Conservative.{span, spans, planned, state_at, new_job, with_new, submit_refusal, submitted}
use Rattle.conservative_rules.specs.Conservative.{advanced, compressed, departed, turned, ticked, call, amended_to, amended}
use Rattle.conservative_laws.specs.Validity.{Unranked, Valid, zip_right, zip_length, zip_live, zip_tickets, used_append, used_remaining, held_used}
use Rattle.conservative_laws.specs.Validity.{room_with}
use Rattle.conservative_laws.specs.Validity.{Follows, state_live, state_now, state_clean, state_waits, follows_ticket, follows_tenant, follows_promise}
use Rattle.conservative_laws.specs.Validity.{follows_start, follows_ahead, follows_unranked, follows_sound, Moved, turns_follow, turns_used}
use Rattle.conservative_laws.specs.Compression.{left_compressible, compressed_is}
use Rattle.conservative_laws.specs.Amended.{valid_compressible, moved_valid, inplace_valid}

-- ## How a call comes out

-- what the answer says where those that a test picks leave, and nobody comes
pub record Says (m : Model) (e : News) (clock : ℕ) (s : Select) : Type 0 where
  pub passes : clock_after e m.clock ≡ clock
  pub none_comes : e.came ≡ []
  pub departs : Departs m clock s e

pub data CameOut (m : Model) : Call → Result → Type 0 where
  -- a corrected order in place: those superseded come to be `after`
  amends : (a : Amendment) (after : List Job) → InPlace m a → Moved m.settings m.clock (map (supersede a) m.jobs) after
      → CameOut m (amend a) (amended_to m a after)
  -- refused, or a profile: nothing changes
  idle : (c : Call) (r : Refusal) → news_of c (refusing r) ≡ nothing → CameOut m c (refuse m r)
  -- a submission is taken
  joins : (o : Submission) → Fit m o → planned m o + hold_time m.settings o.estimate ≤ horizon m.settings → CameOut m (submit o) (submitted m o (planned m o))
  -- an early end, a withdrawal or a tick: runs end, jobs leave, and those that remain come to be `after`
  leaves : (c : Call) (clock : ℕ) (s : Select) (after : List Job) → Leaving m clock s → Moved m.settings clock (remaining m.settings clock s m.jobs) after
      → Says m (news_of c (advanced m clock s after).reply) clock s → CameOut m c (advanced m clock s after)

-- ### What the answer says

-- where nobody is withdrawn
none_withdrawn : (js : List Job) → [] ≡ tickets_of (keep (λ (j : Job). false) js)
none_withdrawn js = sym (ap tickets_of (keep_none (λ (j : Job). false) js (λ j i. refl)))

-- ### Every call comes out in one of these ways

pub outcome : (m : Model) (c : Call) → Valid m → CameOut m c (call m c)
unfolding call submit_refusal depart_refusal tick_refusal departed ticked advanced amended
outcome m (submit o) v =
    let s = planned m o in
    judged_by (CameOut m (submit o)) m (submit_refusal m o s) (submitted m o s) (λ a. taken a)
    (λ a. idle (submit o) _ (refused_news (submit o) (submit_refusal m o s) a))
  where
    taken : accepts (submit_refusal m o (planned m o)) ≡ true → CameOut m (submit o) (submitted m o (planned m o))
    taken a =
        let f = submit_fit m o _ a in
        let b = passed (ltb (horizon m.settings) (planned m o + hold_time m.settings o.estimate)) refusal.PastHorizon _ refl f.1 in
        joins o f.0 (ltb-false (horizon m.settings) (planned m o + hold_time m.settings o.estimate) b.0)
outcome m (depart h t) v =
    judged_by (CameOut m (depart h t)) m (depart_refusal m h t) (departed m h t) (λ a. taken a)
    (λ a. idle (depart h t) _ (refused_news (depart h t) (depart_refusal m h t) a))
  where
    S : Settings
    S = m.settings

    u : Select
    u = select.Departing h t

    js : List Job
    js = remaining S m.clock u m.jobs

    says : (h : Departure) (after : List Job) → any (picks (select.Departing h t)) m.jobs ≡ true
        → Says m (news_of (depart h t) (advanced m m.clock (select.Departing h t) after).reply) m.clock (select.Departing h t)
    says Complete after f = record {
      passes = refl;
      none_comes = refl;
      departs = record { leaving = early Complete t; ended_are = refl; withdrew_are = none_withdrawn m.jobs; none_amended = refl };
    }
    says Cancel after f = record {
      passes = refl;
      none_comes = refl;
      departs = record { leaving = early Cancel t; ended_are = refl; withdrew_are = sym (departs_alone Cancel t 1 m.jobs v.sound.asc f); none_amended = refl };
    }

    taken : accepts (depart_refusal m h t) ≡ true → CameOut m (depart h t) (departed m h t)
    taken a =
        let p = compressed_is S m.clock js (left_compressible m h t v) in
        let b = passed (not (any (picks u) m.jobs)) (not_there_of h) _ (not_there h) a in
        leaves (depart h t) m.clock u (compressed S m.clock js) (early h t) (record { follow = p.follow; room = p.ready.room })
        (says h _ (not-false (any (picks u) m.jobs) b.0))
outcome m tick v =
    judged_by (CameOut m tick) m (tick_refusal m) (ticked m) (λ a. taken a) (λ a. idle tick _ (refused_news tick (tick_refusal m) a))
  where
    S : Settings
    S = m.settings

    now : ℕ
    now = suc m.clock

    u : Select
    u = ending m

    js : List Job
    js = remaining S now u m.jobs

    taken : accepts (tick_refusal m) ≡ true → CameOut m tick (ticked m)
    taken a =
        let b = passed (ltb (horizon S) now) refusal.PastHorizon [] refl a in
        let l = in_time_lem (ltb-false (horizon S) now b.0) in
        leaves tick now u (map (turned now) js) l
        (record {
          follow = turns_follow S now js (λ j i w. v.ahead j (remained_waits S now u m.jobs i w).0 w);
          room = λ t k. omega (arith, v.room t (omega arith), used_remaining m now u v.sound l t, turns_used S now t js);
        })
        (record {
          passes = refl;
          none_comes = refl;
          departs = record { leaving = l; ended_are = refl; withdrew_are = none_withdrawn m.jobs; none_amended = refl };
        })
outcome m (amend a) v =
    judged_by (CameOut m (amend a)) m (in_place_refusal m a) (amended m a)
    (λ x. let f = inplace_fit m a x in
    let p = compressed_is m.settings m.clock (map (supersede a) m.jobs)
    (valid_compressible (in_place_of m a) (inplace_valid m a f.range f.shrinks v)) in
    amends a _ f (record { follow = p.follow; room = p.ready.room }))
    (λ x. idle (amend a) _ (refused_news (amend a) (in_place_refusal m a) x))
outcome m (unchanged r) v = idle (unchanged r) r (unchanged_news r r)

-- ## Every model handed back is valid

joins_valid : (m : Model) (o : Submission) → Valid m → Fit m o → planned m o + hold_time m.settings o.estimate ≤ horizon m.settings
    → Valid (with_new m o (planned m o))
unfolding planned
joins_valid m o v f l = record {
  kind = v.kind;
  sound = sound_join m o j v.sound f one refl refl
      (omega (arith, held_used S now (m.jobs ++ (j ∷ [])) each, sum_append held m.jobs (j ∷ []), room now (omega arith)));
  room = room;
  promised = λ k i. by_place (λ (x : Job). x.start ≤ x.promise) v.promised (omega arith) k i;
  promise_to = λ k i. by_place (λ (x : Job). x.promise ≤ horizon S) v.promise_to (omega arith) k i;
  ahead = λ k i. by_place (λ (x : Job). is_waiting x ≡ true → now < x.start) v.ahead (λ w. state_waits now s E.later w) k i;
  unranked = λ k i. by_place Unranked v.unranked (refl, refl, refl) k i;
}
  where
    S : Settings
    S = m.settings

    now : ℕ
    now = m.clock

    s : ℕ
    s = planned m o

    j : Job
    j = new_job m o s

    until_new : until S j ≡ s + hold_time S o.estimate
    until_new = until_fresh S m.next o (state_at now s) s s (state_clean now s)

    E : Earliest (free S.nodes (spans S m.jobs)) now o.nodes (hold_time S o.estimate) s
    E = earliest_is S.nodes (spans S m.jobs) now o.nodes (hold_time S o.estimate) f.nodes_to

    room : (t : ℕ) → now ≤ t → used t (spans S (m.jobs ++ (j ∷ []))) ≤ S.nodes
    room t a = omega (
      arith,
      used_append S t m.jobs (j ∷ []),
      room_with S.nodes (spans S m.jobs) (span S j) now o.nodes (hold_time S o.estimate) s refl until_new refl E v.room t a,
    )

    one : SoundJob S now j
    one = record {
      is_live = state_live now s;
      nodes_from = f.nodes_from;
      nodes_to = f.nodes_to;
      estimate_from = f.estimate_from;
      estimate_to = f.estimate_to;
      least_to = f.least_to;
      ends = omega (arith, l, until_new);
      holds = λ r. omega (arith, state_now holding? refl now s r, until_new, hold_pos S o.estimate f.estimate_from);
      runs = λ r. omega (arith, state_now running? refl now s r, end_is S j, run_pos S o.estimate f.estimate_from);
      cleaned = λ r. true_false (cleaning? (state_at now s)) r (state_clean now s);
      no_end = λ r. refl;
      tenant_is = f.tenant_is;
    }

    by_place : (P : Job → Type 0) → ((k : Job) → In k m.jobs → P k) → P j → (k : Job) → In k (m.jobs ++ (j ∷ [])) → P k
    by_place P g p k i = go (in_append m.jobs i)
      where
        last : (k ≡ j) ⊎ In k [] → P k
        last (inl e) = rw e p
        last (inr u) = in_nil u

        go : In k m.jobs ⊎ In k (j ∷ []) → P k
        go (inl u) = g k u
        go (inr u) = last (in_cons u)

    each : (k : Job) → In k (m.jobs ++ (j ∷ [])) → SoundJob S now k
    each k i = by_place (SoundJob S now) v.sound.each one k i

leaves_valid : (m : Model) (c : ℕ) (s : Select) (ks : List Job) → Valid m → Leaving m c s → Moved m.settings c (remaining m.settings c s m.jobs) ks
    → Valid (record { settings = m.settings; clock = c; next = m.next; jobs = ks })
leaves_valid m c s ks v l g = record {
  kind = v.kind;
  sound = record {
    nodes_from = old.nodes_from;
    nodes_to = old.nodes_to;
    longest_from = old.longest_from;
    longest_to = old.longest_to;
    cleanup_to = old.cleanup_to;
    quotas = old.quotas;
    one_each = old.one_each;
    clock_to = old.clock_to;
    next_from = old.next_from;
    next_to = old.next_to;
    few = omega (arith, old.few, zip_length (Follows c) js ks g.follow);
    asc = asc_same 1 js ks (zip_tickets (Follows c) js ks (follows_ticket c) g.follow) old.asc;
    below = λ k i. let b = beside k i in omega (arith, old.below b.0 b.1, follows_ticket c b.0 k b.2);
    each = each;
    capacity = omega (arith, held_used m.settings c ks each, g.room c (omega arith));
    shares = λ t. omega (arith, old.shares t, zip_live (Follows c) t js ks (follows_tenant c) g.follow);
  };
  room = g.room;
  promised = λ k i.
      let b = beside k i in
      omega (
        arith,
        kept (λ (x : Job). x.start ≤ x.promise) (λ x p. p) v.promised b.0 b.1,
        follows_start c b.0 k b.2,
        follows_promise c b.0 k b.2,
      );
  promise_to = λ k i.
      let b = beside k i in
      omega (arith, kept (λ (x : Job). x.promise ≤ horizon m.settings) (λ x p. p) v.promise_to b.0 b.1, follows_promise c b.0 k b.2);
  ahead = λ k i w. let b = beside k i in follows_ahead c b.0 k b.2 w;
  unranked = λ k i. let b = beside k i in follows_unranked c b.0 k b.2 (kept Unranked (λ x p. p) v.unranked b.0 b.1);
}
  where
    js : List Job
    js = remaining m.settings c s m.jobs

    -- what holds of a job, and of it once its run has ended, holds of who remains
    kept : (P : Job → Type 0) → ((k : Job) → P k → P (cleaning c k)) → ((k : Job) → In k m.jobs → P k) → (j : Job) → In j js → P j
    kept P e f j i = go (remaining_in m.settings c s m.jobs i)
      where
        go : (k : Job) × In k m.jobs × (table.leaves m.settings s k ≡ false) × (j ≡ ceased c s k) → P j
        go (k, a, n, q) = subst P (sym q) (case (ends s k) (λ z. rw z (e k (f k a))) (λ z. rw z (f k a)))

    old : Sound (without m c s)
    old = sound_leave m c s v.sound l

    beside : (k : Job) → In k ks → (j : Job) × In j js × Follows c j k
    beside k i = zip_right (Follows c) js ks g.follow i

    each : (k : Job) → In k ks → SoundJob m.settings c k
    each k i = let b = beside k i in follows_sound m.settings c b.0 k (old.each b.0 b.1) b.2

outcome_valid : (m : Model) {c : Call} {r : Result} → Valid m → CameOut m c r → Valid r.model
unfolding submitted advanced amended_to
outcome_valid m v (amends a after f g) = moved_valid (in_place_of m a) after (inplace_valid m a f.range f.shrinks v) g
outcome_valid m v (idle c r n) = v
outcome_valid m v (joins o f l) = joins_valid m o v f l
outcome_valid m v (leaves c clock s after l g t) = leaves_valid m clock s after v l g

pub call_valid : (m : Model) (c : Call) → Valid m → Valid (call m c).model
call_valid m c v = outcome_valid m v (outcome m c v)
