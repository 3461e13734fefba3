-- Document 02, No. 11: what reading accepts is exactly what is valid, of EASY backfilling.
-- Assumes nothing.
use Rattle.std.specs.Prelude.{ℕ, suc, ◌+◌, ◌*◌, ◌≤◌, ◌<◌, max, ◌≡◌, refl, Bool, true, false, not, ◌&&◌, ◌⊎◌, ltb}
use native.Mathlib.Omega.{arith}
use Rattle.std.proofs.Common.{sym, ap, ◌∙◌, inl, inr, ⊎_elim}
use Rattle.std.proofs.Math.Path.{subst}
use mathlib.Core.List.{List, [], ◌∷◌, map, head?}
use Rattle.std.proofs.Math.Option.{Option, none, some}
use Rattle.std.proofs.Math.Dec.{leb, eqb}
use borrow.Author.Tests.{leb-true, le-leb, ltb-true, lt-ltb, eqb-true, eq-eqb}
use Rattle.lists.specs.Tests.{case, true_false, both, on}
use Rattle.lists.specs.Lists.{keep, sum, All, In, here, there, in_nil, in_cons, all_in, all_of, keep_in, in_keep, sum_map, sum_kept, sum_le}
use Rattle.lists.specs.Every.{every, when, and_both, when_then, then_when, every_in, every_of}
use Rattle.spans.specs.Spans.{takes, used}
use Rattle.spans.proofs.UsedNodes.{takes_le}
use Rattle.spans.specs.EveryMinute.{fits_every}
use Rattle.spans.proofs.EveryMinute.{every_minute, minutes_fit_lem}
use Rattle.scheduler.specs.declared.Kind.{Kind}
use Rattle.scheduler.specs.declared.Kind.TheVariants.{Conservative, Easy}
use Rattle.scheduler.specs.declared.State.{State}
use Rattle.scheduler.specs.declared.State.TheVariants.{Unused, Waiting, Running, Cleanup}
use Rattle.scheduler.specs.declared.Job.{Job}
use Rattle.scheduler.specs.declared.Settings.{Settings}
use Rattle.scheduler.specs.States.{live?, waiting?, holding?}
use Rattle.scheduler.specs.Jobs.{is_waiting, is_holding, held}
use Rattle.scheduler.specs.Settings.{horizon, slots, hold_time, unit, until, bound_of}
use Rattle.scheduler.specs.Times.{hold_le, until_is}
use Rattle.scheduler.specs.Table.{nodes_held}
use Rattle.scheduler.specs.Model.{Model, Live}
use Rattle.jobs.specs.Order.{Asc, asc_in, asc_keep}
use Rattle.jobs.specs.Soundness.{Sound, SoundJob, all_live, waiting_clean}
use Rattle.conservative_rules.specs.Conservative.{span, spans}
use Rattle.conservative_laws.specs.Validity as conservative
use Rattle.conservative_laws.specs.Validity.{held_used, used_jobs}
use Rattle.easy_rules.specs.Easy.{queue, head, shadow, pick, choice, on_choice}
use Rattle.easy_laws.specs.Course.{OnCourse, Head, head_in, head_of, head_course, rest_shadow}
use Rattle.easy_laws.specs.Validity as easy
use Rattle.easy_laws.specs.Validity.{AfterFirst, Unheard}
use Rattle.checkpoint_rules.specs.Acceptance.{in_range, tickets_hold, desk_in_range, shares_hold, lacking, plan_of, minutes_fit, holds_end, promises_hold, is_settled}
use Rattle.checkpoint_rules.specs.Acceptance.{head_heard, behind, others_unheard, ranked, last_minute_holds, bound_holds, bounds_hold, accepted_by, record_holds, accepted}
use Rattle.checkpoint_laws.specs.Soundly.{Lined, in_range_lem, range_in, DeskRange, desk_range, RecordFacts, record_facts, sound_of, sound_job}
use Rattle.checkpoint_laws.specs.Soundly.{sound_tickets, sound_desk, sound_shares, sound_record}
use Rattle.checkpoint_laws.specs.Accepted.{Parts, parts_of, accepted_of, lacking_by}

-- the tests of EASY, apart
record EasyParts (m : Model) : Type 0 where
  pub settled : is_settled m ≡ true
  pub heard : head_heard m ≡ true
  pub others : others_unheard m ≡ true
  pub ranks : every (ranked m.settings m.clock) m.jobs ≡ true
  pub last_minute : every (last_minute_holds m.settings) (queue m.jobs) ≡ true
  pub bounds : bounds_hold m ≡ true

easy_parts : (m : Model) → accepted_by Easy m ≡ true → EasyParts m
unfolding accepted_by
easy_parts m e =
    let a = is_settled m in
    let b = head_heard m in
    let c = others_unheard m in
    let d = every (ranked m.settings m.clock) m.jobs in
    let f = every (last_minute_holds m.settings) (queue m.jobs) in
    let e6 = both (a && b && c && d && f) (bounds_hold m) e in
    let e5 = both (a && b && c && d) f e6.0 in
    let e4 = both (a && b && c) d e5.0 in
    let e3 = both (a && b) c e4.0 in
    let e2 = both a b e3.0 in
    record { settled = e2.0; heard = e2.1; others = e3.1; ranks = e4.1; last_minute = e5.1; bounds = e6.1 }

-- a test of the head, where there is one
at_head : (m : Model) (p : Job → Bool) → on_choice (head m) true p ≡ true → (h : Job) (later : List Job) → queue m.jobs ≡ h ∷ later → p h ≡ true
at_head m p e h later q = ap (λ (x : List Job). on_choice (head? x) true p) (sym q) ∙ e

head_at : (m : Model) (p : Job → Bool) → ((h : Job) (later : List Job) → queue m.jobs ≡ h ∷ later → p h ≡ true) → on_choice (head m) true p ≡ true
head_at m p f = by (queue m.jobs) refl
  where
    by : (q : List Job) → queue m.jobs ≡ q → on_choice (head? (queue m.jobs)) true p ≡ true
    by [] e = rw e
    by (h ∷ later) e = ap (λ (x : List Job). on_choice (head? x) true p) e ∙ f h later e

-- nobody can start
settled_none : (o : Option Job) → on_choice o true (λ j. false) ≡ true → o ≡ none
settled_none none e = refl
settled_none (some j) e = true_false false e refl

none_settled : (o : Option Job) → o ≡ none → on_choice o true (λ j. false) ≡ true
none_settled o e = rw e

-- those behind the first
after_behind : (P : Job → Type 0) (p : Job → Bool) → ((j : Job) → p j ≡ true → P j) → (js : List Job) → every p (behind js) ≡ true → AfterFirst P js
after_behind P p f [] e = tt
after_behind P p f (h ∷ later) e = all_of P later (λ j i. f j (every_in p e i))

behind_after : (P : Job → Type 0) (p : Job → Bool) → ((j : Job) → P j → p j ≡ true) → (js : List Job) → AfterFirst P js → every p (behind js) ≡ true
behind_after P p f [] a = refl
behind_after P p f (h ∷ later) a = every_of p later (λ j i. f j (all_in P a i))

-- a live job that does not wait holds nodes
holds_else : (s : State) → live? s ≡ true → waiting? s ≡ false → holding? s ≡ true
holds_else Unused l w = l
holds_else Waiting l w = true_false true refl w
holds_else Running l w = refl
holds_else Cleanup l w = refl

module _ (m : Model) (k : m.settings.kind ≡ Easy) where
  abbrev S : Settings
  S = m.settings

  abbrev holders : List Job
  holders = keep is_holding m.jobs

  -- who holds nodes gives them back by the last minute, and who waits has not begun
  ends_each : holds_end m ≡ true → (j : Job) → In j m.jobs → is_holding j ≡ true → until S j ≤ horizon S
  ends_each e j i h =
      leb-true (until S j) (horizon S)
      (every_in (λ (j : Job). leb (until S j) (horizon S))
      (subst (λ (x : Kind). every (λ (j : Job). leb (until S j) (horizon S)) (plan_of x m.jobs) ≡ true) k e) (in_keep is_holding i h))

  lacks_promise : (j : Job) → lacking m.settings.kind j ≡ true → (j.promise ≡ 0) × (is_waiting j ≡ true → j.start ≡ 0)
  lacks_promise j l =
      let b = both (eqb j.promise 0) (when (is_waiting j) (eqb j.start 0)) (lacking_by m Easy k j l) in
      (eqb-true j.promise 0 b.0, λ w. eqb-true j.start 0 (when_then (is_waiting j) b.1 w))

  ends_some : holds_end m ≡ true → (j : Job) → In j m.jobs → RecordFacts m j → Live j → until S j ≤ horizon S
  ends_some e j i f l =
      case (is_waiting j)
      (λ w. omega (arith, until_is S j (waiting_clean j.state w), (lacks_promise j f.lacks).1 w, hold_le S j.estimate))
      (λ w. ends_each e j i (holds_else j.state l w))

  -- the nodes held now
  held_now : (f : minutes_fit m ≡ true) → ((j : Job) → In j holders → SoundJob S m.clock j) → nodes_held m.jobs ≤ S.nodes
  unfolding minutes_fit
  held_now f each =
      omega (
        arith,
        sum_kept held is_holding m.jobs (λ j q. rw q),
        held_used S m.clock holders each,
        every_minute S.nodes (spans S holders) m.clock
            (subst (λ (x : Kind). fits_every S.nodes (spans S (plan_of x m.jobs)) m.clock ≡ true) k f) m.clock (omega arith),
      )

  held_fits : Sound m → minutes_fit m ≡ true
  unfolding minutes_fit
  held_fits s =
      subst (λ (x : Kind). fits_every S.nodes (spans S (plan_of x m.jobs)) m.clock ≡ true) (sym k)
      (minutes_fit_lem S.nodes (spans S holders) m.clock (λ t l.
      omega (
        arith,
        used_jobs S t holders,
        sum_le (λ (j : Job). takes t (span S j)) held holders
            (λ j i. rw (keep_in is_holding m.jobs i).1 (omega (arith, takes_le t (span S j)))),
        sum_kept held is_holding m.jobs (λ j q. rw q),
        s.capacity,
      )))

  -- "r at intake, 1 to 64"
  pub ranks_of : accepted_by m.settings.kind m ≡ true → (j : Job) → In j m.jobs → (1 ≤ j.rank) × (j.rank ≤ slots S)
  ranks_of e j i =
      let q = easy_parts m (subst (λ (x : Kind). accepted_by x m ≡ true) k e) in
      in_range_lem 1 (slots S) j.rank (both (leb j.submitted m.clock) (in_range 1 (slots S) j.rank) (every_in (ranked m.settings m.clock) q.ranks i)).1

  pub accepted_easy : Lined m → accepted m ≡ true → easy.Valid m
  accepted_easy l e = record { ready = ready; rests = rests; heard = λ h later x. omega (arith, forecast_from h later x, clock_before h later x) }
    where
      p : Parts m
      p = parts_of m e

      q : EasyParts m
      q = easy_parts m (subst (λ (x : Kind). accepted_by x m ≡ true) k p.by)

      untils : (j : Job) → In j m.jobs → until S j ≤ horizon S
      untils j i = ends_some p.ends j i (p.records j i) (all_in Live l.live i)

      each : (j : Job) → In j m.jobs → SoundJob S m.clock j
      each j i = sound_job m j (p.records j i) (all_in Live l.live i) (untils j i)

      sound : Sound m
      sound =
          sound_of m l p.tickets p.desk p.shares p.records untils (held_now p.fit (λ j i. each j (keep_in is_holding m.jobs i).0))

      rests : choice m ≡ none
      rests = settled_none (choice m) q.settled

      forecast_from : (h : Job) (later : List Job) → queue m.jobs ≡ h ∷ later → shadow m h.nodes ≤ h.forecast
      forecast_from h later x = leb-true (shadow m h.nodes) h.forecast (at_head m (λ h. leb (shadow m h.nodes) h.forecast) q.heard h later x)

      clock_before : (h : Job) (later : List Job) → queue m.jobs ≡ h ∷ later → m.clock < shadow m h.nodes
      clock_before h later x = rest_shadow m h later x sound rests

      others : AfterFirst Unheard (queue m.jobs)
      others = after_behind Unheard (λ (j : Job). eqb j.forecast 0) (λ j w. eqb-true j.forecast 0 w) (queue m.jobs) q.others

      in_bound : (j : Job) → In j m.jobs → is_waiting j ≡ true → OnCourse m j.ticket (bound_of S j)
      in_bound j i w = record {
        waits = record { job = j; isin = i; waits = w; named = refl };
        by = λ h later x.
            leb-true _ (bound_of S j)
            (every_in (bound_holds m h) (at_head m (λ h. every (bound_holds m h) (queue m.jobs)) q.bounds h later x) (in_keep is_waiting i w));
      }

      -- a waiting job with a forecast is the head
      on_forecast : (j : Job) → In j m.jobs → is_waiting j ≡ true → 1 ≤ j.forecast → OnCourse m j.ticket j.forecast
      on_forecast j i w f =
          let h = head_of m j.ticket (record { job = j; isin = i; waits = w; named = refl }) in
          ⊎_elim
          (λ (z : j ≡ h.job).
          let c = head_course m h.job h.later h.first sound in
          subst (λ (x : Job). OnCourse m x.ticket x.forecast) (sym z) (record {
            waits = c.waits;
            by = λ g r x. omega (arith, c.by g r x, forecast_from h.job h.later h.first);
          }))
          (λ (z : In j h.later). absurd (omega (arith, all_in Unheard (subst (AfterFirst Unheard) h.first others) z)))
          (in_cons (subst (λ (x : List Job). In j x) h.first (in_keep is_waiting i w)))

      ready : easy.Ready m
      ready = record {
        kind = k;
        sound = sound;
        promises = λ j i. (lacks_promise j (p.records j i).lacks).0;
        starts = λ j i w. (lacks_promise j (p.records j i).lacks).1 w;
        submitted = λ j i. leb-true j.submitted m.clock (rank_of_lem j i).0;
        ranked = λ j i. in_range_lem 1 (slots S) j.rank (rank_of_lem j i).1;
        room = λ j i w. (
          in_bound j i w,
          leb-true _ (horizon S) (every_in (last_minute_holds S) q.last_minute (in_keep is_waiting i w)),
        );
        forecast_to = λ j i. (p.records j i).range.forecast_to;
        kept = on_forecast;
        others = others;
      }
        where
          rank_of_lem : (j : Job) → In j m.jobs → (leb j.submitted m.clock ≡ true) × (in_range 1 (slots S) j.rank ≡ true)
          rank_of_lem j i = both (leb j.submitted m.clock) (in_range 1 (slots S) j.rank) (every_in (ranked m.settings m.clock) q.ranks i)

  pub easy_accepted : easy.Valid m → accepted m ≡ true
  unfolding accepted_by
  easy_accepted v =
      let r = v.ready in
      let s = r.sound in
      accepted_of m (sound_tickets m s) (sound_desk m s) (sound_shares m s)
      (every_of (record_holds m.settings m.clock) m.jobs (λ j i.
      sound_record m j s i
      (subst (λ (x : Kind). lacking x j ≡ true) (sym k)
      (and_both (eq-eqb j.promise 0 (r.promises j i)) (then_when (is_waiting j) (λ w. eq-eqb j.start 0 (r.starts j i w)))))
      (omega (arith, r.promises j i)) (omega (arith, r.submitted j i, s.clock_to)) (r.forecast_to j i)))
      (held_fits s)
      (subst (λ (x : Kind). every (λ (j : Job). leb (until S j) (horizon S)) (plan_of x m.jobs) ≡ true) (sym k)
      (every_of (λ (j : Job). leb (until S j) (horizon S)) holders (λ j i.
      le-leb (until S j) (horizon S) (s.each j (keep_in is_holding m.jobs i).0).ends)))
      (subst (λ (x : Kind). accepted_by x m ≡ true) (sym k)
      (and_both (and_both (and_both (and_both (and_both
      (none_settled (choice m) v.rests)
      (head_at m (λ h. leb (shadow m h.nodes) h.forecast) (λ h later x.
      let i = head_in m h later x in
      le-leb (shadow m h.nodes) h.forecast (omega (arith, (r.kept h i.0 i.1 (v.heard h later x)).by h later x)))))
      (behind_after Unheard (λ (j : Job). eqb j.forecast 0) (λ j z. eq-eqb j.forecast 0 z) (queue m.jobs) r.others))
      (every_of (ranked m.settings m.clock) m.jobs (λ j i.
      and_both (le-leb j.submitted m.clock (r.submitted j i)) (range_in 1 (slots S) j.rank (r.ranked j i).0 (r.ranked j i).1))))
      (every_of (last_minute_holds S) (queue m.jobs) (λ j i.
      let x = keep_in is_waiting m.jobs i in
      le-leb _ (horizon S) (r.room j x.0 x.1).1)))
      (head_at m (λ h. every (bound_holds m h) (queue m.jobs)) (λ h later z.
      every_of (bound_holds m h) (queue m.jobs) (λ j i.
      let x = keep_in is_waiting m.jobs i in
      le-leb _ (bound_of S j) ((r.room j x.0 x.1).0.by h later z))))))
