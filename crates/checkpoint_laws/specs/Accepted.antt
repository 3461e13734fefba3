-- Document 02, No. 11: what reading accepts is exactly what is valid, of either kind. So calls may be made on whatever is accepted, and "Every desk
-- that calls have made outside No. 6 is accepted".
-- Assumes nothing.
use Rattle.std.specs.Prelude.{ℕ, suc, ◌+◌, ◌*◌, ◌≤◌, ◌<◌, max, ◌≡◌, refl, Bool, true, false, not, ◌&&◌, ◌⊎◌, ltb, eqb}
use Rattle.std.proofs.Common.{arith, sym, ap, subst, ◌∙◌, inl, inr, ⊎_elim}
use mathlib.Core.List.{List, [], ◌∷◌, map, head?}
use Rattle.std.proofs.Math.Option.{Option, none, some}
use Rattle.std.proofs.Math.Dec.{leb}
use borrow.Author.Tests.{leb-true, le-leb, ltb-true, lt-ltb, eqb-true, eq-eqb}
use Rattle.lists.specs.Tests.{case, true_false, both, on}
use Rattle.lists.specs.Lists.{keep, sum, All, In, here, there, in_nil, in_cons, all_in, all_of, keep_in, in_keep, sum_map, sum_kept, sum_le}
use Rattle.lists.specs.Every.{every, when, and_both, when_then, then_when, every_in, every_of}
use Rattle.spans.specs.Spans.{takes, used}
use Rattle.spans.proofs.UsedNodes.{takes_le}
use Rattle.spans.specs.EveryMinute.{fits_every}
use Rattle.spans.proofs.EveryMinute.{every_minute, minutes_fit_lem}
use Rattle.scheduler.specs.declared.Kind.{Kind}
use Rattle.scheduler.specs.declared.Kind.TheVariants.{Conservative, Easy}
use Rattle.scheduler.specs.declared.State.{State}
use Rattle.scheduler.specs.declared.State.TheVariants.{Unused, Waiting, Running, Cleanup}
use Rattle.scheduler.specs.declared.Job.{Job}
use Rattle.scheduler.specs.declared.Settings.{Settings}
use Rattle.scheduler.specs.States.{live?, waiting?, holding?}
use Rattle.scheduler.specs.Jobs.{is_waiting, is_holding, held}
use Rattle.scheduler.specs.Settings.{horizon, slots, hold_time, unit, until, bound_of}
use Rattle.scheduler.specs.Times.{hold_le, until_is}
use Rattle.scheduler.specs.Table.{nodes_held}
use Rattle.scheduler.specs.Model.{Model, Live}
use Rattle.jobs.specs.Order.{Asc, asc_in, asc_keep}
use Rattle.jobs.specs.Soundness.{Sound, SoundJob, all_live, waiting_clean}
use Rattle.conservative_rules.specs.Conservative.{span, spans}
use Rattle.conservative_laws.specs.Validity as conservative
use Rattle.conservative_laws.specs.Validity.{held_used, used_jobs}
use Rattle.easy_rules.specs.Easy.{queue, head, shadow, pick, choice, on_choice}
use Rattle.easy_laws.specs.Course.{OnCourse, Head, head_in, head_of, head_course, rest_shadow}
use Rattle.easy_laws.specs.Validity as easy
use Rattle.easy_laws.specs.Validity.{AfterFirst, Unheard}
use Rattle.checkpoint_rules.specs.Acceptance.{in_range, tickets_hold, desk_in_range, shares_hold, lacking, plan_of, minutes_fit, holds_end, promises_hold, is_settled}
use Rattle.checkpoint_rules.specs.Acceptance.{head_heard, behind, others_unheard, ranked, last_minute_holds, bound_holds, bounds_hold, accepted_by, record_holds, accepted}
use Rattle.checkpoint_laws.specs.Soundly.{Lined, in_range_lem, range_in, DeskRange, desk_range, RecordFacts, record_facts, sound_of, sound_job}
use Rattle.checkpoint_laws.specs.Soundly.{sound_tickets, sound_desk, sound_shares, sound_record}

-- ## The tests, apart

pub record Parts (m : Model) : Type 0 where
  pub tickets : tickets_hold m ≡ true
  pub desk : DeskRange m
  pub shares : shares_hold m ≡ true
  pub records : (j : Job) → In j m.jobs → RecordFacts m j
  pub fit : minutes_fit m ≡ true
  pub ends : holds_end m ≡ true
  pub by : accepted_by m.settings.kind m ≡ true

pub parts_of : (m : Model) → accepted m ≡ true → Parts m
unfolding accepted
parts_of m e =
    let a = tickets_hold m in
    let b = desk_in_range m.settings m.clock m.next in
    let c = shares_hold m in
    let d = every (record_holds m.settings m.clock) m.jobs in
    let f = minutes_fit m in
    let g = holds_end m in
    let e7 = both (a && b && c && d && f && g) (accepted_by m.settings.kind m) e in
    let e6 = both (a && b && c && d && f) g e7.0 in
    let e5 = both (a && b && c && d) f e6.0 in
    let e4 = both (a && b && c) d e5.0 in
    let e3 = both (a && b) c e4.0 in
    let e2 = both a b e3.0 in
    record {
      tickets = e2.0;
      desk = desk_range m e2.1;
      shares = e3.1;
      records = λ j i. record_facts m j (every_in (record_holds m.settings m.clock) e4.1 i);
      fit = e5.1;
      ends = e6.1;
      by = e7.1;
    }

pub accepted_of : (m : Model) → tickets_hold m ≡ true → desk_in_range m.settings m.clock m.next ≡ true → shares_hold m ≡ true → every (record_holds m.settings m.clock) m.jobs ≡ true
    → minutes_fit m ≡ true → holds_end m ≡ true → accepted_by m.settings.kind m ≡ true → accepted m ≡ true
unfolding accepted
accepted_of m a b c d f g h = and_both (and_both (and_both (and_both (and_both (and_both a b) c) d) f) g) h

-- what is not asked of this kind
pub lacking_by : (m : Model) (k : Kind) → m.settings.kind ≡ k → (j : Job) → lacking m.settings.kind j ≡ true → lacking k j ≡ true
lacking_by m k e j l = subst (λ (x : Kind). lacking x j ≡ true) e l

-- ## Conservative backfilling

module _ (m : Model) (k : m.settings.kind ≡ Conservative) where
  abbrev S : Settings
  S = m.settings

  room_all : minutes_fit m ≡ true → (t : ℕ) → m.clock ≤ t → used t (spans S m.jobs) ≤ S.nodes
  unfolding minutes_fit
  room_all f t l =
      every_minute S.nodes (spans S m.jobs) m.clock
      (subst (λ (x : Kind). fits_every S.nodes (spans S (plan_of x m.jobs)) m.clock ≡ true) k f) t l

  ends_all : holds_end m ≡ true → (j : Job) → In j m.jobs → until S j ≤ horizon S
  ends_all e j i =
      leb-true (until S j) (horizon S)
      (every_in (λ (j : Job). leb (until S j) (horizon S))
      (subst (λ (x : Kind). every (λ (j : Job). leb (until S j) (horizon S)) (plan_of x m.jobs) ≡ true) k e) i)

  by_promises : accepted_by m.settings.kind m ≡ true → (j : Job) → In j m.jobs → (j.start ≤ j.promise) × (is_waiting j ≡ true → m.clock < j.start)
  unfolding accepted_by
  by_promises e j i =
      let p = every_in (promises_hold m.clock) (subst (λ (x : Kind). accepted_by x m ≡ true) k e) i in
      let b = both (leb j.start j.promise) (when (is_waiting j) (ltb m.clock j.start)) p in
      (leb-true j.start j.promise b.0, λ w. ltb-true m.clock j.start (when_then (is_waiting j) b.1 w))

  pub lacks_three : (j : Job) → lacking m.settings.kind j ≡ true → conservative.Unranked j
  lacks_three j l =
      let b = both (eqb j.submitted 0 && eqb j.rank 0) (eqb j.forecast 0) (lacking_by m Conservative k j l) in
      let c = both (eqb j.submitted 0) (eqb j.rank 0) b.0 in
      (eqb-true j.submitted 0 c.0, eqb-true j.rank 0 c.1, eqb-true j.forecast 0 b.1)

  pub accepted_conservative : Lined m → accepted m ≡ true → conservative.Valid m
  accepted_conservative l e =
      let p = parts_of m e in
      let each : (j : Job) → In j m.jobs → SoundJob S m.clock j =
      λ j i. sound_job m j (p.records j i) (all_in Live l.live i) (ends_all p.ends j i) in
      record {
        kind = k;
        sound =
            sound_of m l p.tickets p.desk p.shares p.records (ends_all p.ends)
            (omega (arith, held_used S m.clock m.jobs each, room_all p.fit m.clock (omega arith)));
        room = room_all p.fit;
        promised = λ j i. (by_promises p.by j i).0;
        promise_to = λ j i. (p.records j i).range.promise_to;
        ahead = λ j i w. (by_promises p.by j i).1 w;
        unranked = λ j i. lacks_three j (p.records j i).lacks;
      }

  -- and back: "Every desk that calls have made .. is accepted"
  pub conservative_accepted : conservative.Valid m → accepted m ≡ true
  unfolding minutes_fit accepted_by
  conservative_accepted v =
      let s = v.sound in
      accepted_of m (sound_tickets m s) (sound_desk m s) (sound_shares m s)
      (every_of (record_holds m.settings m.clock) m.jobs (λ j i.
      let u = v.unranked j i in
      sound_record m j s i
      (subst (λ (x : Kind). lacking x j ≡ true) (sym k)
      (and_both (and_both (eq-eqb j.submitted 0 u.0) (eq-eqb j.rank 0 u.1)) (eq-eqb j.forecast 0 u.2)))
      (v.promise_to j i) (omega (arith, u)) (omega (arith, u))))
      (subst (λ (x : Kind). fits_every S.nodes (spans S (plan_of x m.jobs)) m.clock ≡ true) (sym k)
      (minutes_fit_lem S.nodes (spans S m.jobs) m.clock v.room))
      (subst (λ (x : Kind). every (λ (j : Job). leb (until S j) (horizon S)) (plan_of x m.jobs) ≡ true) (sym k)
      (every_of (λ (j : Job). leb (until S j) (horizon S)) m.jobs (λ j i. le-leb (until S j) (horizon S) (s.each j i).ends)))
      (subst (λ (x : Kind). accepted_by x m ≡ true) (sym k)
      (every_of (promises_hold m.clock) m.jobs (λ j i.
      and_both (le-leb j.start j.promise (v.promised j i)) (then_when (is_waiting j) (λ w. lt-ltb m.clock j.start (v.ahead j i w))))))
