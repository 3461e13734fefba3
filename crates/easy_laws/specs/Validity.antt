-- What holds of every model of this kind that an opening or a call hands back; and what each call does.
-- Assumes nothing.
use Rattle.std.specs.Prelude.{ℕ, suc, ◌+◌, ◌*◌, ◌≤◌, ◌≡◌, Bool, true, false, not, cond, ◌⊎◌, ltb, eqb}
use Rattle.std.proofs.Common.{arith, sym, ap, subst, ◌∙◌, inl, inr, ⊎_elim, ltb-false, eqb-true, eq-eqb, ne_eqb}
use Rattle.std.proofs.Math.Path.{refl}
use Rattle.std.proofs.Math.Option.{Option, none, some}
use mathlib.Core.List.{List, [], ◌∷◌, ◌++◌, map}
use Rattle.std.proofs.lemmas.Bool.{eqb-false, not-false}
use Rattle.lists.specs.Tests.{case, true_false}
use Rattle.lists.specs.Lists.{keep, any, elem, All, In, here, in_nil, in_cons, in_append, map_in, keep_in, keep_append, all_of, all_in, all_keep, all_append, length_keep_le}
use Rattle.scheduler.specs.declared.Kind.TheVariants.{Easy}
use Rattle.scheduler.specs.declared.Job.{Job}
use Rattle.scheduler.specs.declared.Opening.{Opening}
use Rattle.scheduler.specs.declared.Submission.{Submission}
use Rattle.scheduler.specs.declared.Refusal.{Refusal}
use Rattle.scheduler.specs.declared.Refusal.TheVariants as refusal
use Rattle.scheduler.specs.declared.Departure.{Departure}
use Rattle.scheduler.specs.declared.Departure.TheVariants.{Complete, Cancel}
use Rattle.scheduler.specs.declared.Select.{Select}
use Rattle.scheduler.specs.declared.Select.TheVariants as select
use Rattle.scheduler.specs.Jobs.{is_waiting, picks, foretold, cleaning}
use Rattle.scheduler.specs.States.{waiting?}
use Rattle.scheduler.specs.declared.Settings.{Settings}
use Rattle.scheduler.specs.Settings.{refused_settings, horizon, slots, hold_time, unit, bound_of}
use Rattle.scheduler.specs.Times.{until_is}
use Rattle.scheduler.specs.Table.{ticket_of, ends, ended_of, withdraws, remaining}
use Rattle.scheduler.specs.Model.{Model, ending, empty, joined, without}
use Rattle.scheduler.specs.Answers.{Result, Forecast, accepts, refusing, refuse}
use Rattle.scheduler.specs.Refusals.{judged, not_there_of, depart_refusal, tick_refusal}
use Rattle.scheduler.specs.Opening.{opening_refusal, opening}
use Rattle.scheduler.specs.declared.Amendment.{Amendment}
use Rattle.scheduler.specs.Amending.{in_place_refusal, supersede, in_place_of}
use Rattle.jobs.specs.Order.{asc_one, elem_job}
use Rattle.jobs.specs.Departing.{not_there, departs_alone}
use Rattle.jobs.specs.Soundness.{Sound, SoundJob, opening_sound, Fit, fit_room, leaving_clock, passed, submit_fit, sound_join, Leaving, early, in_time_lem, withdraws_waits}
use Rattle.jobs.specs.Soundness.{remaining_in, sound_leave}
use Rattle.jobs.specs.Amended.{InPlace, inplace_fit, kept_ticket, kept_state, kept_start, kept_promise_lem, shorter_hold, superseded_in, inplace_sound}
use Rattle.jobs.specs.Amended.{kept_submitted, kept_rank, kept_forecast, kept_bound}
use Rattle.history.specs.Calls.{Call, submit, depart, tick, amend, unchanged}
use Rattle.history.specs.News.{Newcomer, news_of, nothing, refused_news, unchanged_news}
use Rattle.easy_rules.specs.Easy.{queue, shadow, pick, choice, begin, settled, noting, noted, forecast, finished, new_job, rank, submit_refusal, advanced, call}
use Rattle.easy_laws.specs.Settling.{Chosen, chosen, each_begin, sound_begin, queue_mark, Settles, rest, start, settles, settles_rest, settles_clock, settles_settings, settles_next}
use Rattle.easy_laws.specs.Remaining.{remaining_waited, queue_remaining}
use Rattle.easy_laws.specs.Noted.{notes_keeps, noted_clock, noted_settings, noted_next, each_noted, queue_noted, choice_noted, head_noted, course_noted}
use Rattle.easy_laws.specs.Noted.{sound_noted, forecast_noted, forecast_says, forecast_silent}
use Rattle.easy_laws.specs.Course.{Waits, OnCourse, Head, head_in, head_lowest, head_course, rest_shadow, course_clock, begin_keeps, eased, withdraw_keeps, leave_keeps, join_eases, join_course}
use Rattle.easy_laws.specs.Amended.{kept_queue, inplace_course}

-- it will start within its bound, and then its hold does not pass the last minute: document 02, No. 11, "Each waiting one's last-minute rule must
-- hold, and shadow plus (10,080 + clearing) × the number waiting before it must not pass its bound"
abbrev pub Room : Model → Job → Type 0
Room m j = OnCourse m j.ticket (bound_of m.settings j) × (bound_of m.settings j + hold_time m.settings j.estimate ≤ horizon m.settings)

-- what holds of all but the first
abbrev pub AfterFirst : (Job → Type 0) → List Job → Type 0
AfterFirst P [] = Unit {0}
AfterFirst P (h ∷ later) = All P later

abbrev pub Unheard : Job → Type 0
Unheard j = j.forecast ≡ 0

-- the latest minute at which a job of this estimate can end, if it is submitted now
abbrev pub latest_end : Model → ℕ → ℕ
latest_end m e = m.clock + rank m * unit m.settings + hold_time m.settings e

-- ready to settle
pub record Ready (m : Model) : Type 0 where
  pub kind : m.settings.kind ≡ Easy
  pub sound : Sound m
  -- "on the Loose Desk the promise, and a waiting stack's start, are 0"
  pub promises : (j : Job) → In j m.jobs → j.promise ≡ 0
  pub starts : (j : Job) → In j m.jobs → is_waiting j ≡ true → j.start ≡ 0
  -- document 02, No. 11: "intake minute, not after now, r at intake, 1 to 64"
  pub submitted : (j : Job) → In j m.jobs → j.submitted ≤ m.clock
  pub ranked : (j : Job) → In j m.jobs → (1 ≤ j.rank) × (j.rank ≤ slots m.settings)
  pub room : (j : Job) → In j m.jobs → is_waiting j ≡ true → Room m j
  -- a forecast is a minute of the clock, and a waiting job with one is on course for it
  pub forecast_to : (j : Job) → In j m.jobs → j.forecast ≤ horizon m.settings
  pub kept : (j : Job) → In j m.jobs → is_waiting j ≡ true → 1 ≤ j.forecast → OnCourse m j.ticket j.forecast
  -- nobody behind the head has one: "no other waiting one having any"
  pub others : AfterFirst Unheard (queue m.jobs)

pub record Valid (m : Model) : Type 0 where
  pub ready : Ready m
  -- no job can start
  pub rests : choice m ≡ none
  -- the head has a forecast
  pub heard : (h : Job) (later : List Job) → queue m.jobs ≡ h ∷ later → 1 ≤ h.forecast

-- ## All but the first

module _ (P : Job → Type 0) where
  after_all : (js : List Job) → All P js → AfterFirst P js
  after_all [] a = tt
  after_all (j ∷ js) a = a.1

  after_keep : (p : Job → Bool) (js : List Job) → AfterFirst P js → AfterFirst P (keep p js)
  after_keep p [] a = tt
  after_keep p (j ∷ js) a = case (p j) (λ e. rw e (all_keep P p js a)) (λ e. rw e (after_all (keep p js) (all_keep P p js a)))

  all_map : (f : Job → Job) → ((j : Job) → P j → P (f j)) → (js : List Job) → All P js → All P (map f js)
  all_map f g [] a = tt
  all_map f g (j ∷ js) a = (g j a.0, all_map f g js a.1)

  after_map : (f : Job → Job) → ((j : Job) → P j → P (f j)) → (js : List Job) → AfterFirst P js → AfterFirst P (map f js)
  after_map f g [] a = tt
  after_map f g (j ∷ js) a = all_map f g js a

  after_append : (js : List Job) (k : Job) → AfterFirst P js → P k → AfterFirst P (js ++ (k ∷ []))
  after_append [] k a p = tt
  after_append (j ∷ js) k a p = all_append P js (k ∷ []) a (p, tt)

-- ## Opening

empty_ready : (S : Settings) (c t : ℕ) → S.kind ≡ Easy → Sound (empty S c t) → Ready (empty S c t)
empty_ready S c t e s = record {
  kind = e;
  sound = s;
  promises = λ j i. in_nil i;
  starts = λ j i. in_nil i;
  submitted = λ j i. in_nil i;
  ranked = λ j i. in_nil i;
  room = λ j i. in_nil i;
  forecast_to = λ j i. in_nil i;
  kept = λ j i. in_nil i;
  others = tt;
}

pub opening_valid : (o : Opening) → o.settings.kind ≡ Easy → Valid (opening o)
unfolding opening pick
opening_valid o e =
    by (accepts (opening_refusal o)) (opening_sound o)
  where
    by : (b : Bool) → Sound (cond b (empty o.settings o.minute o.ticket) (empty (refused_settings o.settings.kind) 0 1))
        → Valid (cond b (empty o.settings o.minute o.ticket) (empty (refused_settings o.settings.kind) 0 1))
    by true s = record { ready = empty_ready o.settings o.minute o.ticket e s; rests = refl; heard = λ h l q. absurd (let z : ◌≡◌ {A = ℕ} 0 1 = cc in omega arith) }
    by false s = record { ready = empty_ready (refused_settings o.settings.kind) 0 1 e s; rests = refl; heard = λ h l q. absurd (let z : ◌≡◌ {A = ℕ} 0 1 = cc in omega arith) }

-- ## Settling

pub begin_ready : (m : Model) (j : Job) → Ready m → Chosen m j → Ready (begin j.ticket m)
begin_ready m j r c = record {
  kind = r.kind;
  sound =
      let w = r.room j c.isin c.waits in
      sound_begin m j r.sound c (omega (arith, course_clock m j.ticket (bound_of m.settings j) w.0, w.1));
  promises = each_begin (λ (k : Job). k.promise ≡ 0) j.ticket m (λ k i n. r.promises k i) (λ k i e. r.promises k i);
  starts = each_begin (λ (k : Job). is_waiting k ≡ true → k.start ≡ 0) j.ticket m (λ k i n. r.starts k i) (λ k i e w. true_false false w refl);
  room =
      each_begin (λ (k : Job). is_waiting k ≡ true → Room (begin j.ticket m) k) j.ticket m
      (λ k i n w. let x = r.room k i w in (begin_keeps m j r.sound c k.ticket (bound_of m.settings k) (λ e. n (sym e)) x.0, x.1))
      (λ k i e w. true_false false w refl);
  submitted = each_begin (λ (k : Job). k.submitted ≤ m.clock) j.ticket m (λ k i n. r.submitted k i) (λ k i e. r.submitted k i);
  ranked =
      each_begin (λ (k : Job). (1 ≤ k.rank) × (k.rank ≤ slots m.settings)) j.ticket m (λ k i n. r.ranked k i) (λ k i e. r.ranked k i);
  forecast_to = each_begin (λ (k : Job). k.forecast ≤ horizon m.settings) j.ticket m (λ k i n. r.forecast_to k i) (λ k i e. r.forecast_to k i);
  kept =
      each_begin (λ (k : Job). is_waiting k ≡ true → 1 ≤ k.forecast → OnCourse (begin j.ticket m) k.ticket k.forecast) j.ticket m
      (λ k i n w f. begin_keeps m j r.sound c k.ticket k.forecast (λ e. n (sym e)) (r.kept k i w f))
      (λ k i e w f. true_false false w refl);
  others =
      subst (AfterFirst Unheard) (sym (queue_mark m.clock j.ticket m.jobs))
      (after_keep Unheard (λ (k : Job). not (eqb k.ticket j.ticket)) (queue m.jobs) r.others);
}

pub settles_ready : {m m' : Model} {ts : List ℕ} → Settles m m' ts → Ready m → Ready m'
settles_ready (rest e) r = r
settles_ready (start {m = m} j e s) r = settles_ready s (begin_ready m j r (chosen m j e))

-- a job on course is among those started, and the clock has not passed b; or it goes on waiting, on course still
pub settles_keeps : (u b : ℕ) {m m' : Model} {ts : List ℕ} → Settles m m' ts → Ready m → OnCourse m u b
    → ((elem u ts ≡ true) × (m'.clock ≤ b)) ⊎ ((elem u ts ≡ false) × OnCourse m' u b)
settles_keeps u b (rest e) r o = inr (refl, o)
settles_keeps u b (start {m = m} j e s) r o =
    case (eqb u j.ticket)
    (λ q. inl (rw q, omega (arith, settles_clock s, course_clock m u b o)))
    (λ q. rw q (settles_keeps u b s (begin_ready m j r (chosen m j e))
    (begin_keeps m j r.sound (chosen m j e) u b (λ z. eqb-false u j.ticket q (sym z)) o)))

-- ## The forecast is kept

-- who is head hears its shadow, and is on course for it
noted_ready : (m : Model) (f : Forecast) → Ready m → (h : Head m) → f.ticket ≡ h.job.ticket → f.minute ≡ shadow m h.job.nodes → Ready (noted (some f) m)
noted_ready m f r h t w = record {
  kind = r.kind;
  sound = sound_noted (some f) m r.sound;
  promises = same (λ (x : Job). x.promise ≡ 0) (λ d j p. p) r.promises;
  starts = same (λ (x : Job). is_waiting x ≡ true → x.start ≡ 0) (λ d j p. p) r.starts;
  submitted = same (λ (x : Job). x.submitted ≤ m.clock) (λ d j p. p) r.submitted;
  ranked = same (λ (x : Job). (1 ≤ x.rank) × (x.rank ≤ slots m.settings)) (λ d j p. p) r.ranked;
  room =
      same (λ (x : Job). is_waiting x ≡ true → Room (noted (some f) m) x) (λ d j p. p)
      (λ j i q. let x = r.room j i q in (course_noted (some f) m j.ticket (bound_of m.settings j) x.0, x.1));
  forecast_to = each_noted (some f) m (λ (x : Job). x.forecast ≤ horizon m.settings) (λ j i.
      case (eqb j.ticket f.ticket) (λ q. rw q early) (λ q. rw q (r.forecast_to j i)));
  kept =
      each_noted (some f) m (λ (x : Job). is_waiting x ≡ true → 1 ≤ x.forecast → OnCourse (noted (some f) m) x.ticket x.forecast) (λ j i.
      case (eqb j.ticket f.ticket)
      (λ q. rw q (λ x y. subst (λ (u : ℕ). OnCourse (noted (some f) m) u f.minute) (sym (eqb-true j.ticket f.ticket q)) on_course))
      (λ q. rw q (λ x y. course_noted (some f) m j.ticket j.forecast (r.kept j i x y))));
  others = subst (AfterFirst Unheard) (sym (queue_noted (some f) m ∙ ap (map (noting f)) h.first)) rest_unheard;
}
  where
    H : Job
    H = h.job

    heads : In H m.jobs × (is_waiting H ≡ true)
    heads = head_in m H h.later h.first

    same : (P : Job → Type 0) → ((d : ℕ) (j : Job) → P j → P (foretold d j)) → ((j : Job) → In j m.jobs → P j) → (k : Job)
        → In k (noted (some f) m).jobs → P k
    same P e g = each_noted (some f) m P (λ j i. notes_keeps P e (some f) j (g j i))

    on_course : OnCourse (noted (some f) m) f.ticket f.minute
    on_course =
        subst (λ (u : ℕ). OnCourse (noted (some f) m) u f.minute) (sym t)
        (subst (λ (d : ℕ). OnCourse (noted (some f) m) H.ticket d) (sym w)
        (course_noted (some f) m H.ticket (shadow m H.nodes) (head_course m H h.later h.first r.sound)))

    early : f.minute ≤ horizon m.settings
    early = let x = r.room H heads.0 heads.1 in omega (arith, w, x.0.by H h.later h.first, x.1)

    rest_unheard : All Unheard (map (noting f) h.later)
    rest_unheard =
        all_of Unheard (map (noting f) h.later) (λ k i.
        let j = map_in (noting f) h.later i in
        let n : (j.0.ticket ≡ f.ticket → ⊥) = λ z. omega (arith, head_lowest m H h.later h.first r.sound.asc j.0 j.1) in
        let w : noting f j.0 ≡ j.0 = rw (ne_eqb j.0.ticket f.ticket n) in
        ap (λ (x : Job). x.forecast) (j.2 ∙ w)
        ∙ all_in Unheard (subst (AfterFirst Unheard) h.first r.others) j.1)

told_ready : (b m : Model) → Ready m → Ready (noted (forecast b m) m)
told_ready b m r = by (forecast b m) refl
  where
    by : (o : Option Forecast) → forecast b m ≡ o → Ready (noted o m)
    by none e = r
    by (some f) e = let x = forecast_says b m f e in noted_ready m f r x.0 x.1 x.2

-- a new head has one, and so has one that was head before and is as it was
told_heard : (b m : Model) → Ready m → choice m ≡ none → ((h : Head m) (k : Head b) → k.job.ticket ≡ h.job.ticket → 1 ≤ h.job.forecast)
    → (h : Job) (later : List Job) → queue (noted (forecast b m) m).jobs ≡ h ∷ later → 1 ≤ h.forecast
told_heard b m r q old = by (forecast b m) refl
  where
    by : (o : Option Forecast) → forecast b m ≡ o → (h : Job) (later : List Job) → queue (noted o m).jobs ≡ h ∷ later → 1 ≤ h.forecast
    by none e h later x =
        let y : Head m = record { job = h; later = later; first = x } in
        let k = forecast_silent b m e y in
        old y k.0 k.1
    by (some f) e h later x =
        let y = forecast_says b m f e in
        let k = head_noted (some f) m h later x in
        let p : k.0 ∷ k.1 ≡ y.0.job ∷ y.0.later = sym k.2 ∙ y.0.first in
        let z : k.0 ≡ y.0.job = cc in
        let t : eqb k.0.ticket f.ticket ≡ true = eq-eqb k.0.ticket f.ticket (ap ticket_of z ∙ sym y.1) in
        let n : noting f k.0 ≡ foretold f.minute k.0 = rw t in
        let w : h ≡ foretold f.minute k.0 = k.3 ∙ n in
        omega (arith, ap (λ (j : Job). j.forecast) w, y.2, rest_shadow m y.0.job y.0.later y.0.first r.sound q)

-- ## What a call does before it settles

pub data OwnPart (m : Model) : Call → Model → ℕ → List ℕ → Type 0 where
  submits : (o : Submission) → Fit m o → latest_end m o.estimate ≤ horizon m.settings → OwnPart m (submit o) (joined m (new_job m o)) m.next []
  departs : (h : Departure) (t : ℕ) → any (picks (select.Departing h t)) m.jobs ≡ true
      → OwnPart m (depart h t) (without m m.clock (select.Departing h t)) 0 (ended_of (select.Departing h t) m.jobs)
  amends : (a : Amendment) → InPlace m a → OwnPart m (amend a) (in_place_of m a) a.ticket []
  ticks : suc m.clock ≤ horizon m.settings → OwnPart m tick (without m (suc m.clock) (ending m)) 0 (ended_of (ending m) m.jobs)

module _ (m : Model) (v : Valid m) where
  leave_ready : (c : ℕ) (p : Select) → Leaving m c p → Ready (without m c p)
  leave_ready c p l = record {
    kind = v.ready.kind;
    sound = sound_leave m c p v.ready.sound l;
    promises = remains (λ (x : Job). x.promise ≡ 0) (λ k x. x) v.ready.promises;
    starts = λ j i w. v.ready.starts j (waited j i w).0 w;
    room = λ j i w.
        let old = waited j i w in
        let x = v.ready.room j old.0 w in
        (leave_keeps m c p v.ready.sound v.rests l j.ticket (bound_of m.settings j) (stays j old) x.0, x.1);
    submitted = λ j i. remains (λ (x : Job). x.submitted ≤ c) (λ k x. x) (λ k x. omega (arith, v.ready.submitted k x, leaving_clock m c p l)) j i;
    ranked = remains (λ (x : Job). (1 ≤ x.rank) × (x.rank ≤ slots m.settings)) (λ k x. x) v.ready.ranked;
    forecast_to = remains (λ (x : Job). x.forecast ≤ horizon m.settings) (λ k x. x) v.ready.forecast_to;
    kept = λ j i w f.
        let old = waited j i w in
        leave_keeps m c p v.ready.sound v.rests l j.ticket j.forecast (stays j old) (v.ready.kept j old.0 w f);
    others =
        subst (AfterFirst Unheard) (sym (queue_remaining m.settings c p m.jobs))
        (after_keep Unheard (λ (j : Job). not (withdraws p j)) (queue m.jobs) v.ready.others);
  }
    where
      -- what holds of a job, and of it once its run has ended, holds of who remains
      remains : (P : Job → Type 0) → ((k : Job) → P k → P (cleaning c k)) → ((k : Job) → In k m.jobs → P k) → (j : Job)
          → In j (without m c p).jobs → P j
      remains P e f j i =
          let k = remaining_in m.settings c p m.jobs i in
          subst P (sym k.3) (case (ends p k.0) (λ z. rw z (e k.0 (f k.0 k.1))) (λ z. rw z (f k.0 k.1)))

      waited : (j : Job) → In j (without m c p).jobs → is_waiting j ≡ true → In j m.jobs × (withdraws p j ≡ false)
      waited j i w = remaining_waited m.settings c p m.jobs i w

      stays : (j : Job) → In j m.jobs × (withdraws p j ≡ false) → (k : Job) → In k m.jobs → is_waiting k ≡ true → k.ticket ≡ j.ticket
          → withdraws p k ≡ false
      stays j (i, n) k l w e = ap (withdraws p) (asc_one 1 m.jobs k j v.ready.sound.asc l i e) ∙ n

  join_ready : (o : Submission) → Fit m o → latest_end m o.estimate ≤ horizon m.settings → Ready (joined m (new_job m o))
  join_ready o f room = record {
    kind = v.ready.kind;
    sound = sound_join m o (new_job m o) v.ready.sound f fresh refl refl (omega (arith, v.ready.sound.capacity));
    promises = each (λ (k : Job). k.promise ≡ 0) v.ready.promises refl;
    starts = each (λ (k : Job). is_waiting k ≡ true → k.start ≡ 0) v.ready.starts (λ w. refl);
    room =
        each (λ (k : Job). is_waiting k ≡ true → Room (joined m (new_job m o)) k)
        (λ k i w. let x = v.ready.room k i w in
        (eased m (joined m (new_job m o)) k.ticket (bound_of m.settings k) v.ready.sound v.rests (join_eases m o) x.0, x.1))
        (λ w. (join_course m o, room));
    submitted = each (λ (k : Job). k.submitted ≤ m.clock) v.ready.submitted (omega arith);
    ranked =
        each (λ (k : Job). (1 ≤ k.rank) × (k.rank ≤ slots m.settings)) v.ready.ranked
        (omega arith, omega (arith, fit_room m o v.ready.sound f, length_keep_le is_waiting m.jobs));
    forecast_to = each (λ (k : Job). k.forecast ≤ horizon m.settings) v.ready.forecast_to (omega arith);
    kept =
        each (λ (k : Job). is_waiting k ≡ true → 1 ≤ k.forecast → OnCourse (joined m (new_job m o)) k.ticket k.forecast)
        (λ k i w g. eased m (joined m (new_job m o)) k.ticket k.forecast v.ready.sound v.rests (join_eases m o) (v.ready.kept k i w g))
        (λ w g. absurd (omega arith));
    others =
        subst (AfterFirst Unheard) (sym (keep_append is_waiting m.jobs (new_job m o ∷ []))) (after_append Unheard (queue m.jobs) (new_job m o) v.ready.others refl);
  }
    where
      each : (P : Job → Type 0) → ((j : Job) → In j m.jobs → P j) → P (new_job m o) → (k : Job) → In k (joined m (new_job m o)).jobs → P k
      each P f p k i = by (in_append m.jobs i)
        where
          last : (k ≡ new_job m o) ⊎ In k [] → P k
          last (inl q) = subst P (sym q) p
          last (inr u) = in_nil u

          by : In k m.jobs ⊎ In k (new_job m o ∷ []) → P k
          by (inl o) = f k o
          by (inr o) = last (in_cons o)

      fresh : SoundJob m.settings m.clock (new_job m o)
      fresh = record {
        is_live = refl;
        nodes_from = f.nodes_from;
        nodes_to = f.nodes_to;
        estimate_from = f.estimate_from;
        estimate_to = f.estimate_to;
        least_to = f.least_to;
        ends = omega (arith, room, until_is m.settings (new_job m o) refl);
        holds = λ r. true_false false r refl;
        runs = λ r. true_false false r refl;
        cleaned = λ r. true_false false r refl;
        no_end = λ r. refl;
        tenant_is = f.tenant_is;
      }

pub inplace_ready : (m : Model) (a : Amendment) → InPlace m a → Valid m → Ready (in_place_of m a)
inplace_ready m a p v = record {
  kind = v.ready.kind;
  sound = inplace_sound m a p.range p.shrinks v.ready.sound;
  promises = each (λ (x : Job). x.promise ≡ 0) (λ j i. kept_promise_lem a j ∙ v.ready.promises j i);
  starts = each (λ (x : Job). is_waiting x ≡ true → x.start ≡ 0) (λ j i w. kept_start a j ∙ v.ready.starts j i (waited j w));
  submitted = each (λ (x : Job). x.submitted ≤ m.clock) (λ j i. omega (arith, v.ready.submitted j i, kept_submitted a j));
  ranked =
      each (λ (x : Job). (1 ≤ x.rank) × (x.rank ≤ slots m.settings))
      (λ j i. let r = v.ready.ranked j i in (omega (arith, r.0, kept_rank a j), omega (arith, r.1, kept_rank a j)));
  room =
      each (λ (x : Job). is_waiting x ≡ true → Room (in_place_of m a) x)
      (λ j i w.
      let o = v.ready.room j i (waited j w) in (
        course j (bound_of m.settings j) (bound_of m.settings (supersede a j)) (kept_bound a m.settings j) o.0,
        omega (arith, o.1, kept_bound a m.settings j, shorter_hold m.settings a j (p.shrinks j i)),
      ));
  forecast_to = each (λ (x : Job). x.forecast ≤ horizon m.settings) (λ j i. omega (arith, v.ready.forecast_to j i, kept_forecast a j));
  kept =
      each (λ (x : Job). is_waiting x ≡ true → 1 ≤ x.forecast → OnCourse (in_place_of m a) x.ticket x.forecast)
      (λ j i w f. course j j.forecast (supersede a j).forecast (kept_forecast a j) (v.ready.kept j i (waited j w) (omega (arith, f, kept_forecast a j))));
  others =
      subst (AfterFirst Unheard) (sym (kept_queue m a))
      (after_map Unheard (supersede a) (λ j u. kept_forecast a j ∙ u) (queue m.jobs) v.ready.others);
}
  where
    each : (P : Job → Type 0) → ((j : Job) → In j m.jobs → P (supersede a j)) → (x : Job) → In x (in_place_of m a).jobs → P x
    each P f x i = let j = superseded_in m a p.range p.shrinks x i in subst P (sym j.2) (f j.0 j.1)

    waited : (j : Job) → is_waiting (supersede a j) ≡ true → is_waiting j ≡ true
    waited j w = sym (ap waiting? (kept_state a j)) ∙ w

    course : (j : Job) (b d : ℕ) → d ≡ b → OnCourse m j.ticket b → OnCourse (in_place_of m a) (supersede a j).ticket d
    course j b d e o =
        subst (λ (t : ℕ). OnCourse (in_place_of m a) t d) (sym (kept_ticket a j))
        (subst (OnCourse (in_place_of m a) j.ticket) (sym e) (inplace_course m a p.range p.shrinks j.ticket b v.ready.sound o))

pub moved_ready : {m : Model} {c : Call} {mid : Model} {t : ℕ} {ts : List ℕ} → OwnPart m c mid t ts → Valid m → Ready mid
moved_ready {m} (submits o f room) v = join_ready m v o f room
moved_ready {m} (departs h t a) v = leave_ready m v m.clock (select.Departing h t) (early h t)
moved_ready {m} (amends a p) v = inplace_ready m a p v
moved_ready {m} (ticks l) v = leave_ready m v (suc m.clock) (ending m) (in_time_lem l)

pub moved_settings : {m : Model} {c : Call} {mid : Model} {t : ℕ} {ts : List ℕ} → OwnPart m c mid t ts → mid.settings ≡ m.settings
moved_settings (submits o f room) = refl
moved_settings (departs h t a) = refl
moved_settings (amends a p) = refl
moved_settings (ticks l) = refl

-- who comes by it
abbrev pub joiner : {m : Model} {c : Call} {mid : Model} {t : ℕ} {ts : List ℕ} → OwnPart m c mid t ts → List Newcomer
joiner {m} (submits o f room) = record { ticket = m.next; nodes = o.nodes; promise = 0; tenant = o.tenant; least = o.least } ∷ []
joiner (departs h t a) = []
joiner (amends a p) = []
joiner (ticks l) = []

-- and who is withdrawn
abbrev pub leaver : {m : Model} {c : Call} {mid : Model} {t : ℕ} {ts : List ℕ} → OwnPart m c mid t ts → List ℕ
leaver (submits o f room) = []
leaver (departs Complete t a) = []
leaver (departs Cancel t a) = t ∷ []
leaver (amends a p) = []
leaver (ticks l) = []

-- and who is amended
abbrev pub amender : {m : Model} {c : Call} {mid : Model} {t : ℕ} {ts : List ℕ} → OwnPart m c mid t ts → List Amendment
amender (submits o f room) = []
amender (departs h t a) = []
amender (amends a p) = a ∷ []
amender (ticks l) = []

-- ## Who waits before the settling

pub in_one : {A : Type 0} {a x : A} → In a (x ∷ []) → a ≡ x
in_one i = ⊎_elim (λ e. e) (λ k. in_nil k) (in_cons i)

abbrev pub Joins : {m : Model} {c : Call} {mid : Model} {t : ℕ} {ts : List ℕ} → OwnPart m c mid t ts → ℕ → Type 0
Joins x u = (o : Newcomer) × In o (joiner x) × (o.ticket ≡ u)

pub joins_ticket : {m : Model} {c : Call} {mid : Model} {t : ℕ} {ts : List ℕ} (x : OwnPart m c mid t ts) (o : Newcomer) → In o (joiner x) → o.ticket ≡ t
joins_ticket {m} (submits s f room) o i = ap (λ (n : Newcomer). n.ticket) (in_one i)
joins_ticket (departs h t a) o i = in_nil i
joins_ticket (amends a p) o i = in_nil i
joins_ticket (ticks l) o i = in_nil i

-- it waited before the call, or is the one that the call took in
pub moved_waited : {m : Model} {c : Call} {mid : Model} {t : ℕ} {ts : List ℕ} (x : OwnPart m c mid t ts) (u : ℕ) → Waits mid u → Waits m u ⊎ Joins x u
moved_waited {m} x u w = go x w.job w.isin w.waits w.named
  where
    stays : (c : ℕ) (p : Select) (j : Job) → In j (remaining m.settings c p m.jobs) → is_waiting j ≡ true → j.ticket ≡ u → Waits m u
    stays c p j i q n = record { job = j; isin = (remaining_waited m.settings c p m.jobs i q).0; waits = q; named = n }

    go : {c : Call} {mid : Model} {t : ℕ} {ts : List ℕ} (x : OwnPart m c mid t ts) (j : Job) → In j mid.jobs → is_waiting j ≡ true → j.ticket ≡ u
        → Waits m u ⊎ Joins x u
    go (submits o f room) j i q z = either_way (in_append m.jobs i)
      where
        either_way : In j m.jobs ⊎ In j (new_job m o ∷ []) → Waits m u ⊎ Joins (submits o f room) u
        either_way (inl i) = inl (record { job = j; isin = i; waits = q; named = z })
        either_way (inr i) = inr (_, here refl, ap ticket_of (sym (in_one i)) ∙ z)
    go (departs h t a) j i q z = inl (stays m.clock (select.Departing h t) j i q z)
    go (amends a p) j i q z =
        let k = superseded_in m a p.range p.shrinks j i in
        inl (record {
          job = k.0;
          isin = k.1;
          waits = sym (ap waiting? (kept_state a k.0)) ∙ sym (ap is_waiting k.2) ∙ q;
          named = sym (kept_ticket a k.0) ∙ sym (ap ticket_of k.2) ∙ z;
        })
    go (ticks l) j i q z = inl (stays (suc m.clock) (ending m) j i q z)

-- and is not withdrawn
pub moved_stays : {m : Model} {c : Call} {mid : Model} {t : ℕ} {ts : List ℕ} (x : OwnPart m c mid t ts) (u : ℕ) → Waits mid u → elem u (leaver x) ≡ false
moved_stays (submits o f room) u w = refl
moved_stays (departs Complete t a) u w = refl
moved_stays {m} (departs Cancel t a) u w =
    let p = select.Departing Cancel t in
    case (eqb u t)
    (λ e. true_false (withdraws p w.job) (rw w.waits (eq-eqb w.job.ticket t (w.named ∙ eqb-true u t e)))
    (remaining_waited m.settings m.clock p m.jobs w.isin w.waits).1)
    (λ e. rw e)
moved_stays (amends a p) u w = refl
moved_stays (ticks l) u w = refl

-- who is withdrawn waited
pub moved_withdraws : {m : Model} {c : Call} {mid : Model} {t : ℕ} {ts : List ℕ} (x : OwnPart m c mid t ts) → Sound m → (u : ℕ) → elem u (leaver x) ≡ true → Waits m u
moved_withdraws (submits o f room) s u e = true_false false e refl
moved_withdraws (departs Complete t a) s u e = true_false false e refl
moved_withdraws {m} (departs Cancel t a) s u e =
    let p = picks (select.Departing Cancel t) in
    let j = elem_job u (keep p m.jobs) (ap (elem u) (departs_alone Cancel t 1 m.jobs s.asc a) ∙ e) in
    let k = keep_in p m.jobs j.1 in
    record { job = j.0; isin = k.0; waits = withdraws_waits (select.Departing Cancel t) j.0 k.1; named = j.2 }
moved_withdraws (amends a p) s u e = true_false false e refl
moved_withdraws (ticks l) s u e = true_false false e refl

-- ## What is kept

-- who is on course, and is not withdrawn by it, is on course still
pub moved_keeps : {m : Model} {c : Call} {mid : Model} {t : ℕ} {ts : List ℕ} (x : OwnPart m c mid t ts) → Valid m → (u b : ℕ) → elem u (leaver x) ≡ false
    → OnCourse m u b → OnCourse mid u b
moved_keeps {m} (submits o f room) v u b n x = eased m _ u b v.ready.sound v.rests (join_eases m o) x
moved_keeps {m} (departs Complete t a) v u b n x =
    leave_keeps m _ _ v.ready.sound v.rests (early Complete t) u b (λ j i w e. refl) x
moved_keeps {m} (departs Cancel t a) v u b n x =
    withdraw_keeps m t v.ready.sound u b (λ e. true_false true refl (rw (eq-eqb u t e) at n)) x
moved_keeps {m} (amends a p) v u b n x = inplace_course m a p.range p.shrinks u b v.ready.sound x
moved_keeps {m} (ticks l) v u b n x = leave_keeps m _ _ v.ready.sound v.rests (in_time_lem l) u b (λ j i w e. refl) x

-- ## Each call is accepted or refused

pub record CallAccepted (m : Model) (c : Call) (o : Result) : Type 0 where
  -- the model before it settles, and once it has
  pub mid : Model
  pub last : Model
  pub moved : OwnPart m c mid o.reply.ticket o.reply.ended
  pub trace : Settles mid last o.reply.started
  pub accepted : o.reply.refusal ≡ refusal.None
  pub promise : o.reply.promise ≡ 0
  -- the new head's forecast, which its record keeps
  pub told : o.reply.head ≡ forecast m last
  pub model_is : o.model ≡ noted (forecast m last) last

module _ (m : Model) (c : Call) (o : Result) (t : CallAccepted m c o) where
  pub taken_head : o.reply.head ≡ forecast m o.model
  taken_head = t.told ∙ sym (ap (forecast m) t.model_is ∙ forecast_noted m (forecast m t.last) t.last)

  pub taken_clock : o.model.clock ≡ t.mid.clock
  taken_clock = ap (λ (x : Model). x.clock) t.model_is ∙ noted_clock (forecast m t.last) t.last ∙ settles_clock t.trace

  pub taken_settings : o.model.settings ≡ m.settings
  taken_settings =
      ap (λ (x : Model). x.settings) t.model_is ∙ noted_settings (forecast m t.last) t.last ∙ settles_settings t.trace
      ∙ moved_settings t.moved

  pub taken_next : o.model.next ≡ t.mid.next
  taken_next = ap (λ (x : Model). x.next) t.model_is ∙ noted_next (forecast m t.last) t.last ∙ settles_next t.trace

  pub taken_course : (u b : ℕ) → OnCourse t.last u b → OnCourse o.model u b
  taken_course u b x =
      subst (λ (y : Model). OnCourse y u b) (sym t.model_is) (course_noted (forecast m t.last) t.last u b x)

-- nothing has changed: the call was refused, or leaves the scheduler as it is
pub record Unchanged (m : Model) (c : Call) (o : Result) : Type 0 where
  pub why : Refusal
  pub same : o ≡ refuse m why
  pub silent : news_of c (refusing why) ≡ nothing

pub taken_came : (m : Model) (c : Call) (o : Result) (t : CallAccepted m c o) → (news_of c o.reply).came ≡ joiner t.moved
taken_came m c o t = by t.moved refl t.accepted t.promise
  where
    by : {c : Call} {mid : Model} {u : ℕ} {ts : List ℕ} (x : OwnPart m c mid u ts) → o.reply.ticket ≡ u
        → o.reply.refusal ≡ refusal.None → o.reply.promise ≡ 0 → (news_of c o.reply).came ≡ joiner x
    by (submits o f room) q a p = rw (a, q, p)
    by (departs h t y) q a p = rw a
    by (amends c y) q a p = rw a
    by (ticks l) q a p = rw a

pub taken_withdrew : (m : Model) (c : Call) (o : Result) (t : CallAccepted m c o) → (news_of c o.reply).withdrew ≡ leaver t.moved
taken_withdrew m c o t = by t.moved t.accepted
  where
    by : {c : Call} {mid : Model} {u : ℕ} {ts : List ℕ} (x : OwnPart m c mid u ts) → o.reply.refusal ≡ refusal.None
        → (news_of c o.reply).withdrew ≡ leaver x
    by (submits o f room) a = rw a
    by (departs Complete t y) a = rw a
    by (departs Cancel t y) a = rw a
    by (amends c y) a = rw a
    by (ticks l) a = rw a

pub taken_amended : (m : Model) (c : Call) (o : Result) (t : CallAccepted m c o) → (news_of c o.reply).amended ≡ amender t.moved
taken_amended m c o t = by t.moved t.accepted
  where
    by : {c : Call} {mid : Model} {u : ℕ} {ts : List ℕ} (x : OwnPart m c mid u ts) → o.reply.refusal ≡ refusal.None
        → (news_of c o.reply).amended ≡ amender x
    by (submits o f room) a = rw a
    by (departs h t y) a = rw a
    by (amends c y) a = rw a
    by (ticks l) a = rw a

pub quiet_news : (m : Model) (c : Call) (o : Result) → Unchanged m c o → news_of c o.reply ≡ nothing
quiet_news m c o q = ap (λ (x : Result). news_of c x.reply) q.same ∙ q.silent

finished_taken : (m : Model) (c : Call) (mid : Model) (t : ℕ) (ts : List ℕ) → OwnPart m c mid t ts → Ready mid → CallAccepted m c (finished m mid t ts)
unfolding finished
finished_taken m c mid t ts x r = record {
  mid = mid;
  last = (settled mid).model;
  moved = x;
  trace = settles mid r.sound;
  accepted = refl;
  promise = refl;
  told = refl;
  model_is = refl;
}

judge : (m : Model) (c : Call) (r : Refusal) (o : Result) → (accepts r ≡ true → CallAccepted m c o)
    → CallAccepted m c (judged m r o) ⊎ Unchanged m c (judged m r o)
judge m c r o f = case (accepts r) (λ e. rw e (inl (f e))) (λ e. rw e (inr (record { why = r; same = refl; silent = refused_news c r e })))

-- what is accepted moves the model
module _ (m : Model) where
  pub submit_moves : (o : Submission) → accepts (submit_refusal m o) ≡ true → OwnPart m (submit o) (joined m (new_job m o)) m.next []
  unfolding submit_refusal
  submit_moves o a =
      let f = submit_fit m o _ a in
      let p = passed (ltb (horizon m.settings) (latest_end m o.estimate)) refusal.PastHorizon [] refl f.1 in
      submits o f.0 (ltb-false (horizon m.settings) (latest_end m o.estimate) p.0)

  pub depart_moves : (h : Departure) (t : ℕ) → accepts (depart_refusal m h t) ≡ true
      → OwnPart m (depart h t) (without m m.clock (select.Departing h t)) 0 (ended_of (select.Departing h t) m.jobs)
  unfolding depart_refusal
  depart_moves h t a =
      let p = passed (not (any (picks (select.Departing h t)) m.jobs)) (not_there_of h) _ (not_there h) a in
      departs h t (not-false (any (picks (select.Departing h t)) m.jobs) p.0)

  pub tick_moves : accepts (tick_refusal m) ≡ true → OwnPart m tick (without m (suc m.clock) (ending m)) 0 (ended_of (ending m) m.jobs)
  unfolding tick_refusal
  tick_moves a =
      let p = passed (ltb (horizon m.settings) (suc m.clock)) refusal.PastHorizon [] refl a in
      ticks (ltb-false (horizon m.settings) (suc m.clock) p.0)

pub called : (m : Model) (c : Call) → Valid m → CallAccepted m c (call m c) ⊎ Unchanged m c (call m c)
unfolding call advanced
called m (submit o) v =
    judge m (submit o) (submit_refusal m o) (finished m (joined m (new_job m o)) m.next [])
    (λ a. let x = submit_moves m o a in finished_taken m (submit o) (joined m (new_job m o)) m.next [] x (moved_ready x v))
called m (depart h t) v =
    judge m (depart h t) (depart_refusal m h t) (advanced m m.clock (select.Departing h t))
    (λ a. let x = depart_moves m h t a in finished_taken m (depart h t) _ 0 _ x (moved_ready x v))
called m tick v =
    judge m tick (tick_refusal m) (advanced m (suc m.clock) (ending m))
    (λ a. let x = tick_moves m a in finished_taken m tick _ 0 _ x (moved_ready x v))
called m (amend a) v =
    judge m (amend a) (in_place_refusal m a) (finished m (in_place_of m a) a.ticket [])
    (λ x. let p = inplace_fit m a x in finished_taken m (amend a) _ a.ticket [] (amends a p) (moved_ready (amends a p) v))
called m (unchanged r) v = inr (record { why = r; same = refl; silent = unchanged_news r r })

-- who waits at the end waited before the settling, as it is
settles_waiting : {mid last : Model} {ts : List ℕ} → Settles mid last ts → (j : Job) → In j last.jobs → is_waiting j ≡ true → In j mid.jobs
settles_waiting (rest e) j i w = i
settles_waiting (start {m = m} k e s) j i w =
    each_begin (λ (x : Job). is_waiting x ≡ true → In x m.jobs) k.ticket m (λ x i n q. i) (λ x i n q. true_false false q refl) j
    (settles_waiting s j i w) w

-- a job of the model with this ticket and this forecast
abbrev Was : Model → Job → Type 0
Was m j = (k : Job) × In k m.jobs × (k.ticket ≡ j.ticket) × (k.forecast ≡ j.forecast)

-- and before the call, with the forecast that it has, unless it comes
moved_waiting : {m : Model} {c : Call} {mid : Model} {t : ℕ} {ts : List ℕ} → OwnPart m c mid t ts → (j : Job) → In j mid.jobs → is_waiting j ≡ true
    → Was m j ⊎ (j.ticket ≡ m.next)
moved_waiting {m} (submits o f room) j i w = by (in_append m.jobs i)
  where
    by : In j m.jobs ⊎ In j (new_job m o ∷ []) → Was m j ⊎ (j.ticket ≡ m.next)
    by (inl x) = inl (j, x, refl, refl)
    by (inr x) = inr (ap ticket_of (in_one x))
moved_waiting {m} (departs h t a) j i w = inl (j, (remaining_waited m.settings m.clock (select.Departing h t) m.jobs i w).0, refl, refl)
moved_waiting {m} (amends a p) j i w =
    let k = superseded_in m a p.range p.shrinks j i in
    inl (
      k.0,
      k.1,
      sym (kept_ticket a k.0) ∙ sym (ap ticket_of k.2),
      sym (kept_forecast a k.0) ∙ sym (ap (λ (x : Job). x.forecast) k.2),
    )
moved_waiting {m} (ticks l) j i w = inl (j, (remaining_waited m.settings (suc m.clock) (ending m) m.jobs i w).0, refl, refl)

accepted_valid : (m : Model) (c : Call) (o : Result) → Valid m → CallAccepted m c o → Valid o.model
accepted_valid m c o v t =
    let r = settles_ready t.trace (moved_ready t.moved v) in
    let f = forecast m t.last in
    subst Valid (sym t.model_is) (record {
      ready = told_ready m t.last r;
      rests = choice_noted f t.last (settles_rest t.trace);
      heard = told_heard m t.last r (settles_rest t.trace) old;
    })
  where
    old : (h : Head t.last) (k : Head m) → k.job.ticket ≡ h.job.ticket → 1 ≤ h.job.forecast
    old h k e =
        let x = head_in t.last h.job h.later h.first in
        let y = head_in m k.job k.later k.first in
        ⊎_elim
        (λ (i : Was m h.job).
        let z : k.job ≡ i.0 = asc_one 1 m.jobs k.job i.0 v.ready.sound.asc y.0 i.1 (e ∙ sym i.2) in
        omega (arith, v.heard k.job k.later k.first, ap (λ (j : Job). j.forecast) z, i.3))
        (λ (i : h.job.ticket ≡ m.next). absurd (omega (arith, v.ready.sound.below k.job y.0)))
        (moved_waiting t.moved h.job (settles_waiting t.trace h.job x.0 x.1) x.1)

pub call_valid : (m : Model) (c : Call) → Valid m → Valid (call m c).model
call_valid m c v =
    ⊎_elim (λ (t : CallAccepted m c (call m c)). accepted_valid m c (call m c) v t)
    (λ (q : Unchanged m c (call m c)). subst (λ (o : Result). Valid o.model) (sym q.same) v)
    (called m c v)
