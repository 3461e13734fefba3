-- Every call of this kind owes what `Lawful` asks of it.
-- Assumes nothing.
use Rattle.std.specs.Prelude.{ℕ, suc, ◌≤◌, ◌<◌, min, ◌≡◌, refl, true, false, not, ◌⊎◌, eqb}
use Rattle.std.proofs.Common.{arith, sym, ap, ap₂, subst, ◌∙◌, inl, inr, ⊎_elim, eqb-true}
use Rattle.std.proofs.Math.Option.{Option, none, some}
use mathlib.Core.List.{List, [], ◌∷◌, ◌++◌, map, foldr, map-map, map-append}
use Rattle.std.proofs.lemmas.Bool.{not-true}
use Rattle.lists.specs.Tests.{case, true_false}
use Rattle.lists.specs.Lists.{keep, any, elem, In, here, there, in_nil, in_cons, in_append, in_map, keep_in, keep_all, keep_none, map_cong, map_same}
use Rattle.scheduler.specs.declared.Kind.TheVariants.{Easy}
use Rattle.scheduler.specs.declared.State.{State}
use Rattle.scheduler.specs.declared.State.TheVariants.{Unused, Waiting, Running, Cleanup}
use Rattle.scheduler.specs.declared.Job.{Job}
use Rattle.scheduler.specs.declared.Refusal.TheVariants as refusal
use Rattle.scheduler.specs.declared.Submission.{Submission}
use Rattle.scheduler.specs.declared.Departure.{Departure}
use Rattle.scheduler.specs.declared.Departure.TheVariants.{Complete, Cancel}
use Rattle.scheduler.specs.declared.Select.{Select}
use Rattle.scheduler.specs.declared.Select.TheVariants as select
use Rattle.scheduler.specs.States.{waiting?}
use Rattle.scheduler.specs.Jobs.{is_waiting, picks}
use Rattle.scheduler.specs.Settings.{horizon, cleanup}
use Rattle.scheduler.specs.Table.{tickets_of, ended_of, leaves, staying, ceased}
use Rattle.scheduler.specs.Model.{Model, ending, joined}
use Rattle.scheduler.specs.Answers.{Reply, Result, Forecast, refusing}
use Rattle.scheduler.specs.declared.Amendment.{Amendment}
use Rattle.scheduler.specs.Amending.{supersede, in_place_of}
use Rattle.jobs.specs.Order.{Asc, asc_one}
use Rattle.jobs.specs.Departing.{departs_alone}
use Rattle.jobs.specs.Soundness.{Sound, early, in_time_lem, ceased_ticket, ceased_waits, all_live}
use Rattle.jobs.specs.Amended.{InPlace, kept_ticket, inplace_sound}
use Rattle.history.specs.Calls.{Call}
use Rattle.history.specs.News.{Newcomer, amended_ticket, News, news_of, clock_after, came_stays}
use Rattle.history.specs.Book.{waiting}
use Rattle.history.specs.Beginning.{fate_by}
use Rattle.history_proof.specs.Amended.{plain, remark_supersede, named_queued}
use Rattle.history_proof.specs.Obligations.{JobShown, shown, is_live_of, remark, shown_after, newly, comers, Tells, bound_at}
use Rattle.history_proof.specs.Obligations.{lowest_waiting, Queued, Comes, by, Kept, For, Lawful, Seeded}
use Rattle.history_proof.specs.Departures.{lives, Departs, departs_live, departs_shown, stay_live, stay_shown, tells_by, tells_leave, tells_nothing}
use Rattle.history_proof.specs.Departures.{kept_by, queued_by, remark_same, shown_with}
use Rattle.easy_rules.specs.Easy.{queue, head, shadow, head_is, forecast, noted, new_job, call, begun}
use Rattle.easy_laws.specs.Settling.{marks, settles_clock, settles_jobs}
use Rattle.easy_laws.specs.Course.{Waits, OnCourse, Head, head_in, head_lowest, head_course, course_rest, settles_waited, join_course}
use Rattle.easy_laws.specs.Validity.{Valid, OwnPart, submits, departs, ticks, moved_ready, moved_keeps, settles_keeps, joiner, leaver}
use Rattle.easy_laws.specs.Validity.{in_one, Joins, moved_waited, moved_stays, moved_withdraws, CallAccepted, taken_head, taken_clock, taken_settings}
use Rattle.easy_laws.specs.Validity.{taken_course, taken_came, taken_withdrew, Unchanged, quiet_news, called, call_valid, amends, amender}
use Rattle.easy_laws.specs.Validity.{taken_amended}
use Rattle.easy_laws.specs.Noted.{notes, noted_jobs, notes_by, forecast_says}

-- ## The clock and the settings

moved_clock : {m : Model} {c : Call} {mid : Model} {t : ℕ} {ts : List ℕ} → OwnPart m c mid t ts → (r : Reply) → r.refusal ≡ refusal.None
    → mid.clock ≡ clock_after (news_of c r) m.clock
moved_clock (submits w f room) r q = rw q
moved_clock (departs h t a) r q = rw q
moved_clock (amends a p) r q = rw q
moved_clock (ticks l) r q = rw q

-- ## The answer tells what has changed

fate_waits : (s : State) (b n : ℕ) → waiting? s ≡ true → fate_by s b n ≡ waiting
fate_waits Unused b n e = refl
fate_waits Waiting b n e = refl
fate_waits Running b n e = true_false false e refl
fate_waits Cleanup b n e = true_false false e refl

module _ (k now : ℕ) (e : News) where
  -- what a call's own part leaves of a job that lives on is as the answer says, whether the settling starts it or not
  record Left (j r : Job) : Type 0 where
    pub ticket : r.ticket ≡ j.ticket
    pub begins : is_waiting r ≡ true → elem j.ticket e.started ≡ true → shown (begun now r) ≡ remark k now e (shown j)
    pub live : lives k now e j ≡ true
    pub still : elem j.ticket e.started ≡ false → remark k now e (shown j) ≡ shown r

  -- a job that the settling started, where nobody is amended
  shown_started : e.amended ≡ [] → (j : Job) → is_waiting j ≡ true → lives k now e j ≡ true → elem j.ticket e.started ≡ true
      → shown (begun now j) ≡ remark k now e (shown j)
  shown_started x j w n q =
      let f = fate_waits j.state j.start j.end w in
      sym (remark_same k now e (shown j) x ∙ shown_with (shown (begun now j)) _
      (case (elem j.ticket e.withdrew) (λ z. true_false false (rw (f, z) at n) refl) (λ z. rw (f, z, q))))

  -- and so is one that its own part left as it was
  begins_same : e.amended ≡ [] → (j r : Job) → (is_waiting r ≡ true → r ≡ j) → lives k now e j ≡ true
      → is_waiting r ≡ true → elem j.ticket e.started ≡ true → shown (begun now r) ≡ remark k now e (shown j)
  begins_same x j r s l w q =
      let z : r ≡ j = s w in
      ap (λ (y : Job). shown (begun now y)) z ∙ shown_started x j (ap is_waiting (sym z) ∙ w) l q

  shown_marks : (j r : Job) → Left j r → (elem r.ticket e.started ≡ true → is_waiting r ≡ true)
      → shown (marks now e.started r) ≡ remark k now e (shown j)
  shown_marks j r l w =
      case (elem r.ticket e.started)
      (λ q. rw q (l.begins (w q) (ap (λ (t : ℕ). elem t e.started) (sym l.ticket) ∙ q)))
      (λ q. rw q (sym (l.still (ap (λ (t : ℕ). elem t e.started) (sym l.ticket) ∙ q))))

  shown_after_lem : (f : Job → Job) (js : List Job) → ((j : Job) → In j js → Left j (f j))
      → ((j : Job) → In j js → elem (f j).ticket e.started ≡ true → is_waiting (f j) ≡ true)
      → map shown (map (marks now e.started) (map f js)) ≡ map (remark k now e) (map shown js)
  shown_after_lem f js l w =
      ap (map shown) (map-map (marks now e.started) f js)
      ∙ map-map shown (λ (j : Job). marks now e.started (f j)) js
      ∙ map_cong (λ (j : Job). shown (marks now e.started (f j))) (λ (j : Job). remark k now e (shown j)) js (λ j i. shown_marks j (f j) (l j i) (w j i))
      ∙ sym (map-map (remark k now e) shown js)

-- the jobs that a call's own part leaves, and who comes, as they were before it
abbrev kept : {m : Model} {c : Call} {mid : Model} {t : ℕ} {ts : List ℕ} → OwnPart m c mid t ts → List Job
kept {m} (submits o f room) = m.jobs ++ new_job m o ∷ []
kept {m} (departs h t a) = staying m.settings (select.Departing h t) m.jobs
kept {m} (amends a p) = m.jobs
kept {m} (ticks l) = staying m.settings (ending m) m.jobs

-- and what it leaves of each
abbrev left_as : {m : Model} {c : Call} {mid : Model} {t : ℕ} {ts : List ℕ} → OwnPart m c mid t ts → Job → Job
left_as (submits o f room) j = j
left_as {m} (departs h t a) j = ceased m.clock (select.Departing h t) j
left_as (amends a p) j = supersede a j
left_as {m} (ticks l) j = ceased (suc m.clock) (ending m) j

moved_jobs : {m : Model} {c : Call} {mid : Model} {t : ℕ} {ts : List ℕ} (x : OwnPart m c mid t ts) → mid.jobs ≡ map (left_as x) (kept x)
moved_jobs {m} (submits o f room) = sym (map_same (λ (j : Job). j) (m.jobs ++ new_job m o ∷ []) (λ j i. refl))
moved_jobs (departs h t a) = refl
moved_jobs (amends a p) = refl
moved_jobs (ticks l) = refl

module _ (m : Model) (e : News) (s : Sound m) where
  abbrev lasts : ℕ
  lasts = cleanup m.settings

  none_withdrawn : [] ≡ tickets_of (keep (λ (j : Job). false) m.jobs)
  none_withdrawn = sym (ap tickets_of (keep_none (λ (j : Job). false) m.jobs (λ j i. refl)))

  -- whose runs end and who leaves is as the answer says
  departing : (h : Departure) (t : ℕ) (a : any (picks (select.Departing h t)) m.jobs ≡ true) → e.ended ≡ ended_of (select.Departing h t) m.jobs
      → e.withdrew ≡ leaver {m = m} (departs h t a) → e.amended ≡ [] → Departs m m.clock (select.Departing h t) e
  departing Complete t a d w n = record { leaving = early Complete t; ended_are = d; withdrew_are = w ∙ none_withdrawn; none_amended = n }
  departing Cancel t a d w n = record {
    leaving = early Cancel t;
    ended_are = d;
    withdrew_are = w ∙ sym (departs_alone Cancel t 1 m.jobs s.asc a);
    none_amended = n;
  }

  ticking : suc m.clock ≤ horizon m.settings → e.ended ≡ ended_of (ending m) m.jobs → e.withdrew ≡ [] → e.amended ≡ []
      → Departs m (suc m.clock) (ending m) e
  ticking l d w n = record { leaving = in_time_lem l; ended_are = d; withdrew_are = w ∙ none_withdrawn; none_amended = n }

  departs_left : (c : ℕ) (p : Select) → Departs m c p e → (j : Job) → In j (staying m.settings p m.jobs) → Left lasts c e j (ceased c p j)
  departs_left c p d j i =
      let k = keep_in (λ (j : Job). not (leaves m.settings p j)) m.jobs i in
      record {
        ticket = ceased_ticket c p j;
        begins = begins_same lasts c e d.none_amended j (ceased c p j) (ceased_waits c p j) (departs_live m c p e s d j k.0 ∙ k.1);
        live = departs_live m c p e s d j k.0 ∙ k.1;
        still = departs_shown m c p e s d j k.0 (not-true (leaves m.settings p j) k.1);
      }

  -- who comes is live, and waits
  comes_left : (o : Submission) → e.withdrew ≡ [] → e.amended ≡ [] → Left lasts m.clock e (new_job m o) (new_job m o)
  comes_left o w n = record {
    ticket = refl;
    begins = begins_same lasts m.clock e n (new_job m o) (new_job m o) (λ q. refl) lives_on;
    live = lives_on;
    still = λ q. remark_same lasts m.clock e (shown (new_job m o)) n ∙ shown_with (shown (new_job m o)) _ (rw (w, q));
  }
    where
      lives_on : lives lasts m.clock e (new_job m o) ≡ true
      lives_on = rw w (case (elem m.next e.started) (λ q. rw q) (λ q. rw q))

  -- who is superseded lives on, as the answer says
  amends_left : (a : Amendment) → InPlace m a → e.ended ≡ [] → e.withdrew ≡ [] → e.amended ≡ a ∷ [] → (j : Job) → In j m.jobs
      → Left lasts m.clock e j (supersede a j)
  amends_left a p d w n j i = record {
    ticket = kept_ticket a j;
    begins = λ q x.
        shown_started lasts m.clock (plain e) refl (supersede a j) q (stay_live (in_place_of m a) (plain e) sound d w refl (supersede a j) (in_map (supersede a) i))
        (ap (λ (t : ℕ). elem t e.started) (kept_ticket a j) ∙ x)
        ∙ sym asked;
    live = ap is_live_of asked ∙ stay_live (in_place_of m a) (plain e) sound d w refl (supersede a j) (in_map (supersede a) i);
    still = λ x.
        asked ∙ stay_shown (in_place_of m a) (plain e) sound d w refl (supersede a j) (in_map (supersede a) i)
        (ap (λ (t : ℕ). elem t e.started) (kept_ticket a j) ∙ x);
  }
    where
      sound : Sound (in_place_of m a)
      sound = inplace_sound m a p.range p.shrinks s

      asked : remark lasts m.clock e (shown j) ≡ remark lasts m.clock (plain e) (shown (supersede a j))
      asked = remark_supersede lasts m.clock a e j n (s.each j i).is_live

  moved_left : {c : Call} {mid : Model} {t : ℕ} {ts : List ℕ} (x : OwnPart m c mid t ts) → e.ended ≡ ts → e.withdrew ≡ leaver x → e.amended ≡ amender x
      → (j : Job) → In j (kept x) → Left lasts mid.clock e j (left_as x j)
  moved_left (submits o f room) d w n j i = by (in_append m.jobs i)
    where
      by : In j m.jobs ⊎ In j (new_job m o ∷ []) → Left lasts m.clock e j j
      by (inl i) = record {
        ticket = refl;
        begins = begins_same lasts m.clock e n j j (λ q. refl) (stay_live m e s d w n j i);
        live = stay_live m e s d w n j i;
        still = stay_shown m e s d w n j i;
      }
      by (inr i) = subst (λ (x : Job). Left lasts m.clock e x x) (sym (in_one i)) (comes_left o w n)
  moved_left (departs h t a) d w n j i = departs_left m.clock (select.Departing h t) (departing h t a d w n) j i
  moved_left (amends a p) d w n j i = amends_left a p d w n j i
  moved_left (ticks l) d w n j i = departs_left (suc m.clock) (ending m) (ticking l d w n) j i

  -- what the call did before it settled
  moved_tells : {c : Call} {mid : Model} {t : ℕ} {ts : List ℕ} (x : OwnPart m c mid t ts) → e.ended ≡ ts → e.withdrew ≡ leaver x
      → e.amended ≡ amender x → e.came ≡ joiner x
      → (after : List Job) → map shown after ≡ map (remark lasts mid.clock e) (map shown (kept x))
      → map shown after ≡ shown_after lasts mid.clock e (map shown m.jobs ++ comers e)
  moved_tells (submits o f room) d w n q after h =
      let js = m.jobs in
      let now = m.clock in
      let new : Job = new_job m o in
      let one : map (remark lasts now e) (shown new ∷ []) ≡ keep is_live_of (map (remark lasts now e) (shown new ∷ [])) =
      rw (comes_left o w n).live in
      tells_by lasts now e (λ (j : Job). false) js after (stay_live m e s d w n)
      (h ∙ rw (keep_all (λ (j : Job). true) js (λ j i. refl), map-append shown js (new ∷ []), map-append (remark lasts now e) (map shown js) (shown new ∷ []))
      (ap (λ (l : List JobShown). map (remark lasts now e) (map shown js) ++ l)
      (one ∙ ap (λ (os : List Newcomer). keep is_live_of (map (remark lasts now e) (map newly os))) (sym q))))
  moved_tells (departs h t a) d w n q after r =
      let p = select.Departing h t in
      tells_leave lasts m.clock e (leaves m.settings p) m.jobs after (departs_live m m.clock p e s (departing h t a d w n)) q r
  moved_tells (amends a p) d w n q after r =
      let all : keep (λ (j : Job). true) m.jobs ≡ m.jobs = keep_all (λ (j : Job). true) m.jobs (λ j i. refl) in
      tells_leave lasts m.clock e (λ (j : Job). false) m.jobs after (λ j i. (amends_left a p d w n j i).live) q
      (r ∙ ap (λ (js : List Job). map (remark lasts m.clock e) (map shown js)) (sym all))
  moved_tells (ticks l) d w n q after r =
      let c = suc m.clock in
      tells_leave lasts c e (leaves m.settings (ending m)) m.jobs after (departs_live m c (ending m) e s (ticking l d w n)) q r

-- no answer shows what a record keeps of a forecast
shown_noted : (f : Option Forecast) (m : Model) → map shown (noted f m).jobs ≡ map shown m.jobs
shown_noted f m =
    ap (map shown) (noted_jobs f m) ∙ map-map shown (notes f) m.jobs
    ∙ map_cong (λ (j : Job). shown (notes f j)) shown m.jobs (λ j i. notes_by shown (λ t k. refl) f j)

module _ (m : Model) (c : Call) (o : Result) (v : Valid m) where
  taken_tells : CallAccepted m c o → Tells m (news_of c o.reply) o.model
  taken_tells t =
      let e = news_of c o.reply in
      let s = v.ready.sound in
      let w = taken_withdrew m c o t in
      let n = taken_amended m c o t in
      let q : t.last.jobs ≡ map (marks t.mid.clock o.reply.started) (map (left_as t.moved) (kept t.moved)) =
      settles_jobs t.trace ∙ ap (map (marks t.mid.clock o.reply.started)) (moved_jobs t.moved) in
      moved_tells m e s t.moved refl w n (taken_came m c o t) o.model.jobs
      (ap (λ (x : Model). map shown x.jobs) t.model_is ∙ shown_noted (forecast m t.last) t.last ∙ ap (map shown) q
      ∙ shown_after_lem (cleanup m.settings) t.mid.clock e (left_as t.moved) (kept t.moved) (moved_left m e s t.moved refl w n) starters)
      ∙ ap₂ (λ (k now : ℕ). shown_after k now e (map shown m.jobs ++ comers e))
      (ap cleanup (sym (taken_settings m c o t)))
      (sym (taken_clock m c o t))
    where
      -- who starts waits before the settling
      starters : (j : Job) → In j (kept t.moved) → elem (left_as t.moved j).ticket o.reply.started ≡ true → is_waiting (left_as t.moved j) ≡ true
      starters j i z =
          let r : Job = left_as t.moved j in
          let w = settles_waited r.ticket t.trace z in
          let k : In r t.mid.jobs = subst (λ (js : List Job). In r js) (sym (moved_jobs t.moved)) (in_map (left_as t.moved) i) in
          ap is_waiting (asc_one 1 t.mid.jobs r w.job (moved_ready t.moved v).sound.asc k w.isin (sym w.named)) ∙ w.waits

  quiet_tells : Unchanged m c o → Tells m (news_of c o.reply) o.model
  quiet_tells q =
      subst (λ (x : Result). Tells m (news_of c x.reply) x.model) (sym q.same)
      (tells_nothing m (news_of c (refusing q.why)) v.ready.sound q.silent)

-- ## Bounds

-- who comes has the next ticket, and is on course for its bound
moved_joins : {m : Model} {c : Call} {mid : Model} {t : ℕ} {ts : List ℕ} (x : OwnPart m c mid t ts) (o : Newcomer) → In o (joiner x)
    → (o.ticket ≡ m.next) × OnCourse mid o.ticket (bound_at m)
moved_joins {m} (submits w f room) o i = one (in_cons i)
  where
    Joins : Newcomer → Type 0
    Joins x = (x.ticket ≡ m.next) × OnCourse (joined m (new_job m w)) x.ticket (bound_at m)

    one : (o ≡ record { ticket = m.next; nodes = w.nodes; promise = 0; tenant = w.tenant; least = w.least }) ⊎ In o [] → Joins o
    one (inl q) = subst Joins (sym q) (refl, join_course m w)
    one (inr k) = in_nil k
moved_joins (departs h t a) o i = in_nil i
moved_joins (amends a p) o i = in_nil i
moved_joins (ticks l) o i = in_nil i

-- ## The head and its forecast

lowest_first : (t : ℕ) (js : List Job) → ((j : Job) → In j js → t < j.ticket) → foldr min t (tickets_of js) ≡ t
lowest_first t [] f = refl
lowest_first t (x ∷ xs) f = omega (arith, lowest_first t xs (λ j i. f j (there i)), f x (here refl))

-- the lowest ticket of those waiting is the head's
pub lowest_is : (m : Model) (h : Job) (later : List Job) → Asc 1 m.jobs → queue m.jobs ≡ h ∷ later → lowest_waiting m ≡ some h.ticket
lowest_is m h later a e = rw e (ap some (lowest_first h.ticket later (head_lowest m h later e a)))

pub lowest_head : (m : Model) (t : ℕ) → Asc 1 m.jobs → lowest_waiting m ≡ some t → (h : Head m) × (h.job.ticket ≡ t)
lowest_head m t a l = by (queue m.jobs) refl
  where
    by : (q : List Job) → queue m.jobs ≡ q → (h : Head m) × (h.job.ticket ≡ t)
    by [] e = absurd (let x : none ≡ some t = rw e at l in let z : ◌≡◌ {A = ℕ} 0 1 = cc in omega arith)
    by (h ∷ later) e = let x : some h.ticket ≡ some t = sym (lowest_is m h later a e) ∙ l in (record { job = h; later = later; first = e }, cc)

-- a head of another ticket than before hears one
forecast_told : (b m : Model) (h : Head m) → Asc 1 b.jobs → (lowest_waiting b ≡ some h.job.ticket → ⊥)
    → forecast b m ≡ some (record { ticket = h.job.ticket; minute = shadow m h.job.nodes })
unfolding forecast
forecast_told b m h a n = rw (h.first, other (queue b.jobs) refl)
  where
    other : (q : List Job) → queue b.jobs ≡ q → head_is (head b) h.job ≡ false
    other [] e = rw e
    other (k ∷ later) e =
        rw e (case (eqb k.ticket h.job.ticket)
        (λ x. absurd (n (lowest_is b k later a e ∙ ap some (eqb-true k.ticket h.job.ticket x))))
        (λ x. x))

-- ## Lawful

-- a job that waits is in the queue
pub waits_queued : (m : Model) (u : ℕ) → Waits m u → Queued m u
waits_queued m u w = queued_by m u w.job w.isin w.waits w.named

module _ (m : Model) (c : Call) (o : Result) (v : Valid m) where
  settled_keeps : (u b : ℕ) (t : CallAccepted m c o) → elem u (news_of c o.reply).withdrew ≡ false → OnCourse t.mid u b
      → Kept (by b) (For OnCourse b) u (news_of c o.reply) o.model
  settled_keeps u b t n x =
      kept_by (news_of c o.reply) (by b) (For OnCourse b) o.model u n
      (⊎_elim
      (λ (p : (elem u o.reply.started ≡ true) × (t.last.clock ≤ b)).
      inl (p.0, omega (arith, p.1, taken_clock m c o t, settles_clock t.trace)))
      (λ (p : (elem u o.reply.started ≡ false) × OnCourse t.last u b). inr (p.0, taken_course m c o t u b p.1))
      (settles_keeps u b t.trace (moved_ready t.moved v) x))

  taken_keeps : (u b : ℕ) → CallAccepted m c o → OnCourse m u b → elem u (news_of c o.reply).withdrew ≡ false
      → Kept (by b) (For OnCourse b) u (news_of c o.reply) o.model
  taken_keeps u b t x n = settled_keeps u b t n (moved_keeps t.moved v u b (ap (elem u) (sym (taken_withdrew m c o t)) ∙ n) x)

  -- who starts waited or comes, and is not withdrawn; who is withdrawn waited
  taken_starts : (u : ℕ) (t : CallAccepted m c o) → elem u o.reply.started ≡ true
      → (elem u (news_of c o.reply).withdrew ≡ false) × (Queued m u ⊎ Comes (news_of c o.reply) u)
  taken_starts u t q =
      let w = settles_waited u t.trace q in
      (ap (elem u) (taken_withdrew m c o t) ∙ moved_stays t.moved u w, by_way (moved_waited t.moved u w))
    where
      by_way : Waits m u ⊎ Joins t.moved u → Queued m u ⊎ Comes (news_of c o.reply) u
      by_way (inl w) = inl (waits_queued m u w)
      by_way (inr (x, i, e)) = inr (x, subst (In x) (sym (taken_came m c o t)) i, e)

  taken_withdraws : (u : ℕ) (t : CallAccepted m c o) → elem u (news_of c o.reply).withdrew ≡ true → Queued m u
  taken_withdraws u t q = waits_queued m u (moved_withdraws t.moved v.ready.sound u (ap (elem u) (sym (taken_withdrew m c o t)) ∙ q))

  taken_amends : (u : ℕ) (t : CallAccepted m c o) → elem u (map amended_ticket (news_of c o.reply).amended) ≡ true → Queued m u
  taken_amends u t q = by t.moved (ap (λ (cs : List Amendment). elem u (map amended_ticket cs)) (sym (taken_amended m c o t)) ∙ q)
    where
      by : {c : Call} {mid : Model} {x : ℕ} {ts : List ℕ} (y : OwnPart m c mid x ts) → elem u (map amended_ticket (amender y)) ≡ true → Queued m u
      by (submits o f room) q = true_false false q refl
      by (departs h t a) q = true_false false q refl
      by (amends a p) q = named_queued m a u p.there q
      by (ticks l) q = true_false false q refl

  pub taken_joins : (t : CallAccepted m c o) (x : Newcomer) → In x (news_of c o.reply).came → (x.ticket ≡ m.next) × OnCourse t.mid x.ticket (bound_at m)
  taken_joins t x i = moved_joins t.moved x (subst (In x) (taken_came m c o t) i)

  pub quiet_comes {ℓ} : {A : Type ℓ} → Unchanged m c o → (x : Newcomer) → In x (news_of c o.reply).came → A
  quiet_comes q x i = in_nil (subst (λ (e : News). In x e.came) (quiet_news m c o q) i)

  forecast_kept : (f : Forecast) → CallAccepted m c o → Valid o.model → o.reply.head ≡ some f → OnCourse o.model f.ticket f.minute
  forecast_kept f t w e =
      let x = forecast_says m o.model f (sym (taken_head m c o t) ∙ e) in on x.0 x.1 x.2
    where
      on : (h : Head o.model) → f.ticket ≡ h.job.ticket → f.minute ≡ shadow o.model h.job.nodes → OnCourse o.model f.ticket f.minute
      on h p q = rw (p, q) (head_course o.model h.job h.later h.first w.ready.sound)

  head_hears : (h : ℕ) → CallAccepted m c o → Valid o.model → lowest_waiting o.model ≡ some h → (lowest_waiting m ≡ some h → ⊥)
      → (f : Forecast) × (o.reply.head ≡ some f) × (f.ticket ≡ h)
  head_hears h t w e n =
      let x = lowest_head o.model h w.ready.sound.asc e in (
        record { ticket = x.0.job.ticket; minute = shadow o.model x.0.job.nodes },
        taken_head m c o t ∙ forecast_told m o.model x.0 v.ready.sound.asc (λ y. n (y ∙ ap some x.1)),
        x.1,
      )

  quiet_keeps : (u b : ℕ) → Unchanged m c o → OnCourse m u b → Kept (by b) (For OnCourse b) u (news_of c o.reply) o.model
  quiet_keeps u b q x =
      subst (λ (r : Result). Kept (by b) (For OnCourse b) u (news_of c r.reply) r.model) (sym q.same)
      (subst (λ (e : News). Kept (by b) (For OnCourse b) u e m) (sym q.silent) x)

pub easy_lawful : Lawful Easy call Valid OnCourse
easy_lawful = record {
  kind_is = λ m v. v.ready.kind;
  all_live = λ m v. all_live m v.ready.sound;
  capacity = λ m v. v.ready.sound.capacity;
  shares = λ m v t. v.ready.sound.shares t;
  valid = call_valid;
  settings = λ m c v. either m c v
      (λ (t : CallAccepted m c (call m c)). taken_settings m c (call m c) t)
      (λ (q : Unchanged m c (call m c)). ap (λ (o : Result). o.model.settings) q.same);
  clock = λ m c v. either m c v
      (λ (t : CallAccepted m c (call m c)). taken_clock m c (call m c) t ∙ moved_clock t.moved (call m c).reply t.accepted)
      (λ (q : Unchanged m c (call m c)). ap (λ (o : Result). o.model.clock) q.same
      ∙ ap (λ (e : News). clock_after e m.clock) (sym (quiet_news m c (call m c) q)));
  tells = λ m c v. either m c v (taken_tells m c (call m c) v) (quiet_tells m c (call m c) v);
  keeps = λ b. record {
    rest = λ m u v x. course_rest m u b x v.ready.sound v.rests;
    keeps = λ m c u v x n. either m c v
        (λ (t : CallAccepted m c (call m c)). taken_keeps m c (call m c) v u b t x n)
        (λ (q : Unchanged m c (call m c)). quiet_keeps m c (call m c) v u b q x);
  };
  joins = λ m c o v i. either m c v
      (λ (t : CallAccepted m c (call m c)). settled_keeps m c (call m c) v o.ticket (bound_at m) t (came_stays c (call m c).reply o.ticket o i) (taken_joins m c (call m c) v t o i).1)
      (λ (q : Unchanged m c (call m c)). quiet_comes m c (call m c) v q o i);
  starts = λ m c t v e. either m c v
      (λ (x : CallAccepted m c (call m c)). taken_starts m c (call m c) v t x e)
      (λ (q : Unchanged m c (call m c)). true_false false (ap (λ (o : Result). elem t o.reply.started) (sym q.same) ∙ e) refl);
  withdraws = λ m c t v e. either m c v
      (λ (x : CallAccepted m c (call m c)). taken_withdraws m c (call m c) v t x e)
      (λ (q : Unchanged m c (call m c)). true_false false (ap (λ (n : News). elem t n.withdrew) (sym (quiet_news m c (call m c) q)) ∙ e) refl);
  amends = λ m c t v e. either m c v
      (λ (x : CallAccepted m c (call m c)). taken_amends m c (call m c) v t x e)
      (λ (q : Unchanged m c (call m c)).
      true_false false (ap (λ (n : News). elem t (map amended_ticket n.amended)) (sym (quiet_news m c (call m c) q)) ∙ e) refl);
  fresh = λ m c o v i l. either m c v
      (λ (t : CallAccepted m c (call m c)).
      let h = lowest_head m _ v.ready.sound.asc l in
      let k = head_in m h.0.job h.0.later h.0.first in
      omega (arith, v.ready.sound.below h.0.job k.0, h.1, (taken_joins m c (call m c) v t o i).0))
      (λ (q : Unchanged m c (call m c)). quiet_comes m c (call m c) v q o i);
  forecasts = λ m c f v e. either m c v
      (λ (t : CallAccepted m c (call m c)). forecast_kept m c (call m c) v f t (call_valid m c v) e)
      (λ (q : Unchanged m c (call m c)). absurd (let x : none ≡ some f = ap (λ (o : Result). o.reply.head) (sym q.same) ∙ e in
      let z : ◌≡◌ {A = ℕ} 0 1 = cc in omega arith));
  hears = λ k m c h v e n. either m c v
      (λ (t : CallAccepted m c (call m c)). head_hears m c (call m c) v h t (call_valid m c v) e n)
      (λ (q : Unchanged m c (call m c)). absurd (n (ap (λ (o : Result). lowest_waiting o.model) (sym q.same) ∙ e)));
}
  where
    either : {A : Type 0} (m : Model) (c : Call) → Valid m → (CallAccepted m c (call m c) → A) → (Unchanged m c (call m c) → A) → A
    either m c v f g = ⊎_elim f g (called m c v)

-- from any valid model on
pub easy_seeded : Seeded Easy Valid OnCourse
easy_seeded = record {
  waiting = λ m j v i w. (v.ready.room j i w).0;
  started = λ q. absurd (let z : ◌≡◌ {A = ℕ} 0 1 = cc in omega arith);
  forecasts = λ m j v i w f. v.ready.kept j i w f;
  heads = λ q m j v i w l.
      let h = lowest_head m j.ticket v.ready.sound.asc l in
      let x = head_in m h.0.job h.0.later h.0.first in
      let z : h.0.job ≡ j = asc_one 1 m.jobs h.0.job j v.ready.sound.asc x.0 i h.1 in
      omega (arith, v.heard h.0.job h.0.later h.0.first, ap (λ (k : Job). k.forecast) z);
}
