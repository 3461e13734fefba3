-- A corrected order counts as its calls: one call in place, a withdrawal and a submission where it grows, one refused call where it is refused. It
-- leaves the model that these calls leave, and its one answer tells their replies apart.
-- Assumes nothing.
use Rattle.std.specs.Prelude.{ℕ, ◌≤◌, ◌<◌, ◌≡◌, Bool, false, not, ◌&&◌, cond, ◌⊎◌, eqb}
use Rattle.std.proofs.Common.{arith, sym, ap₂, subst, ◌∙◌, inl, inr}
use Rattle.std.proofs.Math.Path.{refl, ap}
use Rattle.std.proofs.Math.Bool.{true}
use Rattle.std.proofs.Math.Option.{Option, none, some}
use mathlib.Core.List.{List, [], ◌∷◌, ◌++◌, head?, append-nil}
use Rattle.std.proofs.Math.Logic.{⊎_elim}
use borrow.Author.Tests.{eqb-true, eq-eqb, ne_eqb}
use Rattle.lists.specs.Tests.{case, both}
use Rattle.lists.specs.Lists.{keep, any, any_in, none_any, In, in_nil, keep_in, keep_append, keep_all, keep_none, first_in}
use Rattle.scheduler.specs.declared.Kind.{Kind}
use Rattle.scheduler.specs.declared.Kind.TheVariants.{Conservative, Easy}
use Rattle.scheduler.specs.declared.Job.{Job}
use Rattle.scheduler.specs.declared.Submission.{Submission}
use Rattle.scheduler.specs.declared.Refusal.{Refusal}
use Rattle.scheduler.specs.declared.Refusal.TheVariants as refusal
use Rattle.scheduler.specs.declared.Departure.TheVariants.{Cancel}
use Rattle.scheduler.specs.declared.Select.TheVariants as select
use Rattle.scheduler.specs.Jobs.{is_waiting, departs_as}
use Rattle.scheduler.specs.Settings.{horizon}
use Rattle.scheduler.specs.Table.{tickets_of, ended_of}
use Rattle.scheduler.specs.Model.{Model, joined, without}
use Rattle.scheduler.specs.Answers.{Result, Reply, Forecast, accepts, refuse}
use Rattle.scheduler.specs.Refusals.{depart_refusal}
use Rattle.scheduler.specs.declared.Amendment.{Amendment}
use Rattle.scheduler.specs.Amending.{names, named, amend_refusal, grows, in_place_refusal, order_for}
use Rattle.jobs.specs.Order.{asc_one, elem_job}
use Rattle.jobs.specs.Departing.{cancel_judged}
use Rattle.jobs.specs.Judgement.{judged_accepted}
use Rattle.jobs.specs.Soundness.{Sound, Fit}
use Rattle.history.specs.Calls.{Call, Rules, after, events, submit, cancel, amend, unchanged}
use Rattle.history.specs.News.{Newcomer}
use Rattle.history.specs.Tickets as tickets
use Rattle.history_proof.specs.Obligations.{said, Queued, Comes, Lawful, Ticketed}
use Rattle.history_proof.specs.Seen.{in_elem}
use Rattle.history_proof.specs.Departures.{queued_by}
use Rattle.conservative_rules.specs.Conservative as conservative
use Rattle.conservative_laws.specs.Validity as conservative-valid
use Rattle.conservative_laws.specs.Obligations.{conservative_lawful}
use Rattle.conservative_laws.specs.Sentences.{conservative_ticketed}
use Rattle.easy_rules.specs.Easy as easy
use Rattle.easy_rules.specs.Easy.{on_choice, queue}
use Rattle.easy_laws.specs.Settling.{settles}
use Rattle.easy_laws.specs.Validity as easy-valid
use Rattle.easy_laws.specs.Validity.{latest_end, submits, moved_ready}
use Rattle.easy_laws.specs.Noted.{forecast_noted, forecast_says}
use Rattle.easy_laws.specs.Obligations.{easy_lawful}
use Rattle.easy_laws.specs.Course.{head_in}
use Rattle.easy_laws.specs.Withdrawal.{easy_ticketed}
use Rattle.easy_laws.specs.OwnStart.{own_queue, taken_in, starts_one}
use Rattle.guarantees.specs.Rules.{rules_of, call}
use Rattle.guarantees.specs.Premise.{ValidBy, Valid}
use Rattle.guarantees.specs.Statement.{by_rules}
use Rattle.guarantees.specs.Chain.{unchanged_refuses}
use Rattle.amend_rules.specs.Amending.{hears, answered_both, both_of, resubmitted, amended_of, amended, resubmit_calls, calls_of, amend_calls, head_else, head_only, of_withdrawal, of_submission, event, events_said}

-- ## Three ways

-- it is refused, is taken in place, or grows and is taken in anew: what holds in each case, with the calls that it counts as, holds of it
module _ (R : Rules) (m : Model) (a : Amendment) where
  pub amended_by : (P : Result → List Call → Type 0) → ((r : Refusal) → accepts r ≡ false → P (refuse m r) (unchanged r ∷ []))
      → ((j : Job) → named m a ≡ some j → grows m.settings a j ≡ false → accepts (amend_refusal m a) ≡ true → P (R m (amend a)) (amend a ∷ []))
      → ((j : Job) → named m a ≡ some j → grows m.settings a j ≡ true
      → (let w = R m (cancel a.ticket) in
      let r = R w.model (submit (order_for a j)) in
      accepts r.reply.refusal ≡ true → P (both_of w r) (cancel a.ticket ∷ submit (order_for a j) ∷ [])))
      → P (amended R m a) (amend_calls R m a)
  unfolding amended amend_calls resubmitted resubmit_calls
  amended_by P refused placed anew = case (accepts (amend_refusal m a)) (λ x. rw x (of (named m a) refl x)) (λ x. rw x (refused (amend_refusal m a) x))
    where
      of : (f : Option Job) → named m a ≡ f → accepts (amend_refusal m a) ≡ true → P (amended_of R m a f) (calls_of R m a f)
      of none e x = refused refusal.NotWaiting refl
      of (some j) e x =
          let r = R (R m (cancel a.ticket)).model (submit (order_for a j)) in
          case (grows m.settings a j)
          (λ g. rw g (case (accepts r.reply.refusal) (λ y. rw y (anew j e g y)) (λ y. rw y (refused r.reply.refusal y))))
          (λ g. rw g (placed j e g x))

  -- its model is theirs
  pub counted_model : ((m : Model) (r : Refusal) → R m (unchanged r) ≡ refuse m r) → (amended R m a).model ≡ after R m (amend_calls R m a)
  counted_model U =
      amended_by (λ x cs. x.model ≡ after R m cs) (λ r n. sym (ap (λ (x : Result). x.model) (U m r))) (λ j e g x. refl) (λ j e g x. refl)

-- ## Its one answer tells the replies of its calls apart

-- w is the reply to the withdrawal of ticket t, and r the reply to the submission after it
pub record Split (w r : Reply) (t : ℕ) : Type 0 where
  pub withdrawal : w ≡ of_withdrawal (answered_both w r)
  pub submission : r ≡ of_submission (answered_both w r)
  pub other : eqb r.ticket t ≡ false

-- what a kind owes of it
pub record Tellable (R : Rules) (Valid : Model → Type 0) : Type 0 where
  pub still : (m : Model) (r : Refusal) → R m (unchanged r) ≡ refuse m r
  -- in place it is taken, under the ticket that it names
  pub placed : (m : Model) (a : Amendment) (j : Job) → Valid m → accepts (amend_refusal m a) ≡ true → named m a ≡ some j → grows m.settings a j ≡ false
      → (accepts (R m (amend a)).reply.refusal ≡ true) × ((R m (amend a)).reply.ticket ≡ a.ticket)
  -- where it grows and the submission is taken
  pub splits : (m : Model) (t : ℕ) (o : Submission) → Valid m → Queued m t → accepts (R (R m (cancel t)).model (submit o)).reply.refusal ≡ true
      → Split (R m (cancel t)).reply (R (R m (cancel t)).model (submit o)).reply t

-- whom one names waits
pub waits_for : (m : Model) (a : Amendment) (j : Job) → named m a ≡ some j → Queued m a.ticket
waits_for m a j e =
    let i = first_in (names a) m.jobs e in
    let b = both (is_waiting j) (eqb j.ticket a.ticket) i.1 in
    queued_by m a.ticket j i.0 b.0 (eqb-true j.ticket a.ticket b.1)

-- o is the order that is taken in if the corrected one grows
abbrev pub OrderFor : Model → Amendment → Submission → Type 0
OrderFor m a o = (j : Job) → named m a ≡ some j → o ≡ order_for a j

module _ {R : Rules} {Valid : Model → Type 0} (T : Tellable R Valid) (m : Model) (a : Amendment) (v : Valid m) (o : Submission) where
  said_new : (w r : Reply) → Split w r a.ticket → accepts r.refusal ≡ true
      → events_said a o (answered_both w r) ≡ event (cancel a.ticket) w ∷ event (submit o) r ∷ []
  said_new w r p x =
      rw (x, p.other) (ap₂ (λ (y z : Reply). event (cancel a.ticket) y ∷ event (submit o) z ∷ []) (sym p.withdrawal) (sym p.submission))

  -- as a caller sees them: the calls that it counts as, each with what the answer says of it
  pub counted_events : OrderFor m a o → events_said a o (amended R m a).reply ≡ events R m (amend_calls R m a)
  counted_events q =
      amended_by R m a (λ x cs. events_said a o x.reply ≡ events R m cs)
      (λ r n. rw n (ap (λ (y : Result). event (unchanged r) y.reply ∷ []) (sym (T.still m r))))
      (λ j e g x. let p = T.placed m a j v x e g in rw (p.0, eq-eqb (R m (amend a)).reply.ticket a.ticket p.1))
      (λ j e g.
      let w = R m (cancel a.ticket) in
      let r = R w.model (submit o) in
      subst
      (λ (z : Submission). let r = R w.model (submit z) in
      accepts r.reply.refusal ≡ true
      → events_said a o (answered_both w.reply r.reply) ≡ event (cancel a.ticket) w.reply ∷ event (submit z) r.reply ∷ [])
      (q j e) (λ x. said_new w.reply r.reply (T.splits m a.ticket o v (waits_for m a j e) x) x))

-- ## What both kinds share of it

-- the answers to a withdrawal and to a submission
abbrev gave : List ℕ → Option Forecast → Reply
gave ws f = record { refusal = refusal.None; ticket = 0; promise = 0; reads = 0; ended = []; started = ws; head = f }

abbrev took : (ticket promise reads : ℕ) → List ℕ → Option Forecast → Reply
took n p d rs f = record { refusal = refusal.None; ticket = n; promise = p; reads = d; ended = []; started = rs; head = f }

split_starts : (n : ℕ) (ws rs : List ℕ) → ((u : ℕ) → In u ws → u < n) → (rs ≡ []) ⊎ (rs ≡ n ∷ [])
    → (ws ≡ keep (λ (u : ℕ). not (eqb u n)) (ws ++ rs)) × (rs ≡ keep (λ (u : ℕ). eqb u n) (ws ++ rs))
split_starts n ws rs f c = (
  sym (keep_append (λ (u : ℕ). not (eqb u n)) ws rs
      ∙ ap (λ (l : List ℕ). l ++ keep (λ (u : ℕ). not (eqb u n)) rs) (keep_all (λ (u : ℕ). not (eqb u n)) ws (λ u i. ap not (less u i)))
      ∙ ap (λ (l : List ℕ). ws ++ l) (gone c)
      ∙ append-nil ws),
  sym (keep_append (λ (u : ℕ). eqb u n) ws rs ∙ ap (λ (l : List ℕ). l ++ keep (λ (u : ℕ). eqb u n) rs) (keep_none (λ (u : ℕ). eqb u n) ws less) ∙ own c),
)
  where
    less : (u : ℕ) → In u ws → eqb u n ≡ false
    less u i = ne_eqb u n (λ e. omega (arith, f u i))

    gone : (rs ≡ []) ⊎ (rs ≡ n ∷ []) → keep (λ (u : ℕ). not (eqb u n)) rs ≡ []
    gone (inl e) = rw e
    gone (inr e) = rw (e, eq-eqb n n refl)

    own : (rs ≡ []) ⊎ (rs ≡ n ∷ []) → keep (λ (u : ℕ). eqb u n) rs ≡ rs
    own (inl e) = rw e
    own (inr e) = rw (e, eq-eqb n n refl)

split_by : (n p d t : ℕ) (ws rs : List ℕ) (wf rf : Option Forecast) → ((u : ℕ) → In u ws → u < n) → (rs ≡ []) ⊎ (rs ≡ n ∷ []) → t < n
    → wf ≡ head_else n (hears wf rf) → rf ≡ head_only n (hears wf rf) → Split (gave ws wf) (took n p d rs rf) t
split_by n p d t ws rs wf rf f c l x y =
    let s = split_starts n ws rs f c in
    record {
      withdrawal = λ i. record { refusal = refusal.None; ticket = 0; promise = 0; reads = 0; ended = []; started = s.0 i; head = x i };
      submission = λ i. record { refusal = refusal.None; ticket = n; promise = p; reads = d; ended = []; started = s.1 i; head = y i };
      other = ne_eqb n t (λ e. omega arith);
    }

-- a withdrawal starts those that waited, and gives no ticket
module _ {k : Kind} {R : Rules} {Valid : Model → Type 0} {OnCourse : Model → ℕ → ℕ → Type 0} (L : Lawful k R Valid OnCourse) (T : Ticketed R Valid OnCourse)
    (m : Model) (t : ℕ) (v : Valid m) where
  none_came : (said R m (cancel t)).came ≡ []
  none_came = case (accepts (R m (cancel t)).reply.refusal) (λ x. rw x) (λ x. rw x)

  queued_low : (u : ℕ) → Queued m u → u < m.next
  queued_low u q =
      let j = elem_job u (keep is_waiting m.jobs) q in
      omega (arith, j.2, (T.sound m v).below j.0 (keep_in is_waiting m.jobs j.1).0)

  same_next : (R m (cancel t)).model.next ≡ m.next
  same_next = T.next m (cancel t) v ∙ ap (λ (os : List Newcomer). tickets.next_after os m.next) none_came

  older : (u : ℕ) → In u (R m (cancel t)).reply.started → u < (R m (cancel t)).model.next
  older u i = by (L.starts m (cancel t) u v (in_elem (R m (cancel t)).reply.started i)).1
    where
      by : Queued m u ⊎ Comes (said R m (cancel t)) u → u < (R m (cancel t)).model.next
      by (inl q) = omega (arith, queued_low u q, same_next)
      by (inr (o, i, e)) = in_nil (subst (In o) none_came i)

none_ended : (t : ℕ) (js : List Job) → ended_of (select.Departing Cancel t) js ≡ []
none_ended t js = ap tickets_of (keep_none (λ (j : Job). false) js (λ j i. refl))

-- one that waits can be withdrawn
pub withdraws_taken : (m : Model) (t : ℕ) → Queued m t → accepts (depart_refusal m Cancel t) ≡ true
withdraws_taken m t q =
    let j = elem_job t (keep is_waiting m.jobs) q in
    let k = keep_in is_waiting m.jobs j.1 in
    let i : any (departs_as Cancel t) m.jobs ≡ true = any_in (departs_as Cancel t) k.0 (rw k.1 (eq-eqb j.0.ticket t j.2)) in
    ap accepts (cancel_judged m t ∙ ap (λ (b : Bool). cond b refusal.None refusal.NotWaiting) i)

-- in place nothing more refuses it
in_place_judged : (m : Model) (a : Amendment) (j : Job) → Sound m → named m a ≡ some j → grows m.settings a j ≡ false → in_place_refusal m a ≡ amend_refusal m a
unfolding in_place_refusal
in_place_judged m a j s e g = rw (none_any (λ (k : Job). names a k && grows m.settings a k) m.jobs one)
  where
    one : (k : Job) → In k m.jobs → (names a k && grows m.settings a k) ≡ false
    one k i =
        case (names a k)
        (λ x.
        let y = first_in (names a) m.jobs e in
        let t : k.ticket ≡ j.ticket =
        eqb-true k.ticket a.ticket (both (is_waiting k) (eqb k.ticket a.ticket) x).1
        ∙ sym (eqb-true j.ticket a.ticket (both (is_waiting j) (eqb j.ticket a.ticket) y.1).1) in
        rw x (ap (grows m.settings a) (asc_one 1 m.jobs k j s.asc i y.0 t) ∙ g))
        (λ x. rw x)

-- ## Conservative backfilling

conservative_splits : (m : Model) (t : ℕ) (o : Submission) → conservative-valid.Valid m → Queued m t
    → accepts (conservative.call (conservative.call m (cancel t)).model (submit o)).reply.refusal ≡ true
    → Split (conservative.call m (cancel t)).reply (conservative.call (conservative.call m (cancel t)).model (submit o)).reply t
unfolding conservative.call conservative.departed conservative.advanced conservative.submitted
conservative_splits m t o v q x =
    let R = conservative.call in
    let n = (R m (cancel t)).model in
    let w : (R m (cancel t)).reply ≡ gave (R m (cancel t)).reply.started none = withdrawn in
    let a = judged_accepted n (conservative.submit_refusal n o (conservative.planned n o)) (conservative.submitted n o (conservative.planned n o)) x in
    let r : (R n (submit o)).reply ≡ (conservative.submitted n o (conservative.planned n o)).reply = ap (λ (y : Result). y.reply) a.1 in
    subst (λ (y : Reply). Split y (R n (submit o)).reply t) (sym w)
    (subst (λ (y : Reply). Split (gave (R m (cancel t)).reply.started none) y t) (sym r)
    (split_by n.next (conservative.planned n o) (conservative.reads_for n o (conservative.planned n o)) t (R m (cancel t)).reply.started _ none none
    (older conservative_lawful conservative_ticketed m t v)
    (case (eqb (conservative.planned n o) n.clock) (λ z. inr (rw z)) (λ z. inl (rw z)))
    (omega (arith, queued_low conservative_lawful conservative_ticketed m t v t q, same_next conservative_lawful conservative_ticketed m t v))
    refl refl))
  where
    withdrawn : (conservative.call m (cancel t)).reply ≡ gave (conservative.call m (cancel t)).reply.started none
    withdrawn = rw (withdraws_taken m t q, none_ended t m.jobs)

pub conservative_tellable : Tellable conservative.call conservative-valid.Valid
unfolding conservative.call conservative.amended conservative.amended_to
conservative_tellable = record {
  still = λ m r. refl;
  placed = λ m a j v x e g.
      let y : accepts (in_place_refusal m a) ≡ true = ap accepts (in_place_judged m a j v.sound e g) ∙ x in
      rw y (refl, refl);
  splits = conservative_splits;
}

-- ## EASY backfilling

-- the forecasts of a withdrawal that leaves n, and of a submission then
module _ (n : Model) (o : Submission) (v : easy-valid.Valid n) (f : Fit n o) (room : latest_end n o.estimate ≤ horizon n.settings) (b : Model) where
  abbrev new : Job
  new = easy.new_job n o

  abbrev last : Model
  last = (easy.settled (joined n new)).model

  trace_queue : (queue last.jobs ≡ queue n.jobs) ⊎ (queue last.jobs ≡ queue n.jobs ++ (new ∷ []))
  trace_queue = own_queue n o v f room (settles (joined n new) (moved_ready (submits o f room) v).sound)

  record Heads (wf rf : Option Forecast) : Type 0 where
    withdrawal : wf ≡ head_else n.next (hears wf rf)
    submission : rf ≡ head_only n.next (hears wf rf)

  -- nobody waits: the new one may be head
  alone : queue n.jobs ≡ [] → Heads (easy.forecast b n) (easy.forecast n last)
  unfolding easy.forecast
  alone p = rw p (by trace_queue)
    where
      by : (queue last.jobs ≡ queue n.jobs) ⊎ (queue last.jobs ≡ queue n.jobs ++ (new ∷ []))
          → Heads none (on_choice (head? (queue last.jobs)) none (λ (h : Job). some (record { ticket = h.ticket; minute = easy.shadow last h.nodes })))
      by (inl e) = rw (e, p) (record { withdrawal = refl; submission = refl })
      by (inr e) = rw (e, p) (record { withdrawal = rw (eq-eqb n.next n.next refl); submission = rw (eq-eqb n.next n.next refl) })

  -- a head stays head, and hears nothing more
  stays_head : (h : Job) (later : List Job) → queue n.jobs ≡ h ∷ later → easy.forecast n last ≡ none
  unfolding easy.forecast
  stays_head h later p =
      rw (
        p,
        ⊎_elim (λ e. ap head? e ∙ ap head? p) (λ e. ap head? e ∙ ap (λ (q : List Job). head? (q ++ (new ∷ []))) p) trace_queue,
        eq-eqb h.ticket h.ticket refl,
      )

  older_head : (g : Option Forecast) → easy.forecast b n ≡ g → Heads g none
  older_head none e = record { withdrawal = refl; submission = refl }
  older_head (some x) e =
      let s = forecast_says b n x e in
      let i = head_in n s.0.job s.0.later s.0.first in
      let d : eqb x.ticket n.next ≡ false = ne_eqb x.ticket n.next (λ z. omega (arith, s.1, v.ready.sound.below s.0.job i.0)) in
      record { withdrawal = rw d; submission = rw d }

  heads : Heads (easy.forecast b n) (easy.forecast n last)
  heads = by (queue n.jobs) refl
    where
      by : (q : List Job) → queue n.jobs ≡ q → Heads (easy.forecast b n) (easy.forecast n last)
      by [] p = alone p
      by (h ∷ later) p = subst (Heads (easy.forecast b n)) (sym (stays_head h later p)) (older_head (easy.forecast b n) refl)

easy_splits : (m : Model) (t : ℕ) (o : Submission) → easy-valid.Valid m → Queued m t
    → accepts (easy.call (easy.call m (cancel t)).model (submit o)).reply.refusal ≡ true
    → Split (easy.call m (cancel t)).reply (easy.call (easy.call m (cancel t)).model (submit o)).reply t
unfolding easy.call easy.advanced easy.finished
easy_splits m t o v q x =
    let R = easy.call in
    let n = (R m (cancel t)).model in
    let u : easy-valid.Valid n = easy_lawful.valid m (cancel t) v in
    let J = joined n (easy.new_job n o) in
    let k = taken_in n o x in
    let h = heads n o u k.fit k.room m in
    let e = ap (λ (y : Result). y.reply.started) k.is in
    subst (λ (y : Reply). Split y (R n (submit o)).reply t) (sym withdrawn)
    (subst (λ (y : Result). Split (gave (R m (cancel t)).reply.started (easy.forecast m n)) y.reply t) (sym k.is)
    (split_by n.next 0 0 t (R m (cancel t)).reply.started (easy.settled J).started (easy.forecast m n) (easy.forecast n (easy.settled J).model)
    (older easy_lawful easy_ticketed m t v)
    (⊎_elim (λ y. inl (sym e ∙ y)) (λ y. inr (sym e ∙ y)) (starts_one n o u x))
    (omega (arith, queued_low easy_lawful easy_ticketed m t v t q, same_next easy_lawful easy_ticketed m t v))
    h.withdrawal h.submission))
  where
    last : Model
    last = (easy.settled (without m m.clock (select.Departing Cancel t))).model

    -- the forecast that it gives is one of the model that keeps it
    withdrawn : (easy.call m (cancel t)).reply ≡ gave (easy.call m (cancel t)).reply.started (easy.forecast m (easy.call m (cancel t)).model)
    withdrawn = rw (withdraws_taken m t q, none_ended t m.jobs) (ap (gave _) (sym (forecast_noted m (easy.forecast m last) last)))

pub easy_tellable : Tellable easy.call easy-valid.Valid
unfolding easy.call easy.finished
easy_tellable = record {
  still = λ m r. refl;
  placed = λ m a j v x e g.
      let y : accepts (in_place_refusal m a) ≡ true = ap accepts (in_place_judged m a j v.ready.sound e g) ∙ x in
      rw y (refl, refl);
  splits = easy_splits;
}

-- ## Above both kinds

-- what holds by a kind's rules of a withdrawal and a submission after it holds of them
module _ {k : Kind} {Fit : Model → Type 0} {OnCourse : Model → ℕ → ℕ → Type 0} (L : Lawful k (rules_of k) Fit OnCourse) where
  pub both_calls : (P : Result → Result → Type 0) (m : Model) (t : ℕ) (o : Submission) → Fit m
      → P (rules_of k m (cancel t)) (rules_of k (rules_of k m (cancel t)).model (submit o)) → P (call m (cancel t)) (call (call m (cancel t)).model (submit o))
  both_calls P m t o v h =
      let w = rules_of k m (cancel t) in
      subst (λ (x : Result). P x (call x.model (submit o))) (sym (by_rules L m (cancel t) v))
      (subst (P w) (sym (by_rules L w.model (submit o) (L.valid m (cancel t) v))) h)

abbrev Splits : ℕ → Result → Result → Type 0
Splits t w r = accepts r.reply.refusal ≡ true → Split w.reply r.reply t

pub tellable : Tellable call Valid
tellable = record {
  still = unchanged_refuses;
  placed = λ m a j v. placed m.settings.kind m a j v;
  splits = λ m t o v. splits m.settings.kind m t o v;
}
  where
    placed : (k : Kind) (m : Model) (a : Amendment) (j : Job) → ValidBy k m → accepts (amend_refusal m a) ≡ true → named m a ≡ some j
        → grows m.settings a j ≡ false
        → (accepts (rules_of k m (amend a)).reply.refusal ≡ true) × ((rules_of k m (amend a)).reply.ticket ≡ a.ticket)
    placed Conservative = conservative_tellable.placed
    placed Easy = easy_tellable.placed

    splits : (k : Kind) (m : Model) (t : ℕ) (o : Submission) → ValidBy k m → Queued m t
        → Splits t (call m (cancel t)) (call (call m (cancel t)).model (submit o))
    splits Conservative m t o v q = both_calls conservative_lawful (Splits t) m t o v (conservative_tellable.splits m t o v q)
    splits Easy m t o v q = both_calls easy_lawful (Splits t) m t o v (easy_tellable.splits m t o v q)
