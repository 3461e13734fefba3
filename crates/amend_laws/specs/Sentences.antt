-- Document 02, No. 13, for the reader: its sentences as theorems about what a corrected order gives, from any valid model, so from any that calls
-- have left or a reading accepted.
-- Assumes nothing.
use Rattle.std.specs.Prelude.{ℕ, ◌≤◌, ◌≡◌, false, ◌&&◌, List, [], ◌∷◌, ◌⊎◌, eqb}
use Rattle.std.proofs.Common.{arith, ap, ◌∙◌, inl, inr, ⊎_elim}
use Rattle.std.proofs.Math.Path.{refl, sym, subst}
use Rattle.std.proofs.Math.Bool.{true}
use Rattle.std.proofs.Math.Option.{some}
use borrow.Author.Tests.{eqb-true, eq-eqb}
use Rattle.lists.specs.Tests.{case, true_false, both}
use Rattle.lists.specs.Lists.{elem, All, In, in_left, first_in, all_append}
use Rattle.scheduler.specs.declared.Kind.{Kind}
use Rattle.scheduler.specs.declared.Kind.TheVariants.{Conservative, Easy}
use Rattle.scheduler.specs.declared.Job.{Job}
use Rattle.scheduler.specs.declared.Scheduler.{Scheduler}
use Rattle.scheduler.specs.declared.Settings.{Settings}
use Rattle.scheduler.specs.declared.Amendment.{Amendment}
use Rattle.scheduler.specs.declared.Departure.TheVariants.{Cancel}
use Rattle.scheduler.specs.declared.Refusal.TheVariants as refusal
use Rattle.scheduler.specs.Limits.{longest_estimate}
use Rattle.scheduler.specs.Jobs.{is_waiting}
use Rattle.scheduler.specs.Settings.{cleanup, bound_of}
use Rattle.scheduler.specs.Model.{Model, view}
use Rattle.scheduler.specs.Answers.{Result, accepts, refuse, outcome}
use Rattle.scheduler.specs.Amending.{names, named, grows, kept_promise, in_place_refusal, order_for}
use Rattle.jobs.specs.Order.{asc_one}
use Rattle.jobs.specs.Judgement.{judged_accepted}
use Rattle.history.specs.Calls.{Call, Event, after, events, submit, depart, tick, cancel, amend, unchanged}
use Rattle.history.specs.News.{news}
use Rattle.history.specs.Book.{waiting, start, fate_from}
use Rattle.history_proof.specs.Obligations.{said, Queued}
use Rattle.conservative_rules.specs.Conservative as conservative
use Rattle.conservative_laws.specs.Validity as conservative-valid
use Rattle.conservative_laws.specs.Sentences.{Still, still_there, withdrawal_never_later, refused_is}
use Rattle.conservative_laws.specs.Tightness.{Tight}
use Rattle.easy_rules.specs.Easy as easy
use Rattle.easy_rules.specs.EarliestStart.{earliest_start}
use Rattle.easy_laws.specs.Course.{OnCourse, head_course, head_in}
use Rattle.easy_laws.specs.Validity as easy-valid
use Rattle.easy_laws.specs.Obligations.{easy_lawful}
use Rattle.easy_laws.specs.Sentences.{refused_same, call_starts}
use Rattle.checkpoint_rules.specs.Texts.{desk_text, restored}
use Rattle.guarantees.specs.Rules.{rules_of, call}
use Rattle.guarantees.specs.Premise.{Valid, Premise, stored_premise}
use Rattle.guarantees.specs.Statement.{events_append}
use Rattle.guarantees.specs.Cleanup.{settings_stay}
use Rattle.guarantees.specs.Restored.{valid_comes_back}
use Rattle.guarantees.specs.NoGaps.{no_gaps_from, no_gaps_amended}
use Rattle.guarantees.specs.EarliestStart.{Unamended, NoneAmends, starts_no_sooner}
use Rattle.amend_rules.specs.Amending.{amended, amend_calls}
use Rattle.amend_rules.specs.Steps.{Step, ask, corrects, stepped, step_calls, all_steps, replies}
use Rattle.amend_laws.specs.Counting.{amended_by, waits_for, withdraws_taken}
use Rattle.amend_laws.specs.Steps.{left_is, step_valid, said_from, said_is}

-- ## A refused one changes nothing

-- "If that intake is refused, the old order remains untouched". An order that its own tests refuse changes nothing either
pub refused_amendment : (m : Model) (a : Amendment) → accepts (amended call m a).reply.refusal ≡ false
    → amended call m a ≡ refuse m (amended call m a).reply.refusal
refused_amendment m a =
    amended_by call m a (λ x cs. accepts x.reply.refusal ≡ false → x ≡ refuse m x.reply.refusal) (λ r n x. refl) (λ j e g x. placed m.settings.kind)
    (λ j e g x n. true_false (accepts (call (call m (cancel a.ticket)).model (submit (order_for a j))).reply.refusal) x n)
  where
    placed : (k : Kind) → accepts (rules_of k m (amend a)).reply.refusal ≡ false → rules_of k m (amend a) ≡ refuse m (rules_of k m (amend a)).reply.refusal
    placed Conservative = refused_is m (amend a)
    placed Easy = refused_same m (amend a)

-- ## What it hands back meets the premise, and comes back from its own lines

pub amended_valid : (m : Model) (a : Amendment) → Valid m → Valid (amended call m a).model
amended_valid m a v = step_valid m (corrects a) v

pub amended_premise : (d : Scheduler) (a : Amendment) → Premise d → Premise (outcome (amended call (view d) a)).scheduler
amended_premise d a h = stored_premise (amended call (view d) a).model (amended_valid (view d) a h.holds)

pub amended_settings : (m : Model) (a : Amendment) → Valid m → (amended call m a).model.settings ≡ m.settings
amended_settings m a v = ap (λ (n : Model). n.settings) (left_is m (corrects a)) ∙ settings_stay m (amend_calls call m a) v

-- No. 11: "Every desk that calls have made outside No. 6 is accepted from its own lines and comes back the same"
pub amended_comes_back : (m : Model) (a : Amendment) → Valid m → m.settings.longest ≡ longest_estimate
    → restored (desk_text (amended call m a).model) ≡ record { refusal = refusal.None; model = (amended call m a).model }
amended_comes_back m a v e =
    valid_comes_back (amended call m a).model (amended_valid m a v) (ap (λ (S : Settings). S.longest) (amended_settings m a v) ∙ e)

-- ## The Promise Desk

-- "keeps its promise", which is what is answered
pub answers_promise : (m : Model) (a : Amendment) → accepts (conservative.call m (amend a)).reply.refusal ≡ true
    → (conservative.call m (amend a)).reply.promise ≡ kept_promise (named m a)
unfolding conservative.call conservative.amended conservative.amended_to
answers_promise m a x = ap (λ (o : Result). o.reply.promise) (judged_accepted m (in_place_refusal m a) (conservative.amended m a) x).1

module _ (m : Model) (a : Amendment) (v : conservative-valid.Valid m) where
  none_withdrawn : (t : ℕ) → elem t (said conservative.call m (amend a)).withdrew ≡ false
  none_withdrawn t = case (accepts (conservative.call m (amend a)).reply.refusal) (λ x. rw x) (λ x. rw x)

  -- in place: every job that waits, the corrected one too, has its promise still and is planned for no later
  pub in_place_never_later : (j : Job) → In j m.jobs → is_waiting j ≡ true → (k : Job) × In k (conservative.call m (amend a)).model.jobs × Still j k
  in_place_never_later j i w = still_there m (amend a) j v i w (none_withdrawn j.ticket)

  -- and in every case: every waiting job except the one that is withdrawn because it grows
  pub amended_never_later : (j : Job) → In j m.jobs → is_waiting j ≡ true → (names a j && grows m.settings a j) ≡ false
      → (k : Job) × In k (amended conservative.call m a).model.jobs × Still j k
  unfolding conservative.call conservative.submitted
  amended_never_later j i w n =
      amended_by conservative.call m a (λ x cs. (k : Job) × In k x.model.jobs × Still j k)
      (λ r q. (j, i, record { ticket = refl; start = omega arith; promise = refl }))
      (λ h e g x. in_place_never_later j i w)
      (λ h e g x.
      let b = (conservative.call m (cancel a.ticket)).model in
      let o = order_for a h in
      let k = withdrawal_never_later m a.ticket j v i (other h e g) in
      let q = (judged_accepted b (conservative.submit_refusal b o (conservative.planned b o)) (conservative.submitted b o (conservative.planned b o)) x).1 in
      (k.0, subst (λ (y : Result). In k.0 y.model.jobs) (sym q) (in_left _ k.1), k.2))
    where
      other : (h : Job) → named m a ≡ some h → grows m.settings a h ≡ true → j.ticket ≡ a.ticket → ⊥
      other h e g t =
          let y = first_in (names a) m.jobs e in
          let z : h.ticket ≡ a.ticket = eqb-true h.ticket a.ticket (both (is_waiting h) (eqb h.ticket a.ticket) y.1).1 in
          let s : j ≡ h = asc_one 1 m.jobs j h v.sound.asc i y.0 (t ∙ sym z) in
          true_false (names a j && grows m.settings a j) (rw (w, eq-eqb j.ticket a.ticket t) (ap (grows m.settings a) s ∙ g)) n

-- one that waits is withdrawn
pub cancel_taken : (k : Kind) (m : Model) (t : ℕ) → Queued m t → accepts (rules_of k m (cancel t)).reply.refusal ≡ true
unfolding conservative.call conservative.departed conservative.advanced easy.call easy.advanced easy.finished
cancel_taken Conservative m t q = rw (withdraws_taken m t q)
cancel_taken Easy m t q = rw (withdraws_taken m t q)

-- "All waiting stacks, this one too, then move as after a withdrawal": where it is taken, in place or not, no gaps are left from then on, whatever the
-- model had before
pub no_gaps_after_amendment : (m : Model) (a : Amendment) (cs : List Call) → Valid m → m.settings.kind ≡ Conservative
    → accepts (amended call m a).reply.refusal ≡ true → Tight (after call (amended call m a).model cs)
no_gaps_after_amendment m a cs v k =
    amended_by call m a (λ x ds. accepts x.reply.refusal ≡ true → Tight (after call x.model cs))
    (λ r n x. true_false (accepts r) x n)
    (λ j e g x. no_gaps_amended m a cs v k)
    (λ j e g x y. no_gaps_from m Cancel a.ticket (submit (order_for a j) ∷ cs) v k (withdrawn j e))
  where
    withdrawn : (j : Job) → named m a ≡ some j → accepts (call m (cancel a.ticket)).reply.refusal ≡ true
    withdrawn j e = cancel_taken m.settings.kind m a.ticket (waits_for m a j e)

-- ## The Loose Desk

-- a call after which a job has started by a minute, or is on course to
abbrev pub InTime : Result → (ticket minute : ℕ) → Type 0
InTime o u b = ((elem u o.reply.started ≡ true) × (o.model.clock ≤ b)) ⊎ OnCourse o.model u b

module _ (m : Model) (a : Amendment) (v : easy-valid.Valid m) where
  abbrev now : Result
  now = easy.call m (amend a)

  none_leaves : (t : ℕ) → elem t (said easy.call m (amend a)).withdrew ≡ false
  none_leaves t = case (accepts now.reply.refusal) (λ x. rw x) (λ x. rw x)

  -- in place: a job is still on course for whatever it was on course for
  pub in_place_in_time : (u b : ℕ) → OnCourse m u b → InTime now u b
  in_place_in_time u b o =
      let k = (easy_lawful.keeps b).keeps m (amend a) u v o (none_leaves u) in
      case (elem u now.reply.started) (λ s. inl (s, rw (none_leaves u, s) at k)) (λ s. inr (rw (none_leaves u, s) at k))

  -- so each waiting job, the corrected one too, keeps to the bound and the forecast of its record
  pub bound_and_forecast : (j : Job) → In j m.jobs → is_waiting j ≡ true
      → InTime now j.ticket (bound_of m.settings j) × (1 ≤ j.forecast → InTime now j.ticket j.forecast)
  bound_and_forecast j i w = (
    in_place_in_time j.ticket (bound_of m.settings j) (v.ready.room j i w).0,
    λ f. in_place_in_time j.ticket j.forecast (v.ready.kept j i w f),
  )

  -- and if the head stays head, its shadow comes no later
  pub head_shadow_no_later : (h k : Job) (later q : List Job) → easy.queue m.jobs ≡ h ∷ later → easy.queue now.model.jobs ≡ k ∷ q → k.ticket ≡ h.ticket
      → easy.shadow now.model k.nodes ≤ easy.shadow m h.nodes
  head_shadow_no_later h k later q e e' t =
      ⊎_elim
      (λ s. absurd ((call_starts m (amend a) v).runs h.ticket s.0
      (let i = head_in now.model k q e' in record { job = k; isin = i.0; waits = i.1; named = t })))
      (λ o. omega (arith, o.by k q e'))
      (in_place_in_time h.ticket (easy.shadow m h.nodes) (head_course m h later e v.ready.sound))

-- ## "its soonest minute counts afresh"

-- whom a step does not amend
abbrev pub Other : (ticket : ℕ) → Step → Type 0
Other t (ask (submit o)) = Unit {0}
Other t (ask (depart h u)) = Unit {0}
Other t (ask tick) = Unit {0}
Other t (ask (amend a)) = eqb t a.ticket ≡ false
Other t (ask (unchanged r)) = Unit {0}
Other t (corrects a) = eqb t a.ticket ≡ false

module _ (t : ℕ) where
  unsaid : (m : Model) (c : Call) → Other t (ask c) → Unamended t (said call m c)
  unsaid m (submit o) x = case (accepts (call m (submit o)).reply.refusal) (λ e. rw e) (λ e. rw e)
  unsaid m (depart h u) x = case (accepts (call m (depart h u)).reply.refusal) (λ e. rw e) (λ e. rw e)
  unsaid m tick x = case (accepts (call m tick).reply.refusal) (λ e. rw e) (λ e. rw e)
  unsaid m (amend a) x = case (accepts (call m (amend a)).reply.refusal) (λ e. rw (e, x)) (λ e. rw e)
  unsaid m (unchanged r) x = case (accepts (call m (unchanged r)).reply.refusal) (λ e. rw e) (λ e. rw e)

  step_unsaid : (m : Model) (q : Step) → Other t q → NoneAmends t (events call m (step_calls call m q))
  step_unsaid m (ask c) o = (unsaid m c o, tt)
  step_unsaid m (corrects a) o =
      amended_by call m a (λ x cs. NoneAmends t (events call m cs)) (λ r n. (unsaid m (unchanged r) tt, tt)) (λ j e g x. (unsaid m (amend a) o, tt))
      (λ j e g x. (unsaid m (cancel a.ticket) tt, (unsaid (call m (cancel a.ticket)).model (submit (order_for a j)) tt, tt)))

  all_unsaid : (m : Model) (qs : List Step) → All (Other t) qs → NoneAmends t (events call m (all_steps call m qs))
  all_unsaid m [] o = tt
  all_unsaid m (q ∷ qs) o =
      let cs = step_calls call m q in
      let ds = all_steps call (stepped call m q).model qs in
      subst (NoneAmends t) (sym (events_append m cs ds))
      (all_append (λ (e : Event). Unamended t (news e)) (events call m cs) (events call (after call m cs) ds) (step_unsaid m q o.0)
      (subst (λ (n : Model). NoneAmends t (events call n ds)) (left_is m q) (all_unsaid (stepped call m q).model qs o.1)))

-- For every list of calls and corrected orders that follows: by these and their answers, a job starts no sooner than the minute given for it, as
-- long as none of them corrects its order.
pub no_sooner_unamended : (m : Model) (t s : ℕ) (qs : List Step) → Valid m → accepts (earliest_start m t).refusal ≡ true → All (Other t) qs
    → start (fate_from (cleanup m.settings) m.clock t waiting (said_from m qs (replies call m qs))) ≡ some s → (earliest_start m t).minute ≤ s
no_sooner_unamended m t s qs v x o e =
    starts_no_sooner m t s (all_steps call m qs) v x (all_unsaid t m qs o)
    (subst (λ (es : List Event). start (fate_from (cleanup m.settings) m.clock t waiting es) ≡ some s) (said_is m qs v) e)

-- once its order is corrected, the minute that the new model gives for it holds in the same way
pub soonest_afresh : (m : Model) (a : Amendment) (s : ℕ) (qs : List Step) → Valid m
    → (let n = (amended call m a).model in
    accepts (earliest_start n a.ticket).refusal ≡ true → All (Other a.ticket) qs
    → start (fate_from (cleanup n.settings) n.clock a.ticket waiting (said_from n qs (replies call n qs))) ≡ some s
    → (earliest_start n a.ticket).minute ≤ s)
soonest_afresh m a s qs v = no_sooner_unamended (amended call m a).model a.ticket s qs (amended_valid m a v)
