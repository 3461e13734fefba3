-- How many jobs have not ended after a call. A job comes only by a submission, and one job fewer is left where one ends. Also: no job gets a least.
-- Assumes nothing.
use Rattle.std.specs.Prelude.{◌≡◌, refl, Bool, true, false, not, cond, List, [], ◌∷◌, ◌++◌, map, ◌⊎◌, ℕ, ◌+◌, ◌≤◌, ◌<◌, ltb}
use Rattle.std.proofs.Common.{sym, ap, subst, ◌∙◌, inl, inr, arith}
use Rattle.lists.specs.Tests.{case, true_false, on, on_le}
use Rattle.lists.specs.Lists.{keep, elem, sum, In, here, there, in_append, in_map, map_in, keep_in, sum_append, sum_map, sum_kept, sum_le, sum_cong}
use Rattle.scheduler.specs.declared.Kind.{Kind}
use Rattle.scheduler.specs.declared.Kind.TheVariants.{Conservative, Easy}
use Rattle.scheduler.specs.declared.Job.{Job}
use Rattle.scheduler.specs.declared.Submission.{Submission}
use Rattle.scheduler.specs.declared.Amendment.{Amendment}
use Rattle.scheduler.specs.declared.State.{State}
use Rattle.scheduler.specs.declared.State.TheVariants.{Unused, Waiting, Running, Cleanup}
use Rattle.scheduler.specs.States.{running?, cleaning?}
use Rattle.scheduler.specs.Jobs.{is_running, is_cleaning}
use Rattle.scheduler.specs.Settings.{cleanup}
use Rattle.scheduler.specs.Model.{Model}
use Rattle.scheduler.specs.Answers.{accepts}
use Rattle.jobs.specs.Soundness.{running_clean}
use Rattle.history.specs.Calls.{Call, submit, tick, complete}
use Rattle.history.specs.News.{Newcomer, News, clock_after}
use Rattle.history.specs.Tickets.{next_after}
use Rattle.history.specs.Book.{Fate, waiting, running, cleaning, ended, withdrawn, over, fate_after}
use Rattle.history.specs.Beginning.{fate_by}
use Rattle.history_proof.specs.Obligations.{JobShown, shown, live, is_live_of, remark, comers, newly, Tells, said}
use Rattle.history_proof.specs.Departures.{remark_same}
use Rattle.conservative_laws.specs.Obligations.{conservative_lawful}
use Rattle.conservative_laws.specs.Sentences.{conservative_ticketed}
use Rattle.easy_laws.specs.Obligations.{easy_lawful}
use Rattle.easy_laws.specs.Withdrawal.{easy_ticketed}
use Rattle.guarantees.specs.Rules.{rules_of, call}
use Rattle.guarantees.specs.Premise.{Valid, ValidBy}
use Rattle.season_rules.specs.Season.{unended}

-- ## What a call tells

pub tells : (m : Model) (c : Call) → Valid m → Tells m (said call m c) (call m c).model
tells m c v = by m.settings.kind v
  where
    by : (k : Kind) → ValidBy k m → Tells m (said (rules_of k) m c) (rules_of k m c).model
    by Conservative w = conservative_lawful.tells m c w
    by Easy w = easy_lawful.tells m c w

pub clock_is : (m : Model) (c : Call) → Valid m → (call m c).model.clock ≡ clock_after (said call m c) m.clock
clock_is m c v = by m.settings.kind v
  where
    by : (k : Kind) → ValidBy k m → (rules_of k m c).model.clock ≡ clock_after (said (rules_of k) m c) m.clock
    by Conservative w = conservative_lawful.clock m c w
    by Easy w = easy_lawful.clock m c w

pub next_is : (m : Model) (c : Call) → Valid m → (call m c).model.next ≡ next_after (said call m c).came m.next
next_is m c v = by m.settings.kind v
  where
    by : (k : Kind) → ValidBy k m → (rules_of k m c).model.next ≡ next_after (said (rules_of k) m c).came m.next
    by Conservative w = conservative_ticketed.next m c w
    by Easy w = easy_ticketed.next m c w

pub gives : (m : Model) (c : Call) (o : Newcomer) → Valid m → In o (said call m c).came → o.ticket ≡ m.next
gives m c o v i = by m.settings.kind v i
  where
    by : (k : Kind) → ValidBy k m → In o (said (rules_of k) m c).came → o.ticket ≡ m.next
    by Conservative w j = conservative_ticketed.gives m c o w j
    by Easy w j = easy_ticketed.gives m c o w j

-- an end and a step bring nobody
pub depart_came : (m : Model) (t : ℕ) → (said call m (complete t)).came ≡ []
depart_came m t = case (accepts (call m (complete t)).reply.refusal) (λ e. rw e) (λ e. rw e)

pub tick_came : (m : Model) → (said call m tick).came ≡ []
tick_came m = case (accepts (call m tick).reply.refusal) (λ e. rw e) (λ e. rw e)

-- none of these amends
pub none_amended : (b : Bool) → ◌≡◌ {A = List Amendment} (cond b [] []) []
none_amended true = refl
none_amended false = refl

-- a submission that is taken brings one, under the next ticket
pub submit_came : (m : Model) (o : Submission) → accepts (call m (submit o)).reply.refusal ≡ true
    → let r = (call m (submit o)).reply in
    (said call m (submit o)).came ≡ record { ticket = r.ticket; nodes = o.nodes; promise = r.promise; tenant = o.tenant; least = o.least } ∷ []
submit_came m o a = rw a

pub ticket_is : (m : Model) (o : Submission) → Valid m → accepts (call m (submit o)).reply.refusal ≡ true → (call m (submit o)).reply.ticket ≡ m.next
ticket_is m o v a = gives m (submit o) _ v (subst (In _) (sym (submit_came m o a)) (here refl))

-- ## Jobs that have not ended

abbrev pub goes : Fate → Bool
goes waiting = true
goes (running s) = true
goes (cleaning s e) = false
goes (ended s) = false
goes (withdrawn w) = false

abbrev pub going : JobShown → ℕ
going x = on (goes x.fate) 1

shown_goes : (j : Job) → going (shown j) ≡ on (not (is_cleaning j)) 1
shown_goes j = by j.state
  where
    by : (x : State) → on (goes (fate_by x j.start j.end)) 1 ≡ on (not (cleaning? x)) 1
    by Unused = refl
    by Waiting = refl
    by Running = refl
    by Cleanup = refl

unended_shown : (js : List Job) → unended js ≡ sum going (map shown js)
unended_shown js = sym (sum_map going shown js ∙ sum_cong (λ (j : Job). going (shown j)) (λ (j : Job). on (not (is_cleaning j)) 1) js (λ j i. shown_goes j))

live_goes : (x : JobShown) → is_live_of x ≡ false → going x ≡ 0
live_goes x e = by x.fate e
  where
    by : (f : Fate) → live f ≡ false → on (goes f) 1 ≡ 0
    by waiting e = true_false true refl e
    by (running s) e = true_false true refl e
    by (cleaning s m) e = refl
    by (ended s) e = refl
    by (withdrawn w) e = refl

module _ (k c : ℕ) (e : News) where
  over_goes : (s m : ℕ) → goes (over k c s m) ≡ false
  over_goes s m = case (ltb c (m + k)) (λ q. rw q) (λ q. rw q)

  -- an event brings nobody back who has ended
  no_more : (x : JobShown) → going (remark k c e x) ≤ going x
  no_more x = by x.fate
    where
      to_one : (f : Fate) → on (goes f) 1 ≤ 1
      to_one f = on_le (goes f) 1

      by : (f : Fate) → on (goes (fate_after k c e x.ticket f)) 1 ≤ on (goes f) 1
      by waiting = to_one (fate_after k c e x.ticket waiting)
      by (running s) = to_one (fate_after k c e x.ticket (running s))
      by (cleaning s m) = rw (over_goes s m) (omega arith)
      by (ended s) = omega arith
      by (withdrawn w) = omega arith

  -- and whose run it ends has ended
  none_left : (j : Job) → is_running j ≡ true → elem j.ticket e.ended ≡ true → going (remark k c e (shown j)) ≡ 0
  none_left j r q = by j.state r
    where
      by : (x : State) → running? x ≡ true → on (goes (fate_after k c e j.ticket (fate_by x j.start j.end))) 1 ≡ 0
      by Unused y = true_false false y refl
      by Waiting y = true_false false y refl
      by Running y = rw q (rw (over_goes j.start c))
      by Cleanup y = true_false false y refl

-- one less is smaller by one
sum_less : {A : Type 0} (f g : A → ℕ) {a : A} {xs : List A} → ((x : A) → f x ≤ g x) → In a xs → f a < g a → sum f xs < sum g xs
sum_less f g {a} {xs} le (here {x = x} {xs = ys} q) l =
    omega (arith, sum_le f g ys (λ y i. le y), subst (λ z. f z < g z) q l)
sum_less f g le (there {x = x} i) l = omega (arith, le x, sum_less f g le i l)

module _ (m : Model) (c : Call) (v : Valid m) where
  abbrev m' : Model
  m' = (call m c).model

  abbrev e : News
  e = said call m c

  abbrev after : JobShown → JobShown
  after x = remark (cleanup m'.settings) m'.clock e x

  abbrev came : ℕ
  came = sum going (comers e)

  after_sum : unended m'.jobs ≡ sum (λ (x : JobShown). going (after x)) (map shown m.jobs) + sum (λ (x : JobShown). going (after x)) (comers e)
  after_sum =
      unended_shown m'.jobs
      ∙ ap (sum going) (tells m c v)
      ∙ sum_kept going is_live_of (map after (map shown m.jobs ++ comers e)) live_goes
      ∙ sum_map going after (map shown m.jobs ++ comers e)
      ∙ sum_append (λ (x : JobShown). going (after x)) (map shown m.jobs) (comers e)

  falls : (x : JobShown) → going (after x) ≤ going x
  falls x = no_more (cleanup m'.settings) m'.clock e x

  comers_fall : sum (λ (x : JobShown). going (after x)) (comers e) ≤ came
  comers_fall = sum_le (λ (x : JobShown). going (after x)) going (comers e) (λ x i. falls x)

  pub unended_after : unended m'.jobs ≤ unended m.jobs + came
  unended_after =
      omega (
        arith,
        after_sum,
        comers_fall,
        unended_shown m.jobs,
        sum_le (λ (x : JobShown). going (after x)) going (map shown m.jobs) (λ x i. falls x),
      )

  pub unended_less : (j : Job) → In j m.jobs → is_running j ≡ true → elem j.ticket e.ended ≡ true → unended m'.jobs < unended m.jobs + came
  unended_less j i r q =
      let one : going (shown j) ≡ 1 = shown_goes j ∙ rw (running_clean j.state r) in
      omega (
        arith,
        after_sum,
        comers_fall,
        unended_shown m.jobs,
        sum_less (λ (x : JobShown). going (after x)) going {xs = map shown m.jobs} falls (in_map shown i)
            (omega (arith, one, none_left (cleanup m'.settings) m'.clock e j r q)),
      )

  -- ## Leasts

  pub leasts_after : e.amended ≡ [] → ((j : Job) → In j m.jobs → j.least ≡ 0) → ((o : Newcomer) → In o e.came → o.least ≡ 0) → (j : Job)
      → In j m'.jobs → j.least ≡ 0
  leasts_after n f g j i =
      let x : In (shown j) (keep is_live_of (map after (map shown m.jobs ++ comers e))) = subst (In (shown j)) (tells m c v) (in_map shown i) in
      let y = map_in after (map shown m.jobs ++ comers e) (keep_in is_live_of (map after (map shown m.jobs ++ comers e)) x).0 in
      ap (λ (z : JobShown). z.least) (y.2 ∙ remark_same (cleanup m'.settings) m'.clock e y.0 n) ∙ by y.0 (in_append (map shown m.jobs) y.1)
    where
      by : (z : JobShown) → In z (map shown m.jobs) ⊎ In z (comers e) → z.least ≡ 0
      by z (inl k) = let w = map_in shown m.jobs k in ap (λ (u : JobShown). u.least) w.2 ∙ f w.0 w.1
      by z (inr k) = let w = map_in newly e.came k in ap (λ (u : JobShown). u.least) w.2 ∙ g w.0 w.1
