-- "and if either grows the rest of intake's": of these only 5 and 6 can still refuse it. 14, 1, 2 and 19 are judged before, and 15 cannot be given,
-- since the withdrawal gives the house's place back.
-- Assumes nothing.
use Rattle.std.specs.Prelude.{ℕ, ◌≤◌, ◌<◌, ◌≡◌, refl, Bool, true, false, cond, List, [], ◌∷◌, ◌++◌, map, eqb, ltb}
use Rattle.std.proofs.Common.{arith, sym, ap, subst, ◌∙◌, append-nil, le-ltb, eq-eqb, eqb-true}
use Rattle.std.proofs.Math.Option.{Option, none, some}
use Rattle.std.proofs.lemmas.Bool.{lt-leb}
use Rattle.lists.specs.Tests.{case, true_false, both, on}
use Rattle.lists.specs.Lists.{In, here, there, sum, sum_map, sum_le, sum_picked, first_in, any, none_any}
use Rattle.lists.specs.FirstLaws.{first_none}
use Rattle.scheduler.specs.declared.Kind.{Kind}
use Rattle.scheduler.specs.declared.Kind.TheVariants.{Conservative, Easy}
use Rattle.scheduler.specs.declared.Job.{Job}
use Rattle.scheduler.specs.declared.Settings.{Settings}
use Rattle.scheduler.specs.declared.Submission.{Submission}
use Rattle.scheduler.specs.declared.Amendment.{Amendment}
use Rattle.scheduler.specs.declared.Tenant.{Tenant}
use Rattle.scheduler.specs.declared.Refusal.{Refusal}
use Rattle.scheduler.specs.declared.Refusal.TheVariants as refusal
use Rattle.scheduler.specs.Limits.{last_ticket}
use Rattle.scheduler.specs.Tenants.{known, number, same_tenant}
use Rattle.scheduler.specs.Jobs.{is_waiting}
use Rattle.scheduler.specs.Settings.{cleanup, longest, quota}
use Rattle.scheduler.specs.Table.{of_tenant, live_of}
use Rattle.scheduler.specs.Model.{Model, joined}
use Rattle.scheduler.specs.Answers.{Result, accepts, verdict}
use Rattle.scheduler.specs.Refusals.{judged, submit_tests}
use Rattle.scheduler.specs.Amending.{names, named, amend_refusal, grows, order_for}
use Rattle.jobs.specs.Judgement.{accepts_none, judged_refusal}
use Rattle.jobs.specs.Soundness.{waiting_is}
use Rattle.jobs.specs.Amended.{InRange, amend_fit}
use Rattle.history.specs.Calls.{submit, cancel, amend}
use Rattle.history.specs.News.{Newcomer}
use Rattle.history_proof.specs.Obligations.{JobShown, shown, is_live_of, remark, newly, said, Lawful, Queued}
use Rattle.conservative_rules.specs.Conservative as conservative
use Rattle.conservative_laws.specs.Obligations.{conservative_lawful}
use Rattle.easy_rules.specs.Easy as easy
use Rattle.easy_laws.specs.Obligations.{easy_lawful}
use Rattle.guarantees.specs.Rules.{rules_of, call}
use Rattle.guarantees.specs.Premise.{ValidBy, Valid, valid_sound}
use Rattle.guarantees.specs.Cleanup.{settings_stay}
use Rattle.amend_rules.specs.Amending.{both_of, resubmitted, amended_of, amended}
use Rattle.amend_laws.specs.Counting.{waits_for, tellable}
use Rattle.amend_laws.specs.Sentences.{cancel_taken}

-- ## The house's place

-- the live jobs of a tenant, by what is shown of them
abbrev mine : Tenant → JobShown → ℕ
mine h x = on (same_tenant x.tenant h) 1

module _ {k : Kind} {Fit : Model → Type 0} {OnCourse : Model → ℕ → ℕ → Type 0} (L : Lawful k (rules_of k) Fit OnCourse) (m : Model) (v : Fit m) (j : Job)
    (i : In j m.jobs) (w : is_waiting j ≡ true) (x : accepts (rules_of k m (cancel j.ticket)).reply.refusal ≡ true) where
  abbrev n : Model
  n = (rules_of k m (cancel j.ticket)).model

  abbrev after : JobShown → JobShown
  after = remark (cleanup n.settings) n.clock (said (rules_of k) m (cancel j.ticket))

  -- how much each job counts for its tenant after the withdrawal: the withdrawn one counts nothing
  abbrev counts : Tenant → Job → ℕ
  counts h y = on (is_live_of (after (shown y))) (mine h (shown y))

  shares_after : (h : Tenant) → live_of h n.jobs ≡ sum (counts h) m.jobs
  shares_after h =
      sym (sum_map (mine h) shown n.jobs)
      ∙ ap (sum (mine h)) (L.tells m (cancel j.ticket) v)
      ∙ sum_picked (mine h) is_live_of (map after (map shown m.jobs ++ map newly (said (rules_of k) m (cancel j.ticket)).came))
      ∙ ap (λ (os : List Newcomer). sum live (map after (map shown m.jobs ++ map newly os))) none_came
      ∙ ap (λ (xs : List JobShown). sum live (map after xs)) (append-nil (map shown m.jobs))
      ∙ sum_map live after (map shown m.jobs)
      ∙ sum_map (λ (y : JobShown). live (after y)) shown m.jobs
    where
      live : JobShown → ℕ
      live y = on (is_live_of y) (mine h y)

      none_came : (said (rules_of k) m (cancel j.ticket)).came ≡ []
      none_came = rw x

  withdrawn_counts : (h : Tenant) → counts h j ≡ 0
  withdrawn_counts h = rw (x, waiting_is j.state w, eq-eqb j.ticket j.ticket refl)

  -- so its house has a place
  pub place_left : live_of j.tenant n.jobs < live_of j.tenant m.jobs
  place_left =
      omega (
        arith,
        shares_after h,
        less (counts h) (λ (y : Job). on (of_tenant h y) 1) m.jobs (λ y z. some (is_live_of (after (shown y))) (mine h (shown y))) i
            (omega (arith, withdrawn_counts h, own)),
      )
    where
      h : Tenant
      h = j.tenant

      some : (b : Bool) (c : ℕ) → on b c ≤ c
      some true c = omega arith
      some false c = omega arith

      less : (f g : Job → ℕ) (js : List Job) → ((y : Job) → In y js → f y ≤ g y) → In j js → f j < g j → sum f js < sum g js
      less f g [] p i l = elim i [ ]
      less f g (y ∷ ys) p (here e) l = omega (arith, l, ap f e, ap g e, sum_le f g ys (λ z u. p z (there u)))
      less f g (y ∷ ys) p (there u) l = omega (arith, p y (here refl), less f g ys (λ z o. p z (there o)) u l)

      own : on (of_tenant h j) 1 ≡ 1
      own = rw (eq-eqb (number j.tenant) (number j.tenant) refl)

-- ## What can still refuse it

pub data Rest : Refusal → Type 0 where
  taken : Rest refusal.None
  no_ticket : Rest refusal.NoTicketLeft
  past_horizon : Rest refusal.PastHorizon

-- where the tests of a submission before 5 pass, 5 and what the kind adds are left
rest_of : (n : Model) (o : Submission) (past : Bool) → known o.tenant ≡ true → 1 ≤ o.nodes → o.nodes ≤ n.settings.nodes → 1 ≤ o.estimate
    → o.estimate ≤ longest n.settings → o.least ≤ o.estimate → live_of o.tenant n.jobs < quota n.settings o.tenant
    → Rest (verdict (submit_tests n o ((past, refusal.PastHorizon) ∷ [])))
unfolding verdict
rest_of n o past h a b c d e f =
    rw (
      h,
      le-ltb o.nodes 1 a,
      le-ltb n.settings.nodes o.nodes b,
      le-ltb o.estimate 1 c,
      le-ltb (longest n.settings) o.estimate d,
      le-ltb o.estimate o.least e,
      lt-leb (quota n.settings o.tenant) (live_of o.tenant n.jobs) f,
    )
    (case (ltb last_ticket n.next) (λ x. rw x no_ticket) (λ x. rw x (by past)))
  where
    by : (b : Bool) → Rest (cond b refusal.PastHorizon refusal.None)
    by true = past_horizon
    by false = taken

-- the refusal of a submission, by the kind
refused_by_lem : (k : Kind) (n : Model) (o : Submission)
    → (past : Bool) × ((rules_of k n (submit o)).reply.refusal ≡ verdict (submit_tests n o ((past, refusal.PastHorizon) ∷ [])))
unfolding conservative.call conservative.submit_refusal conservative.submitted easy.call easy.submit_refusal easy.finished
refused_by_lem Conservative n o =
    let s = conservative.planned n o in
    (_, judged_refusal n (conservative.submit_refusal n o s) (conservative.submitted n o s) refl)
refused_by_lem Easy n o =
    (_, judged_refusal n (easy.submit_refusal n o) (easy.finished n (joined n (easy.new_job n o)) n.next []) refl)

-- so past its own tests a corrected order is taken, or refused by 5 or 6
pub past_own_tests : (m : Model) (a : Amendment) → Valid m → accepts (amend_refusal m a) ≡ true → Rest (amended call m a).reply.refusal
unfolding amended resubmitted
past_own_tests m a v x = rw x (of (named m a) refl)
  where
    fit : (any (names a) m.jobs ≡ true) × InRange m.settings a
    fit = amend_fit m a x

    of : (f : Option Job) → named m a ≡ f → Rest (amended_of call m a f).reply.refusal
    of none e = true_false (any (names a) m.jobs) fit.0 (none_any (names a) m.jobs (first_none (names a) m.jobs e))
    of (some j) e =
        let w = call m (cancel a.ticket) in
        let r = call w.model (submit (order_for a j)) in
        case (grows m.settings a j)
        (λ g. rw g (subst Rest (sym (judged_refusal' r.reply.refusal (both_of w r) refl)) (anew j e)))
        (λ g. rw g (subst Rest (sym (accepts_none (call m (amend a)).reply.refusal (tellable.placed m a j v x e g).0)) taken))
      where
        judged_refusal' : (y : Refusal) (o : Result) → o.reply.refusal ≡ y → (judged m y o).reply.refusal ≡ y
        judged_refusal' y o q = case (accepts y) (λ z. rw z q) (λ z. rw z)

        anew : (j : Job) → named m a ≡ some j → Rest (call (call m (cancel a.ticket)).model (submit (order_for a j))).reply.refusal
        anew j e =
            let n = (call m (cancel a.ticket)).model in
            let o = order_for a j in
            let q = refused_by_lem n.settings.kind n o in
            let S = settings_stay m (cancel a.ticket ∷ []) v in
            let i = first_in (names a) m.jobs e in
            let b = both (is_waiting j) (eqb j.ticket a.ticket) i.1 in
            let r = fit.1 in
            subst Rest (sym q.1)
            (rest_of n o q.0 ((valid_sound m v).each j i.0).tenant_is r.nodes_from (omega (arith, r.nodes_to, ap (λ (T : Settings). T.nodes) S))
            r.estimate_from
            (omega (arith, r.estimate_to, ap longest S)) r.least_to
            (omega (
              arith,
              place m.settings.kind v j i.0 b.0 (eqb-true j.ticket a.ticket b.1) (waits_for m a j e),
              (valid_sound m v).shares j.tenant,
              ap (λ (T : Settings). quota T j.tenant) S,
            )))
          where
            place : (k : Kind) → ValidBy k m → (j : Job) → In j m.jobs → is_waiting j ≡ true → j.ticket ≡ a.ticket → Queued m a.ticket
                → live_of j.tenant (rules_of k m (cancel a.ticket)).model.jobs < live_of j.tenant m.jobs
            place Conservative v j i w t q =
                subst (λ (u : ℕ). Queued m u → live_of j.tenant (conservative.call m (cancel u)).model.jobs < live_of j.tenant m.jobs) t
                (λ q. place_left conservative_lawful m v j i w (cancel_taken Conservative m j.ticket q)) q
            place Easy v j i w t q =
                subst (λ (u : ℕ). Queued m u → live_of j.tenant (easy.call m (cancel u)).model.jobs < live_of j.tenant m.jobs) t
                (λ q. place_left easy_lawful m v j i w (cancel_taken Easy m j.ticket q)) q
