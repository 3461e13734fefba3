-- What a corrected order gives (document 02, No. 13), and how the code computes it.
-- Assumes nothing.
use Rattle.std.specs.Prelude.{◌≡◌, refl, true, false}
use Rattle.std.proofs.Common.{sym, subst, ◌∙◌, arith, length-append}
use Rattle.std.proofs.Math.Path.{ap}
use Rattle.std.proofs.Math.Option.{Option, none, some}
use Rattle.lists.specs.Tests.{case}
use Rattle.scheduler.specs.declared.Job.{Job}
use Rattle.scheduler.specs.declared.Amendment.{Amendment}
use Rattle.scheduler.specs.declared.Answer.{Answer}
use Rattle.scheduler.specs.declared.Outcome.{Outcome}
use Rattle.scheduler.specs.declared.Refusal.{Refusal}
use Rattle.scheduler.specs.declared.Scheduler.{Scheduler}
use Rattle.scheduler.specs.declared.Submission.{Submission}
use Rattle.scheduler.specs.Model.{Model, view}
use Rattle.scheduler.specs.Answers.{Result, accepts, answer, outcome, refuse, refused_answer, refused_outcome}
use Rattle.scheduler.specs.Refusals.{judged}
use Rattle.scheduler.specs.Amending.{named, amend_refusal, grows, order_for}
use Rattle.history.specs.Calls as calls
use Rattle.guarantees.specs.Rules.{call}
use Rattle.guarantees.specs.Premise.{Premise, valid_view, call_valid}
use Rattle.guarantees.specs.Replies.{reply_back}
use Rattle.guarantees.specs.TicketCounts.{FitsAnswer}
use Rattle.amend_rules.specs.Amending.{answered_both, both_of, resubmitted, amended_of, amended}
use Rattle.amend_laws.specs.OneAnswer.{amended_fits}
use Rattle.amending.specs.declared.Way.{Way}
use Rattle.amending.specs.declared.Way.TheVariants as way
use Rattle.amending.specs.Ways.{way_for, way_of}
use Rattle.amend_answer.specs.BothAnswers.{Replies}

abbrev pub amends : Scheduler → Amendment → Outcome
amends d a = outcome (amended call (view d) a)

-- ## By what becomes of it

module _ (m : Model) (a : Amendment) where
  -- what is given, by the way
  abbrev pub GoesBy : Result → Way → Type 0
  GoesBy o (way.Refused r) = o ≡ refuse m r
  GoesBy o way.InPlace = o ≡ call m (calls.amend a)
  GoesBy o (way.Anew s) = (j : Job) × (s ≡ order_for a j) × (o ≡ resubmitted call m a j)

  by_named : (f : Option Job) → GoesBy (amended_of call m a f) (way_for m.settings a f)
  by_named none = refl
  by_named (some j) = case (grows m.settings a j) (λ g. rw g (j, refl, refl)) (λ g. rw g refl)

  pub goes : (w : Way) → w ≡ way_of m a → GoesBy (amended call m a) w
  unfolding way_of amended
  goes w e = rw e (case (accepts (amend_refusal m a)) (λ x. rw x (by_named (named m a))) (λ x. rw x refl))

-- ## As the code has it

module _ (d : Scheduler) (a : Amendment) (h : Premise d) where
  pub amend_refused : (r : Refusal) (o : Outcome) → way.Refused r ≡ way_of (view d) a → o ≡ refused_outcome d r → o ≡ amends d a
  amend_refused r o e p = p ∙ ap (λ (x : Scheduler). record { answer = refused_answer r; scheduler = x }) h.stored ∙ sym (ap outcome (goes (view d) a (way.Refused r) e))

  pub amend_placed : (o : Outcome) → way.InPlace ≡ way_of (view d) a → o ≡ outcome (call (view d) (calls.amend a)) → o ≡ amends d a
  amend_placed o e p = p ∙ sym (ap outcome (goes (view d) a way.InPlace e))

  -- withdrawn, and taken in anew
  module _ (s : Submission) (e : way.Anew s ≡ way_of (view d) a) where
    abbrev m : Model
    m = view d

    abbrev W : Result
    W = call m (calls.cancel a.ticket)

    abbrev R : Result
    R = call W.model (calls.submit s)

    pub gives_both : amended call m a ≡ judged m R.reply.refusal (both_of W R)
    unfolding resubmitted
    gives_both =
        let g = goes m a (way.Anew s) e in
        g.2 ∙ ap (λ (x : Submission). judged m (call W.model (calls.submit x)).reply.refusal (both_of W (call W.model (calls.submit x)))) (sym g.1)

    -- what the second call was made on
    pub submitted_on : (w o : Outcome) → w ≡ outcome W → o ≡ outcome (call (view w.scheduler) (calls.submit s)) → o ≡ outcome R
    submitted_on w o p q =
        q
        ∙ ap (λ (x : Outcome). outcome (call (view x.scheduler) (calls.submit s))) p
        ∙ ap (λ (x : Model). outcome (call x (calls.submit s))) (valid_view W.model (call_valid m (calls.cancel a.ticket) h.holds))

    abbrev pub both_replies : (w o : Outcome) → w ≡ outcome W → o ≡ outcome R → accepts R.reply.refusal ≡ true → Replies w.answer o.answer
    both_replies w o p q x = record {
      first = W.reply;
      second = R.reply;
      first_is = ap (λ (y : Outcome). y.answer) p;
      second_is = ap (λ (y : Outcome). y.answer) q;
      said = reply_back m (calls.cancel a.ticket) h.holds;
      few =
          let f = subst FitsAnswer (rw x at gives_both) (amended_fits m a h.holds) in
          omega (arith, f.started, length-append W.reply.started R.reply.started);
    }

    pub amend_anew : (o r : Outcome) (b : Answer) → o ≡ outcome R → accepts R.reply.refusal ≡ true → b ≡ answer (answered_both W.reply R.reply)
        → r ≡ record { answer = b; scheduler = o.scheduler } → r ≡ amends d a
    amend_anew o r b q x c z =
        z
        ∙ (λ i. record { answer = c i; scheduler = (q i).scheduler })
        ∙ sym (ap outcome (rw x at gives_both))

    pub anew_refused : (r : Outcome) → accepts R.reply.refusal ≡ false → r ≡ refused_outcome d R.reply.refusal → r ≡ amends d a
    anew_refused r x z =
        z ∙ ap (λ (y : Scheduler). record { answer = refused_answer R.reply.refusal; scheduler = y }) h.stored ∙ sym (ap outcome (rw x at gives_both))
