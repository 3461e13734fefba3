-- An order corrected in place is its own part and a settling, like every call of EASY backfilling. Its answer then gets the ticket that the order
-- named. The part itself gives no ticket: no job has come, and the corrected job may be the head.
-- Assumes nothing.
use Rattle.std.specs.Prelude.{ℕ, ◌≡◌, refl, cond}
use Rattle.std.proofs.Math.Path.{sym}
use Rattle.std.proofs.Common.{ap, ◌∙◌}
use mathlib.Core.List.{List, [], ◌∷◌, map, head?}
use Rattle.lists.specs.Tests.{case}
use Rattle.scheduler.specs.declared.Job.{Job}
use Rattle.scheduler.specs.declared.Amendment.{Amendment}
use Rattle.scheduler.specs.declared.Answer.{Answer}
use Rattle.scheduler.specs.declared.Outcome.{Outcome}
use Rattle.scheduler.specs.Model.{Model}
use Rattle.scheduler.specs.Answers.{Result, accepts, outcome}
use Rattle.scheduler.specs.Amending.{supersede, in_place_refusal, in_place_of}
use Rattle.jobs.specs.Amended.{inplace_fit, kept_ticket}
use Rattle.history.specs.Calls.{amend}
use Rattle.easy_rules.specs.Easy.{queue, head, finished, call}
use Rattle.easy_laws.specs.Amended.{kept_queue}
use Rattle.easy_laws.specs.Validity.{Ready, Valid, inplace_ready}
use Rattle.easy_engine.specs.Survey.{ticket_in, head_before}
use Rattle.job_table.specs.Parts.{coming}
use Rattle.amending.specs.Ways.{superseding}
use Rattle.easy.specs.Parts.{answering}
use Rattle.easy.specs.Calling.{BeforeBy, still_head, judged_own_lem, judged_ready, judged_before}

-- "either way the answer gives ticket and promise as intake's does": where it is taken, the ticket; a refused answer is unchanged
abbrev pub ticketed : ℕ → Answer → Answer
ticketed t a = record {
  refusal = a.refusal;
  ticket = cond (accepts a.refusal) t a.ticket;
  promise = a.promise;
  reads = a.reads;
  ended = a.ended;
  started = a.started;
  head = a.head;
  forecast = a.forecast;
}

abbrev pub ticketed_outcome : ℕ → Outcome → Outcome
ticketed_outcome t o = record { answer = ticketed t o.answer; scheduler = o.scheduler }

-- the head is that of before
kept_head : (m : Model) (a : Amendment) → ticket_in (head (in_place_of m a)) ≡ ticket_in (head m)
kept_head m a = ap (λ (q : List Job). ticket_in (head? q)) (kept_queue m a) ∙ by (queue m.jobs)
  where
    by : (q : List Job) → ticket_in (head? (map (supersede a) q)) ≡ ticket_in (head? q)
    by [] = refl
    by (h ∷ later) = kept_ticket a h

module _ (m : Model) (a : Amendment) (v : Valid m) where
  pub superseding_ready : Ready (superseding m a).model
  superseding_ready = judged_ready m v (in_place_refusal m a) _ (λ x. inplace_ready m a (inplace_fit m a x) v)

  pub superseding_before : BeforeBy m (superseding m a)
  superseding_before =
      judged_before m v (in_place_refusal m a) _ (λ x. ap (head_before 0 0) (kept_head m a) ∙ still_head m v.ready.sound)

  pub amend_own : ticketed_outcome a.ticket (outcome (answering m (superseding m a))) ≡ outcome (call m (amend a))
  unfolding call finished
  amend_own =
      sym (ap (λ (x : Result). ticketed_outcome a.ticket (outcome x))
      (judged_own_lem m v (in_place_refusal m a) (finished m (in_place_of m a) 0 []) (coming 0 (in_place_of m a)) refl))
      ∙ case (accepts (in_place_refusal m a)) (λ x. rw x) (λ x. rw x (rw x))
