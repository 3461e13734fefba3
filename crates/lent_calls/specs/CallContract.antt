-- What a call on a lent scheduler answers, and leaves there. Document 01: "A rack lends its desk to each call and finds it changed there
-- afterwards"; "A refusal gives its number, no tickets, and the desk and any lent list unchanged".
-- Assumes nothing.
use Rattle.std.specs.Prelude.{◌≡◌, false}
use Rattle.std.proofs.Common.{sym, ap, ◌∙◌}
use Rattle.scheduler.specs.declared.Kind.{Kind}
use Rattle.scheduler.specs.declared.Kind.TheVariants.{Conservative, Easy}
use Rattle.scheduler.specs.declared.Amendment.{Amendment}
use Rattle.scheduler.specs.declared.Answer.{Answer}
use Rattle.scheduler.specs.declared.Outcome.{Outcome}
use Rattle.scheduler.specs.declared.Scheduler.{Scheduler}
use Rattle.scheduler.specs.Model.{Model, store, view}
use Rattle.scheduler.specs.Answers.{Result, accepts}
use Rattle.history.specs.Calls.{Call}
use Rattle.conservative_laws.specs.Sentences.{refused_is}
use Rattle.easy_laws.specs.Sentences.{refused_same}
use Rattle.guarantees.specs.Rules.{rules_of}
use Rattle.guarantees.specs.Premise.{Premise}
use Rattle.guarantees.specs.Chain.{gives}
use Rattle.amend_laws.specs.Sentences.{refused_amendment}
use Rattle.calls.specs.AmendCall.{amends}

-- for a call that by value gives the outcome o: the answer a, and the scheduler e that stands where d was lent, are those of o; and e is d if the
-- call is refused
pub record LeavesOf (d : Scheduler) (o : Outcome) (a : Answer) (e : Scheduler) : Type 0 where
  pub answers : a ≡ o.answer
  pub leaves : e ≡ o.scheduler
  pub premise : Premise e
  pub refused : accepts a.refusal ≡ false → e ≡ d

abbrev pub Leaves : Scheduler → Call → Answer → Scheduler → Type 0
Leaves d c a e = LeavesOf d (gives d c) a e

-- a corrected order (document 02, No. 13)
abbrev pub LeavesAmended : Scheduler → Amendment → Answer → Scheduler → Type 0
LeavesAmended d b a e = LeavesOf d (amends d b) a e

-- of either kind, a refused call leaves the model as it was
same_by : (k : Kind) (m : Model) (c : Call) → accepts (rules_of k m c).reply.refusal ≡ false → (rules_of k m c).model ≡ m
same_by Conservative m c a = ap (λ (r : Result). r.model) (refused_is m c a)
same_by Easy m c a = ap (λ (r : Result). r.model) (refused_same m c a)

-- and the scheduler
pub refused_gives : (d : Scheduler) (c : Call) → Premise d → accepts (gives d c).answer.refusal ≡ false → (gives d c).scheduler ≡ d
refused_gives d c h a = ap store (same_by (view d).settings.kind (view d) c a) ∙ sym h.stored

pub refused_amends : (d : Scheduler) (b : Amendment) → Premise d → accepts (amends d b).answer.refusal ≡ false → (amends d b).scheduler ≡ d
refused_amends d b h a = ap (λ (r : Result). store r.model) (refused_amendment (view d) b a) ∙ sym h.stored
