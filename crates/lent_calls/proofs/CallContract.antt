-- What a call by value gives, the call on what is lent leaves (`LeavesOf`).
-- Assumes nothing.
use Rattle.std.specs.Prelude.{◌≡◌, false}
use Rattle.std.proofs.Common.{sym, ap, subst}
use Rattle.scheduler.specs.declared.Amendment.{Amendment}
use Rattle.scheduler.specs.declared.Outcome.{Outcome}
use Rattle.scheduler.specs.declared.Scheduler.{Scheduler}
use Rattle.scheduler.specs.Answers.{accepts}
use Rattle.history.specs.Calls.{Call}
use Rattle.guarantees.specs.Premise.{Premise, call_premise}
use Rattle.guarantees.specs.Chain.{gives}
use Rattle.amend_laws.specs.Sentences.{amended_premise}
use Rattle.calls.specs.AmendCall.{amends}
use Rattle.lent_calls.specs.CallContract.{LeavesOf, Leaves, LeavesAmended, refused_gives, refused_amends}

leaves_of : (d : Scheduler) (x o : Outcome) → Premise x.scheduler → (accepts x.answer.refusal ≡ false → x.scheduler ≡ d) → o ≡ x
    → LeavesOf d x o.answer o.scheduler
leaves_of d x o p r e = record {
  answers = ap (λ (y : Outcome). y.answer) e;
  leaves = ap (λ (y : Outcome). y.scheduler) e;
  premise = subst (λ (y : Outcome). Premise y.scheduler) (sym e) p;
  refused = subst (λ (y : Outcome). accepts y.answer.refusal ≡ false → y.scheduler ≡ d) (sym e) r;
}

pub leaves_given : (d : Scheduler) (c : Call) (o : Outcome) → Premise d → o ≡ gives d c → Leaves d c o.answer o.scheduler
leaves_given d c o h e = leaves_of d (gives d c) o (call_premise d c h) (refused_gives d c h) e

pub amended_given : (d : Scheduler) (b : Amendment) (o : Outcome) → Premise d → o ≡ amends d b → LeavesAmended d b o.answer o.scheduler
amended_given d b o h e = leaves_of d (amends d b) o (amended_premise d b h) (refused_amends d b h) e
