-- `calls::resubmit` meets its contract: the withdrawal, and the submission on what it leaves.
-- Assumes nothing.
use mathlib.Core.Path.{refl, sym, ap, ◌∙◌}
use Rattle.scheduler.specs.declared.Outcome.{Outcome}
use Rattle.scheduler.specs.Answers.{accepts, refused_outcome}
use Rattle.history.specs.Calls as calls
use Rattle.guarantees.specs.Premise.{call_held}
use Rattle.calls.specs.AmendCall.{submitted_on, both_replies, amend_anew, anew_refused}
use Rattle.calls.proofs.resubmit.Goals as goal

pub submit-taken-requires : goal.submit-taken-requires
submit-taken-requires c = call_held c.args.d (calls.cancel c.args.a.ticket) _ c.requires.0 c.cancel-withdrawn.ensures

pub both-requires : goal.both-requires
both-requires c =
    let q = submitted_on c.args.d c.args.a c.requires.0 c.args.s c.requires.1 _ _ c.cancel-withdrawn.ensures c.submit-taken.ensures in
    both_replies c.args.d c.args.a c.requires.0 c.args.s c.requires.1 _ _ c.cancel-withdrawn.ensures q
    (sym (ap (λ (o : Outcome). accepts o.answer.refusal) q) ∙ sym c.is_none.ensures ∙ c.if-is_none.true)

pub returns-then-is_none : goal.returns-then-is_none
returns-then-is_none c =
    let q = submitted_on c.args.d c.args.a c.requires.0 c.args.s c.requires.1 _ _ c.cancel-withdrawn.ensures c.submit-taken.ensures in
    let x = sym (ap (λ (o : Outcome). accepts o.answer.refusal) q) ∙ sym c.is_none.ensures ∙ c.if-is_none.true in
    amend_anew c.args.d c.args.a c.requires.0 c.args.s c.requires.1 _ _ _ q x
    (c.both.ensures (both_replies c.args.d c.args.a c.requires.0 c.args.s c.requires.1 _ _ c.cancel-withdrawn.ensures q x)) refl

pub returns : goal.returns
returns c =
    let q = submitted_on c.args.d c.args.a c.requires.0 c.args.s c.requires.1 _ _ c.cancel-withdrawn.ensures c.submit-taken.ensures in
    let x = sym (ap (λ (o : Outcome). accepts o.answer.refusal) q) ∙ sym c.is_none.ensures ∙ c.if-is_none.false in
    anew_refused c.args.d c.args.a c.requires.0 c.args.s c.requires.1 _ x
    (c.refused.ensures ∙ ap (λ (o : Outcome). refused_outcome c.args.d o.answer.refusal) q)
