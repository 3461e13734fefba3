-- `conservative_amending::amend` meets its contract.
-- Assumes nothing.
use Prim.Native.Nat.{ℕ}
use mathlib.Core.Path.{◌≡◌, sym, ap, ◌∙◌}
use mathlib.Core.Bool.{Bool}
use Rattle.scheduler.specs.Model.{view}
use Rattle.scheduler.specs.Answers.{accepts, refused_outcome}
use Rattle.scheduler.specs.Amending.{named, kept_promise}
use Rattle.jobs.specs.Premise.{refused_held}
use Rattle.job_table.specs.declared.Part.{Part}
use Rattle.job_table.specs.Parts.{part}
use Rattle.conservative_laws.specs.Validity.{Valid}
use Rattle.conservative.specs.Advance.{advanced_by}
use Rattle.conservative.specs.Depart.{departs_by}
use Rattle.amending.specs.Ways.{superseding}
use Rattle.conservative_amending.specs.Amend.{answering, replannable_held, taken_held, refused_is}
use Rattle.conservative_amending.proofs.amend.Goals.{After-is_none, After-supersede-left}
use Rattle.conservative_amending.proofs.amend.Goals as goal

left_is : (c : After-supersede-left) → c.supersede-left.result ≡ part (superseding (view c.args.d) c.args.a)
left_is c = c.supersede-left.ensures

-- whether it is refused
judged : (v : After-is_none) (b : Bool) → v.is_none.result ≡ b → accepts (superseding (view v.args.d) v.args.a).refusal ≡ b
judged v b r = ap (λ (p : Part). accepts p.refusal) (sym (left_is v.before)) ∙ sym v.is_none.ensures ∙ r

pub replan_all-after-requires : goal.replan_all-after-requires
replan_all-after-requires c =
    rw (left_is (goal.at.replan_all-after-requires c).After-supersede-left) (replannable_held (view c.args.d) c.args.a c.requires.holds (judged (goal.at.replan_all-after-requires c).After-is_none _ c.if-not-is_none.false))

pub returns : goal.returns
returns c =
    let a = c.args.a in
    let m = view c.args.d in
    c.answering.ensures
    ∙ ap (λ (n : ℕ). answering a.ticket n c.advance.result) c.kept_promise-promise.ensures
    ∙ ap (answering a.ticket (kept_promise (named m a)))
    (c.advance.ensures ∙ ap (advanced_by c.supersede-left.result) c.replan_all-after.ensures ∙ ap departs_by (left_is (goal.at.returns c).After-supersede-left))
    ∙ taken_held m a c.requires.holds (judged (goal.at.returns c).After-is_none _ c.if-not-is_none.false)

pub returns-then-not-is_none : goal.returns-then-not-is_none
returns-then-not-is_none c =
    let a = c.args.a in
    let d = c.args.d in
    c.refused.ensures
    ∙ ap (λ (p : Part). refused_outcome d p.refusal) (left_is (goal.at.returns-then-not-is_none c).After-supersede-left)
    ∙ refused_held Valid d _ c.requires
    ∙ refused_is (view d) a (judged (goal.at.returns-then-not-is_none c).After-is_none _ c.if-not-is_none.true)
