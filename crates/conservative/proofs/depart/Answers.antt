-- `conservative::depart` meets its contract.
-- Assumes nothing.
use mathlib.Core.Path.{◌≡◌, sym, ap, ◌∙◌}
use mathlib.Core.Bool.{true}
use Rattle.scheduler.specs.Model.{view}
use Rattle.scheduler.specs.Answers.{accepts}
use Rattle.job_table.specs.declared.Part.{Part}
use Rattle.job_table.specs.Parts.{departing, part}
use Rattle.conservative.specs.Advance.{advanced_by}
use Rattle.conservative.specs.Depart.{departs_by, replannable_held, taken_held, refused_held}
use Rattle.conservative.proofs.depart.Goals.{After-leave-left}
use Rattle.conservative.proofs.depart.Goals.{else-is_none, then-is_none}
use Rattle.conservative.proofs.depart.Goals as goal

left_is : (c : After-leave-left) → c.leave-left.result ≡ part (departing (view c.args.d) c.args.how c.args.ticket)
left_is c = c.leave-left.ensures

pub replan_all-after-requires : goal.replan_all-after-requires
replan_all-after-requires c =
    let a : accepts (departing (view c.args.d) c.args.how c.args.ticket).refusal ≡ true = ap (λ (p : Part). accepts p.refusal) (sym (left_is (goal.at.replan_all-after-requires c).After-leave-left))
    ∙ sym c.is_none.ensures ∙ c.if-is_none.true in
    rw (left_is (goal.at.replan_all-after-requires c).After-leave-left) (replannable_held (view c.args.d) c.args.how c.args.ticket c.requires.holds a)

pub returns : goal.returns
returns c =
    let m = view c.args.d in
    let h = c.args.how in
    let t = c.args.ticket in
    let e = ap (λ (p : Part). accepts p.refusal) (sym (left_is (goal.at.returns c).After-leave-left)) ∙ sym c.is_none.ensures in
    c.advance.ensures
    ∙ elim c.if-is_none.branch [
      | then-is_none w ↦ rw w.after-is (ap (advanced_by c.leave-left.result) w.replan_all-after.ensures ∙ ap departs_by (left_is (goal.at.returns c).After-leave-left) ∙ taken_held m h t c.requires.holds (e ∙ w.if-is_none.true))
      | else-is_none w ↦ rw w.after-is (ap (λ (p : Part). advanced_by p p.scheduler) (left_is (goal.at.returns c).After-leave-left) ∙ refused_held m h t c.requires.holds (e ∙ w.if-is_none.false))
    ]
