-- `plan_acceptance::Survey::of` meets its contract. The invariant: the lists have the jobs of the first slots that the plan has.
-- Assumes nothing.
use native.Mathlib.Omega.{arith}
use mathlib.Core.Path.{refl, sym, ◌∙◌}
use Rattle.scheduler.proofs.Lengths.{whole}
use Rattle.easy_engine.specs.SurveyLoop.{blank}
use Rattle.plan_acceptance.specs.Plan.{slot_in, plan_skips, plan_takes, plan_all}
use Rattle.plan_acceptance.proofs.Survey.of.Goals.{else-is_planned, then-is_planned}
use Rattle.plan_acceptance.proofs.Survey.of.Goals as goal

pub loop-j-init : goal.loop-j-init
loop-j-init c =
    (omega arith, record { held_is = blank; froms_are = blank; untils_are = blank; count_is = refl })

pub free_from-requires : goal.free_from-requires
free_from-requires c =
    let l = c.loop-j in
    let d = c.args.d in
    c.requires _ (slot_in d l.j-index (omega (arith, whole d c.well_formed.0)) (sym c.is_planned.ensures ∙ c.if-is_planned.true))

pub loop-j-preserved : goal.loop-j-preserved
loop-j-preserved c =
    let l = c.loop-j in
    let d = c.args.d in
    let len = whole d c.well_formed.0 in
    let e = c.is_planned.ensures in
    elim c.if-is_planned.branch [
      | then-is_planned x ↦ rw (x.held-is, x.froms-is, x.untils-is, x.count-is)
          (omega arith, plan_takes d l.j-index l.invariant.1 len (omega arith) (sym e ∙ x.if-is_planned.true) _ _ _ refl refl x.free_from.ensures)
      | else-is_planned x ↦ rw (x.held-is, x.froms-is, x.untils-is, x.count-is)
          (omega arith, plan_skips d l.j-index l.invariant.1 len (omega arith) (sym e ∙ x.if-is_planned.false))
    ]

pub returns : goal.returns
returns c =
    let l = c.loop-j in
    plan_all c.args.d l.j-index l.invariant.1 (whole c.args.d c.well_formed.0) (omega arith)
