-- `earliest::survey` meets its contract. The invariant: the lists have the jobs of the first slots that hold nodes.
-- Assumes nothing.
use native.Mathlib.Omega.{arith}
use mathlib.Core.Path.{refl, sym, ◌∙◌}
use Rattle.scheduler.proofs.Lengths.{whole}
use Rattle.jobs.specs.Slots.{slots_low}
use Rattle.easy_engine.specs.SurveyLoop.{blank}
use Rattle.earliest.specs.Survey.{clock_low, skips_next, room_for, holds_next, surveyed}
use Rattle.earliest.proofs.survey.Goals.{then-is_holding, else-is_holding}
use Rattle.earliest.proofs.survey.Goals as goal

pub loop-j-init : goal.loop-j-init
loop-j-init c =
    (omega arith, record { running_is = refl; held_is = blank; ends_are = blank; spare_is = omega arith })

pub released-requires : goal.released-requires
released-requires c =
    let l = c.loop-j in (
      slots_low c.args.d c.requires l.j-index (omega (arith, whole c.args.d c.well_formed.0)),
      clock_low c.args.d c.requires,
      sym c.is_holding.ensures ∙ c.if-is_holding.true,
    )

pub overflow_sub-spare : goal.overflow_sub-spare
overflow_sub-spare c =
    let l = c.loop-j in
    room_for c.requires l.j-index l.invariant.1 (omega arith) (whole c.args.d c.well_formed.0) (sym c.is_holding.ensures ∙ c.if-is_holding.true)

pub loop-j-preserved : goal.loop-j-preserved
loop-j-preserved c =
    let l = c.loop-j in
    let d = c.args.d in
    let len = whole d c.well_formed.0 in
    let e = c.is_holding.ensures in
    elim c.if-is_holding.branch [
      | then-is_holding x ↦
          rw (x.held-is, x.ends-is, x.running-is, x.spare-is)
          (omega arith, holds_next c.requires l.j-index l.invariant.1 (omega arith) len (sym e ∙ x.if-is_holding.true) _ _ refl x.released.ensures)
      | else-is_holding x ↦
          rw (x.held-is, x.ends-is, x.running-is, x.spare-is)
          (omega arith, skips_next c.requires l.j-index l.invariant.1 (omega arith) len (sym e ∙ x.if-is_holding.false))
    ]

pub returns : goal.returns
returns c =
    let l = c.loop-j in
    surveyed c.args.d c.requires (whole c.args.d c.well_formed.0) l.j-index (omega arith) l.invariant.1
