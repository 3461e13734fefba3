-- `conservative_plan::tabulate_slots` meets its contract: the slots passed are laid over the idle machine.
-- Assumes nothing.
use Prim.Native.Nat.{◌<◌}
use native.Mathlib.Omega.{arith}
use mathlib.Core.Path.{sym, ◌∙◌}
use Rattle.conservative_plan.specs.PlannedSlots.{lay, laid_more, laid_unused}
use Rattle.conservative_plan.proofs.tabulate_slots.Goals.{else-is_live, then-is_live}
use Rattle.conservative_plan.proofs.tabulate_slots.Goals as goal

pub lay-count-requires : goal.lay-count-requires
lay-count-requires c =
    rw c.held_until.ensures
    (lay c.requires.0 {i = c.loop-job.job-index} (omega (arith, c.loop-job-test.true)) c.loop-job.invariant)

pub loop-job-preserved : goal.loop-job-preserved
loop-job-preserved c =
    let l = c.loop-job in
    let q = c.requires.0 in
    let h : l.job-index < 64 = omega arith in
    let e = c.is_live.ensures in
    elim c.if-is_live.branch [
      | then-is_live w ↦ rw (w.minutes-is, w.free-is, w.count-is) (laid_more q {i = l.job-index} h l.invariant (rw w.held_until.ensures at w.lay-count.ensures))
      | else-is_live w ↦ rw (w.minutes-is, w.free-is, w.count-is) (laid_unused q {i = l.job-index} h l.invariant (sym e ∙ w.if-is_live.false))
    ]
