-- `easy_engine::avail_at` meets its contract. The invariant: the sum and what the jobs that are left have given back is the whole.
-- Assumes nothing.
use native.Mathlib.Omega.{arith}
use Rattle.easy_engine.specs.Shadows.{avail_first, avail_step, avail_done, avail_low}
use Rattle.easy_engine.proofs.avail_at.Goals as goal

pub loop-i-init : goal.loop-i-init
loop-i-init c = λ h. avail_first h.holding c.args.minute

pub overflow_add-sum : goal.overflow_add-sum
overflow_add-sum c =
    let l = c.loop-i in
    let h = c.requires in
    omega (
      arith,
      l.invariant h,
      avail_step h.holding c.args.minute l.i c.given-sum.result (omega arith) c.given-sum.ensures,
      avail_low h.holding c.args.minute,
    )

pub loop-i-preserved : goal.loop-i-preserved
loop-i-preserved c =
    let l = c.loop-i in
    λ h. omega (arith, l.invariant h, avail_step h.holding c.args.minute l.i c.given-sum.result (omega arith) c.given-sum.ensures)

pub returns : goal.returns
returns c =
    let l = c.loop-i in
    λ h. omega (arith, l.invariant h, avail_done h.holding c.args.minute l.i (omega arith))
