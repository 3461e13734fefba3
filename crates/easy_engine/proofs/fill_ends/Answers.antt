-- `easy_engine::fill_ends` meets its contract. The invariant: the places passed have the minutes until which nodes are held, the others those
-- from which.
-- Assumes nothing.
use Prim.Native.Nat.{◌<◌}
use native.Mathlib.Omega.{arith}
use mathlib.Core.Path.{◌≡◌, ap, ◌∙◌}
use lib.ListN.{length, get_or}
use Rattle.lists.specs.Lists.{in_getD}
use Rattle.lists.specs.Pads.{pad}
use Rattle.scheduler.specs.Limits.{slots}
use Rattle.scheduler.specs.Times.{hold_le}
use Rattle.scheduler.specs.Jobs.{unused}
use Rattle.easy_engine.specs.Survey.{from_of, term_of}
use Rattle.job_columns.specs.Columns.{column_at}
use Rattle.easy_engine.specs.SurveyLoop.{until_from, from_there, fill_next, fill_done}
use Rattle.easy_engine.proofs.fill_ends.Goals as goal

pub loop-i-init : goal.loop-i-init
loop-i-init c = λ s. s.starts_are

pub overflow_add-ends : goal.overflow_add-ends
overflow_add-ends c =
    let l = c.loop-i in
    let p = c.requires in
    let h : l.i < length p.jobs = omega (arith, p.count_is) in
    let e : get_or l.ends l.i 0 ≡ from_of (get_or p.jobs l.i unused) =
    ap (λ ns. get_or ns l.i 0) (l.invariant p) ∙ from_there c.args.settings p.jobs l.i h in
    omega (
      arith,
      c.hold_time.ensures,
      hold_le c.args.settings (get_or c.args.terms.now l.i 0),
      p.low (get_or p.jobs l.i unused) (in_getD p.jobs l.i unused h),
    )

pub loop-i-preserved : goal.loop-i-preserved
loop-i-preserved c =
    let l = c.loop-i in
    λ p.
    let h : l.i < length p.jobs = omega (arith, p.count_is) in
    rw (
      l.invariant p,
      from_there c.args.settings p.jobs l.i h,
      c.hold_time.ensures,
      column_at term_of p.jobs c.args.terms.now p.terms_are unused l.i h,
      ← until_from c.args.settings (get_or p.jobs l.i unused),
    ) (fill_next c.args.settings p.jobs l.i h)

pub returns : goal.returns
returns c =
    let l = c.loop-i in
    λ p. l.invariant p ∙ ap (pad slots 0) (fill_done c.args.settings p.jobs l.i (omega (arith, p.count_is)))
