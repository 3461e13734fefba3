-- `job_columns::spread` meets its contract: the columns are those of the live jobs passed.
-- Assumes nothing.
use Prim.Native.Nat.{◌+◌}
use native.Mathlib.Omega.{arith}
use mathlib.Core.Path.{◌≡◌, refl, sym, ◌∙◌}
use lib.ListN.{get_or, take}
use Rattle.scheduler.specs.Jobs.{unused}
use Rattle.scheduler.specs.Model.{view}
use Rattle.scheduler.proofs.Lengths.{whole}
use Rattle.jobs.specs.Slots.{live_low, past_live, slots_low}
use Rattle.job_columns.specs.Gathering.{all_none, all_more, all_whole, slot_is}
use Rattle.job_columns.proofs.spread.Goals as goal

pub loop-i-init : goal.loop-i-init
loop-i-init c = (omega arith, all_none c.args.d.settings c.requires.1, refl)

pub append-requires : goal.append-requires
append-requires c =
    let l = c.loop-i in
    (omega (arith, l.invariant.2, c.loop-i-test.true), slots_low c.args.d c.requires.0 l.i (omega (arith, whole c.args.d c.well_formed.0)))

pub loop-i-preserved : goal.loop-i-preserved
loop-i-preserved c =
    let l = c.loop-i in
    let d = c.args.d in
    let h = live_low d c.requires.0 l.i (sym c.is_live.ensures ∙ c.if-not-is_live.false) in
    let more : c.append.new.self.live ≡ l.i + 1 = omega (arith, c.append.ensures.one_more, l.invariant.2) in (
      omega (arith, h),
      rw more (all_more (view d).jobs (rw l.invariant.2 at l.invariant.1) (get_or d.jobs l.i unused) h c.loop-i-test.true (slot_is d c.requires.0 l.i h)
          (rw (more, l.invariant.2) at (c.append.ensures.appended (take l.columns.live (view d).jobs) l.invariant.1.core))),
      more,
    )

pub returns : goal.returns
returns c =
    let l = c.loop-i in
    all_whole (view c.args.d).jobs l.invariant.1 (omega (arith, c.requires.0.holds.few, l.auto.i-end, l.invariant.2))

pub returns-then-not-is_live : goal.returns-then-not-is_live
returns-then-not-is_live c =
    let l = c.loop-i in
    all_whole (view c.args.d).jobs l.invariant.1
    (omega (arith, l.invariant.2, past_live c.args.d c.requires.0 l.i (sym c.is_live.ensures ∙ c.if-not-is_live.true)))
