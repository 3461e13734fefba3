-- `conservative::start_due` meets its contract: the slots passed are turned, and the tickets of those that start are listed.
-- Assumes nothing.
use mathlib.Core.Path.{refl, sym, ◌∙◌}
use Prim.Native.Nat.{◌<◌}
use native.Mathlib.Omega.{arith}
use Rattle.lists.specs.Pads.{pad}
use Rattle.job_table.proofs.Whole.{part_whole}
use Rattle.conservative.specs.Advance.{advanced_by}
use Rattle.conservative.specs.Tick.{slot_there, due_next, stays_next, starts_done}
use borrow.Author.Rules.{rules}
use Rattle.conservative.proofs.start_due.Goals.{else-starts_at, then-starts_at}
use Rattle.conservative.proofs.start_due.Goals as goal

pub loop-i-init : goal.loop-i-init
unfolding pad
loop-i-init c = record { low = search rules; few = search rules; scheduler_is = refl; count_is = refl; list_is = refl }

pub loop-i-preserved : goal.loop-i-preserved
loop-i-preserved c =
    let l = c.loop-i in
    let len = part_whole c.args.p c.well_formed.0 in
    let h : l.i < 64 = omega arith in
    let there = slot_there l.invariant len h in
    let e = c.starts_at.ensures in
    elim c.if-starts_at.branch [
      | then-starts_at w ↦ rw (w.e-is, w.list-is, w.n-is, w.place.ensures, there) (due_next l.invariant len h (rw there at (sym e ∙ w.if-starts_at.true)))
      | else-starts_at w ↦ rw (w.e-is, w.list-is, w.n-is) (stays_next l.invariant len h (rw there at (sym e ∙ w.if-starts_at.false)))
    ]

pub returns : goal.returns
unfolding advanced_by
returns c =
    let l = c.loop-i in
    let len = part_whole c.args.p c.well_formed.0 in
    let done = starts_done l.invariant len (omega arith) in
    rw c.refused.ensures (λ j. record {
      answer = record { refusal = c.args.p.refusal; ticket = 0; promise = 0; reads = 0; ended = c.args.p.ended; started = done.1 j; head = 0; forecast = 0 };
      scheduler = done.0 j;
    })
