-- `conservative_plan::take_turn` meets its contract: the job is sought for with itself in the plan, and moved if there is an earlier start.
-- Assumes nothing.
use native.Mathlib.Omega.{arith}
use Rattle.conservative_plan.specs.Replan.{asked_seeks, asked_moves, asked_low, found_low, turned_back, lifts, lays, turned}
use Rattle.conservative_plan.proofs.take_turn.Goals as goal

pub search_before-found-requires : goal.search_before-found-requires
search_before-found-requires c = asked_seeks c.requires

pub returns-then-to-start : goal.returns-then-to-start
returns-then-to-start c = λ a. turned_back a (asked_moves a c.search_before-found.ensures) c.if-to-start.true

pub span-before-requires : goal.span-before-requires
span-before-requires c = asked_low c.requires

pub lift-out-requires : goal.lift-out-requires
lift-out-requires c =
    let a = c.requires in
    rw c.span-before.ensures (lifts a (asked_moves a c.search_before-found.ensures))

pub span-after-requires : goal.span-after-requires
span-after-requires c =
    let a = c.requires in
    (omega (arith, found_low a (asked_moves a c.search_before-found.ensures), (asked_low a).0), (asked_low a).1)

pub lay-back-requires : goal.lay-back-requires
lay-back-requires c =
    let a = c.requires in
    rw c.span-after.ensures
    (lays a (asked_moves a c.search_before-found.ensures) c.if-to-start.false (rw c.span-before.ensures at c.lift-out.ensures))

pub returns : goal.returns
returns c =
    λ a.
    turned a (asked_moves a c.search_before-found.ensures) c.if-to-start.false
    (rw c.span-before.ensures at c.lift-out.ensures)
    (rw c.span-after.ensures at c.lay-back.ensures)
