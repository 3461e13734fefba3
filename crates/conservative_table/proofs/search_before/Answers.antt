-- `conservative_table::search_before` meets its contract: before the start no minute before that of the place reached will do.
-- Assumes nothing.
use native.Mathlib.Omega.{arith}
use Rattle.conservative_table.specs.Search.{past_begin, skip_ends, past_last, skipped, reach_ends, past_reached, found_reached}
use Rattle.conservative_table.proofs.search_before.Goals as goal

pub skip-i-requires : goal.skip-i-requires
skip-i-requires c = skip_ends c.requires (past_begin c.requires)

pub loop-i-init : goal.loop-i-init
loop-i-init c = skipped c.requires (past_begin c.requires) c.skip-i.ensures

pub overflow_add-here : goal.overflow_add-here
overflow_add-here c =
    let s = c.requires in
    let l = c.loop-i in
    omega (arith, s.table.low l.i (l.invariant.past.inside s), s.hold_to)

pub reach-k-requires : goal.reach-k-requires
reach-k-requires c = rw c.min-until.ensures (reach_ends c.requires
    c.loop-i.invariant (omega arith))

pub returns-then-until-minutes : goal.returns-then-until-minutes
returns-then-until-minutes c =
    let e = c.min-until.ensures in
    found_reached c.requires
    c.loop-i.invariant (omega arith) (rw e at c.reach-k.ensures) (omega (arith, e))

pub skip-i-requires-in-loop-i : goal.skip-i-requires-in-loop-i
skip-i-requires-in-loop-i c =
    let e = c.min-until.ensures in
    let s = c.requires in
    skip_ends s (past_reached s c.loop-i.invariant (omega arith)
    (rw e at c.reach-k.ensures) (omega (arith, e)))

pub loop-i-preserved : goal.loop-i-preserved
loop-i-preserved c =
    let e = c.min-until.ensures in
    let s = c.requires in
    skipped s (past_reached s c.loop-i.invariant (omega arith)
    (rw e at c.reach-k.ensures) (omega (arith, e))) c.skip-i-in-loop-i.ensures

pub returns : goal.returns
returns c = past_last c.requires c.loop-i.invariant.past (omega arith)
