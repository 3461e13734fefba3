-- `conservative_table::lay_at` meets its contract: the end of the span gets a place, what lies between is changed, and a place at which nothing
-- changes leaves.
-- Assumes nothing.
use native.Mathlib.Omega.{arith}
use Rattle.conservative_table.specs.LaidSpans.{lay_adjustable, order, begin_inside, laid_at}
use Rattle.conservative_table.proofs.lay_at.Goals as goal

pub adjust-requires : goal.adjust-requires
adjust-requires c =
    let s = c.split_at-end.ensures in
    (lay_adjustable c.requires s, omega (arith, order c.requires s))

pub join-requires : goal.join-requires
join-requires c =
    begin_inside c.requires c.split_at-end.ensures c.adjust.ensures c.join-later.ensures

pub returns : goal.returns
returns c = λ l.
    laid_at l c.split_at-end.ensures c.adjust.ensures c.join-later.ensures c.join.ensures
