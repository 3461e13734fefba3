-- `conservative_table::change` meets its contract: the begin of the span gets a place, and it is laid from there.
-- Assumes nothing.
use native.Mathlib.Omega.{arith}
use Rattle.conservative_table.specs.LaidSpans.{laid_none, lays_at, laid_from}
use Rattle.conservative_table.proofs.change.Goals as goal

pub returns-then-x-from : goal.returns-then-x-from
returns-then-x-from c = λ l. laid_none l (omega (arith, c.max-from.ensures, c.if-x-from.true))

pub lay_at-rest-requires : goal.lay_at-rest-requires
lay_at-rest-requires c = lays_at c.requires c.max-from.ensures (omega (arith, c.if-x-from.false)) c.split-begin.ensures

pub returns : goal.returns
returns c = λ l. laid_from l c.max-from.ensures (omega (arith, c.if-x-from.false)) c.split-begin.ensures c.lay_at-rest.ensures
