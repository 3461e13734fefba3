-- `easy_engine::head_before` meets its contract.
-- Assumes nothing.
use borrow.Author.Tests.{eq-eqb, ne_eqb, lt-ltb, le-ltb}
use Rattle.easy_engine.proofs.head_before.Goals as goal

pub returns-then-first-ticket : goal.returns-then-first-ticket
returns-then-first-ticket c = rw (eq-eqb _ _ c.if-first-ticket.true)

pub returns-then-withdrawn-eq0 : goal.returns-then-withdrawn-eq0
returns-then-withdrawn-eq0 c = rw (ne_eqb _ _ c.if-first-ticket.false, eq-eqb _ _ c.if-withdrawn-eq0.true)

pub returns-then-withdrawn-first : goal.returns-then-withdrawn-first
returns-then-withdrawn-first c = rw (ne_eqb _ _ c.if-first-ticket.false, ne_eqb _ _ c.if-withdrawn-eq0.false, lt-ltb _ _ c.if-withdrawn-first.true)

pub returns : goal.returns
returns c = rw (ne_eqb _ _ c.if-first-ticket.false, ne_eqb _ _ c.if-withdrawn-eq0.false, le-ltb _ _ c.if-withdrawn-first.false)
