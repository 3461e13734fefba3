-- `conservative_columns::list_if_now` meets its contract.
-- Assumes nothing.
use borrow.Author.Tests.{eq-eqb, ne_eqb}
use Rattle.column_parts.specs.LeavingColumns.{list_one, list_none}
use Rattle.conservative_columns.proofs.list_if_now.Goals as goal

pub returns-then-start-clock : goal.returns-then-start-clock
returns-then-start-clock c = rw (eq-eqb _ _ c.if-start-clock.true) (list_one c.args.started.now c.args.ticket c.requires)

pub returns : goal.returns
returns c = rw (ne_eqb _ _ c.if-start-clock.false) (list_none c.args.started.now c.requires)
