-- `status_page::put_start` meets its contract.
-- Assumes nothing.
use borrow.Author.Rules.{rules}
use Rattle.status_page.proofs.put_start.Goals as goal

pub put_promised-requires : goal.put_promised-requires
put_promised-requires c =
    (rw c.if-waits.true at c.requires.0, search rules)

pub returns-then-waits : goal.returns-then-waits
returns-then-waits c = rw c.if-waits.true c.put_promised.ensures

pub put_number_right-requires : goal.put_number_right-requires
put_number_right-requires c =
    ((rw c.if-waits.false at c.requires.0).within, search rules)

pub returns : goal.returns
returns c = rw c.if-waits.false c.put_number_right.ensures
