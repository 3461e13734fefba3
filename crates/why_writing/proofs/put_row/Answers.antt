-- `why_writing::put_row` meets its contract: a holder, or nothing.
-- Assumes nothing.
use borrow.Author.Tests.{lt-ltb, le-ltb, le-leb, lt-leb}
use Rattle.why_writing.specs.ExactText.{writes_none}
use Rattle.why_writing.proofs.put_row.Goals as goal

pub returns-then-minute-from : goal.returns-then-minute-from
returns-then-minute-from c = rw (lt-leb _ _ c.if-minute-from.true) (writes_none _ _)

pub put_pair-requires : goal.put_pair-requires
put_pair-requires c =
    rw (le-leb _ _ c.if-minute-from.false, lt-ltb _ _ c.if-minute-until.true) at c.requires

pub returns-then-minute-until : goal.returns-then-minute-until
returns-then-minute-until c =
    rw (le-leb _ _ c.if-minute-from.false, lt-ltb _ _ c.if-minute-until.true) c.put_pair.ensures

pub returns : goal.returns
returns c = rw (le-leb _ _ c.if-minute-from.false, le-ltb _ _ c.if-minute-until.false) (writes_none _ _)
