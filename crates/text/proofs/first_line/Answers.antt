-- `text::first_line` meets its contract: a text too long, none, and its first line.
-- Assumes nothing.
use borrow.Author.Tests.{lt-ltb, le-ltb}
use Rattle.text.specs.Lines.{begins_of}
use Rattle.text.proofs.first_line.Goals as goal

pub returns-then-longest-text : goal.returns-then-longest-text
unfolding begins_of
returns-then-longest-text c = rw (lt-ltb _ _ c.if-longest-text.true)

pub returns-then-text-lt1 : goal.returns-then-text-lt1
unfolding begins_of
returns-then-text-lt1 c = rw (le-ltb _ _ c.if-longest-text.false, lt-ltb _ _ c.if-text-lt1.true)

pub returns-then-line : goal.returns-then-line
unfolding begins_of
returns-then-line c =
    rw (
      le-ltb _ _ c.if-longest-text.false,
      le-ltb _ _ c.if-text-lt1.false,
      ← c.next_line-line.ensures,
      c.if-line.true,
    )

pub returns : goal.returns
unfolding begins_of
returns c =
    rw (
      le-ltb _ _ c.if-longest-text.false,
      le-ltb _ _ c.if-text-lt1.false,
      ← c.next_line-line.ensures,
      c.if-line.false,
    )
