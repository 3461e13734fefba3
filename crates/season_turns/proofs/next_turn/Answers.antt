-- `season_turns::next_turn` meets its contract.
-- Assumes nothing.
use borrow.Author.Tests.{lt-ltb, le-ltb}
use Rattle.season_turns.proofs.next_turn.Goals as goal

pub returns-then-ending-lt-LIVE : goal.returns-then-ending-lt-LIVE
returns-then-ending-lt-LIVE c = rw (lt-ltb _ 64 c.if-ending-lt-LIVE.true)

pub returns : goal.returns
returns c = rw (le-ltb _ _ c.if-ending-lt-LIVE.false) c.by_line.ensures
