-- `easy_engine::given` meets its contract.
-- Assumes nothing.
use native.Mathlib.Omega.{arith}
use borrow.Author.Tests.{le-leb, lt-leb}
use Rattle.easy_engine.proofs.given.Goals as goal

pub returns-then-end-minute : goal.returns-then-end-minute
returns-then-end-minute c = let a = c.args in rw (le-leb a.end a.minute (omega arith))

pub returns : goal.returns
returns c = let a = c.args in rw (lt-leb a.end a.minute (omega arith))
