-- `easy_engine::sooner` meets its contract.
-- Assumes nothing.
use native.Mathlib.Omega.{arith}
use borrow.Author.Tests.{lt-ltb, le-ltb, le-leb, lt-leb}
use Rattle.easy_engine.proofs.sooner.Goals as goal

pub returns-then-nodes-avail_at : goal.returns-then-nodes-avail_at
returns-then-nodes-avail_at c =
    λ h. rw (lt-ltb _ _ c.if-end-best.true, ← c.avail_at.ensures h, le-leb c.args.nodes c.avail_at.result (omega arith))

pub returns-else-nodes-avail_at : goal.returns-else-nodes-avail_at
returns-else-nodes-avail_at c =
    λ h. rw (lt-ltb _ _ c.if-end-best.true, ← c.avail_at.ensures h, lt-leb c.args.nodes c.avail_at.result (omega arith))

pub returns-else-end-best : goal.returns-else-end-best
returns-else-end-best c = λ h. rw (le-ltb _ _ c.if-end-best.false)
