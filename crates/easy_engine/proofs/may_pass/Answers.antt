-- `easy_engine::may_pass` meets its contract.
-- Assumes nothing.
use mathlib.Core.Path.{refl, sym}
use mathlib.Core.Bool.{true, false}
use lib.Dec.{leb}
use Rattle.scheduler.specs.Settings.{hold_time}
use borrow.Author.Tests.{le-leb, lt-leb}
use Rattle.easy_engine.specs.Searches.{or_true, or_false}
use Rattle.easy_engine.proofs.may_pass.Goals as goal

pub returns-then-spare-nodes : goal.returns-then-spare-nodes
returns-then-spare-nodes c = rw (lt-leb _ _ c.if-spare-nodes.true)

pub returns-then-nodes-extra : goal.returns-then-nodes-extra
returns-then-nodes-extra c =
    let a = c.args in
    rw (le-leb _ _ c.if-spare-nodes.false, le-leb _ _ c.if-nodes-extra.true) (sym (or_true (leb (hold_time a.settings a.estimate) a.room) true refl))

pub returns : goal.returns
returns c =
    let a = c.args in
    rw (c.hold_time.ensures, le-leb _ _ c.if-spare-nodes.false, lt-leb _ _ c.if-nodes-extra.false)
    (sym (or_false (leb (hold_time a.settings a.estimate) a.room) false refl))
