-- `easy_columns::close_up` meets its contract.
-- Assumes nothing.
use Rattle.easy_columns.specs.EasyLeave.{queue_nobody, queue_left}
use Rattle.easy_columns.proofs.close_up.Goals as goal

pub returns-then-left-live : goal.returns-then-left-live
returns-then-left-live c =
    let a = c.shift_all in
    let b = c.shift_all-then-left-live in
    λ S s js minute g n q. queue_left g minute q n a.ensures b.ensures c.shift_all-then-left-live-2.ensures c.shift_all-then-left-live-3.ensures

pub returns-else-left-live : goal.returns-else-left-live
returns-else-left-live c = λ S s js minute g n q. queue_nobody g minute q c.if-left-live.false
