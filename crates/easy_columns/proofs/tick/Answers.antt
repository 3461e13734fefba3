-- `easy_columns::tick` meets its contract: it is refused, or runs end, nodes are free again, and the columns are settled.
-- Assumes nothing.
use Prim.Native.Nat.{suc}
use Rattle.scheduler.specs.Model.{ending}
use Rattle.easy_columns.specs.EasyDepart.{live_low}
use Rattle.easy_columns.specs.EasyTick.{tick_turned, minute_columns_of, sift, holders_left, ticked, tick_before, tick_gives}
use Rattle.easy_columns.proofs.tick.Goals as goal

pub returns-then-clock-ge-HORIZON : goal.returns-then-clock-ge-HORIZON
returns-then-clock-ge-HORIZON c =
    λ k. (rw c.refused.ensures (tick_turned k c.if-clock-ge-HORIZON.true c.requires.1 c.requires.3), c.requires.2)

pub expire-over-requires : goal.expire-over-requires
expire-over-requires c =
    let p = c.requires in
    (minute_columns_of p.0 c.if-clock-ge-HORIZON.false _ c.cleanup.ensures, p.1, p.2)

pub close_up-requires : goal.close_up-requires
close_up-requires c =
    let k = c.requires.0 in
    let x = c.expire-over.ensures (minute_columns_of k c.if-clock-ge-HORIZON.false _ c.cleanup.ensures) in
    (live_low k, x.gone_are.fewer, x.gone_whole, x.gone_are.places)

pub release-requires : goal.release-requires
release-requires c =
    sift c.requires.0 c.if-clock-ge-HORIZON.false

pub finish-requires : goal.finish-requires
finish-requires c =
    let p = c.requires in
    let k = p.0 in
    let l = c.if-clock-ge-HORIZON.false in
    let x = c.expire-over.ensures (minute_columns_of k l _ c.cleanup.ensures) in
    ticked k l x
    (c.close_up.ensures k.model.settings (ending k.model) k.model.jobs (suc k.model.clock) x.gone_are k.columns.core.live_is
    k.columns.queue)
    (holders_left k l (c.release.ensures (sift k l))) p.3

pub returns : goal.returns
returns c =
    let l = c.if-clock-ge-HORIZON.false in
    λ k. let x = c.expire-over.ensures (minute_columns_of k l _ c.cleanup.ensures) in (
      rw (c.finish.ensures.retimed, c.finish.ensures.reasked) (tick_gives k l x
          (c.finish.ensures.finishes
          (ticked k l x
          (c.close_up.ensures k.model.settings (ending k.model) k.model.jobs (suc k.model.clock) x.gone_are k.columns.core.live_is
          k.columns.queue)
          (holders_left k l (c.release.ensures (sift k l))) c.requires.3) k.model (tick_before k l x))),
      x.gone_whole,
    )
