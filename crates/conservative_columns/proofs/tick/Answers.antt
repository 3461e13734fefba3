-- `conservative_columns::tick` meets its contract: refused past the last minute, or who leaves is taken out, those that are due start, and the
-- points move with the clock.
-- Assumes nothing.
use mathlib.Core.Path.{refl}
use Rattle.conservative_columns.specs.ConservativeColumns.{few_live, refused_answer_lem}
use Rattle.conservative_columns.specs.Tick.{tick_refused, minute_columns_of, advancing, starting, ticked_answer}
use Rattle.conservative_columns.proofs.tick.Goals as goal

pub returns-then-clock-ge-HORIZON : goal.returns-then-clock-ge-HORIZON
returns-then-clock-ge-HORIZON c =
    λ k. (
      rw c.refused.ensures
          (refused_answer_lem k _ _ c.args.ended.now c.args.started.now c.requires.1 c.requires.3 (tick_refused k c.if-clock-ge-HORIZON.true)),
      c.requires.2,
    )

pub expire-e-requires : goal.expire-e-requires
expire-e-requires c =
    (minute_columns_of c.requires.0 c.if-clock-ge-HORIZON.false refl c.cleanup-cleanup.ensures, c.requires.1, c.requires.2)

pub shift_own-requires : goal.shift_own-requires
shift_own-requires c =
    let k = c.requires.0 in
    let v = c.expire-e.ensures (minute_columns_of k c.if-clock-ge-HORIZON.false refl c.cleanup-cleanup.ensures) in
    (few_live k, v.gone_are.fewer, v.gone_whole, v.gone_are.places)

pub start_due-begun-requires : goal.start_due-begun-requires
start_due-begun-requires c =
    let k = c.requires.0 in
    let h = c.if-clock-ge-HORIZON.false in
    let q = c.cleanup-cleanup.ensures in (
      starting k h refl q (c.expire-e.ensures (minute_columns_of k h refl q)) c.shift_own.ensures.0 c.shift_own.ensures.1,
      c.requires.3,
    )

pub advance-profile-requires : goal.advance-profile-requires
advance-profile-requires c =
    let k = c.requires.0 in
    (advancing k c.if-clock-ge-HORIZON.false refl c.cleanup-cleanup.ensures, k.columns.beside.indexed)

pub returns : goal.returns
returns c =
    λ k.
    let h = c.if-clock-ge-HORIZON.false in
    let q = c.cleanup-cleanup.ensures in
    let v = c.expire-e.ensures (minute_columns_of k h refl q) in (
      rw c.start_due-begun.ensures.retimed (ticked_answer k h refl q v c.shift_own.ensures.0 c.shift_own.ensures.1
          (c.start_due-begun.ensures.started (starting k h refl q v c.shift_own.ensures.0 c.shift_own.ensures.1)) c.advance-profile.ensures),
      v.gone_whole,
    )
