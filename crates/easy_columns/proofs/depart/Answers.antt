-- `easy_columns::depart` meets its contract: it is refused, or the job leaves, its nodes are given back, and the columns are settled.
-- Assumes nothing.
use mathlib.Core.Path.{◌≡◌, sym, ◌∙◌}
use mathlib.Core.Bool.{true}
use Rattle.scheduler.specs.declared.Select.TheVariants as select
use Rattle.scheduler.specs.Answers.{accepts}
use Rattle.easy_columns.specs.EasyDepart.{sound_columns, live_low, depart_turned, gone_are, leaver, departed, depart_before, depart_gives}
use Rattle.easy_columns.proofs.depart.Goals.{Then-is_none}
use Rattle.easy_columns.proofs.depart.Goals as goal

-- it is not refused
taken : (c : Then-is_none) → accepts c.leave-left.result.refusal ≡ true
taken c = sym c.is_none.ensures ∙ c.if-is_none.true

pub leave-left-requires : goal.leave-left-requires
leave-left-requires c = (sound_columns c.requires.0, c.requires.1, c.requires.2)

pub close_up-requires : goal.close_up-requires
close_up-requires c =
    let k = c.requires.0 in
    let l = c.leave-left.ensures (sound_columns k) in
    let n = gone_are k l (taken (goal.at.close_up-requires c).Then-is_none) in
    (live_low k, n.fewer, l.gone_whole, n.places)

pub give_back-requires : goal.give_back-requires
give_back-requires c =
    let k = c.requires.0 in
    leaver k (c.leave-left.ensures (sound_columns k)) (taken (goal.at.give_back-requires c).Then-is_none) _ c.cleanup.ensures

pub finish-requires : goal.finish-requires
finish-requires c =
    let k = c.requires.0 in
    let l = c.leave-left.ensures (sound_columns k) in
    departed k l (taken (goal.at.finish-requires c).Then-is_none)
    (c.close_up.ensures k.model.settings (select.Departing c.args.how c.args.ticket) k.model.jobs k.model.clock (gone_are k l (taken (goal.at.finish-requires c).Then-is_none))
    k.columns.core.live_is k.columns.queue)
    (c.give_back.ensures (leaver k l (taken (goal.at.finish-requires c).Then-is_none) _ c.cleanup.ensures)) c.requires.3

pub returns-then-is_none : goal.returns-then-is_none
returns-then-is_none c =
    λ k. let l = c.leave-left.ensures (sound_columns k) in (
      rw (c.finish.ensures.retimed, c.finish.ensures.reasked) (depart_gives k l (taken (goal.at.returns-then-is_none c).Then-is_none)
          (c.finish.ensures.finishes
          (departed k l (taken (goal.at.returns-then-is_none c).Then-is_none)
          (c.close_up.ensures k.model.settings (select.Departing c.args.how c.args.ticket) k.model.jobs k.model.clock
          (gone_are k l (taken (goal.at.returns-then-is_none c).Then-is_none)) k.columns.core.live_is k.columns.queue)
          (c.give_back.ensures (leaver k l (taken (goal.at.returns-then-is_none c).Then-is_none) _ c.cleanup.ensures)) c.requires.3) k.model (depart_before k l (taken (goal.at.returns-then-is_none c).Then-is_none)))),
      l.gone_whole,
    )

pub returns : goal.returns
returns c =
    λ k. let l = c.leave-left.ensures (sound_columns k) in
    (rw c.refused.ensures (depart_turned k l (sym c.is_none.ensures ∙ c.if-is_none.false) c.requires.3), l.gone_whole)
