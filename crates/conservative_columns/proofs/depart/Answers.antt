-- `conservative_columns::depart` meets its contract: refused, or the job leaves every column, and whoever waits moves up.
-- Assumes nothing.
use mathlib.Core.Path.{◌≡◌, sym, ◌∙◌}
use mathlib.Core.Bool.{true}
use native.Mathlib.Omega.{arith}
use lib.ListN.{get_or}
use Rattle.scheduler.specs.Times.{cleanup_le}
use Rattle.scheduler.specs.Jobs.{unused}
use Rattle.scheduler.specs.Answers.{accepts}
use Rattle.conservative_kept.specs.Depart.{freed}
use Rattle.conservative_columns.specs.Held.{KeptIn}
use Rattle.conservative_columns.specs.ConservativeColumns.{few_live}
use Rattle.conservative_columns.specs.Depart.{sound_columns, clock_low, back_low, back_is, Leaver, leaver, left_refused, not_refused, gone_are, moves_up}
use Rattle.conservative_columns.specs.Depart.{departed_answer}
use Rattle.conservative_columns.proofs.depart.Goals.{Else-not-is_none}
use Rattle.conservative_columns.proofs.depart.Goals as goal

-- nothing refuses it
accepted : (c : Else-not-is_none) → accepts c.leave-left.result.refusal ≡ true
accepted c = sym c.is_none.ensures ∙ c.if-not-is_none.false

-- who leaves
who : (c : Else-not-is_none) (k : let a = c.args in KeptIn a.settings a.clock a.next a.columns.now a.promised.now a.profile.now) → Leaver k c.args.how c.args.ticket c.find-at.result
who c k =
    leaver k c.args.how c.args.ticket c.find-at.result
    (c.find-at.ensures k.model.jobs k.columns.core.tickets_are k.valid.sound.asc k.columns.core.live_is)
    (not_refused k c.args.how c.args.ticket (c.leave-left.ensures (sound_columns k)) (accepted c))

-- what it gives back
back : (c : Else-not-is_none) (k : let a = c.args in KeptIn a.settings a.clock a.next a.columns.now a.promised.now a.profile.now) → c.freed-x.result ≡ freed k.model.settings k.model.clock c.args.how (get_or k.model.jobs c.find-at.result unused)
back c k =
    let w = who c k in
    c.freed-x.ensures w.low ∙ back_is k w.low c.args.how c.cleanup-cleanup.result c.cleanup-cleanup.ensures

pub find-at-requires : goal.find-at-requires
find-at-requires c = few_live c.requires.0

pub freed-x-requires : goal.freed-x-requires
freed-x-requires c =
    let k = c.requires.0 in (
      few_live k,
      clock_low k,
      omega (arith, c.cleanup-cleanup.ensures, cleanup_le c.args.settings),
      λ l. back_low k l,
    )

pub leave-left-requires : goal.leave-left-requires
leave-left-requires c = (sound_columns c.requires.0, c.requires.1, c.requires.2)

pub returns-then-not-is_none : goal.returns-then-not-is_none
returns-then-not-is_none c =
    λ k.
    let v = c.leave-left.ensures (sound_columns k) in (
      rw c.refused.ensures
          (left_refused k c.args.how c.args.ticket v (sym c.is_none.ensures ∙ c.if-not-is_none.true)
          c.args.started.now c.requires.3),
      v.gone_whole,
    )

pub shift_own-requires : goal.shift_own-requires
shift_own-requires c =
    let k = c.requires.0 in
    let v = c.leave-left.ensures (sound_columns k) in
    let g = gone_are k c.args.how c.args.ticket v (accepted (goal.at.shift_own-requires c).Else-not-is_none) in
    (few_live k, g.fewer, v.gone_whole, g.places)

pub move_up-begun-requires : goal.move_up-begun-requires
move_up-begun-requires c =
    let k = c.requires.0 in (
      moves_up k c.args.how c.args.ticket (c.leave-left.ensures (sound_columns k)) (accepted (goal.at.move_up-begun-requires c).Else-not-is_none) c.shift_own.ensures.0 c.shift_own.ensures.1 (who (goal.at.move_up-begun-requires c).Else-not-is_none k)
          (back (goal.at.move_up-begun-requires c).Else-not-is_none k) c.cleanup-cleanup.ensures,
      c.requires.3,
    )

pub returns : goal.returns
returns c =
    λ k.
    let v = c.leave-left.ensures (sound_columns k) in (
      rw c.move_up-begun.ensures.retimed (departed_answer k c.args.how c.args.ticket v (accepted (goal.at.returns c).Else-not-is_none) c.shift_own.ensures.0 c.shift_own.ensures.1 (who (goal.at.returns c).Else-not-is_none k) (back (goal.at.returns c).Else-not-is_none k)
          c.cleanup-cleanup.ensures
          (c.move_up-begun.ensures.moved
          (moves_up k c.args.how c.args.ticket v (accepted (goal.at.returns c).Else-not-is_none) c.shift_own.ensures.0 c.shift_own.ensures.1 (who (goal.at.returns c).Else-not-is_none k) (back (goal.at.returns c).Else-not-is_none k)
          c.cleanup-cleanup.ensures))),
      v.gone_whole,
    )
