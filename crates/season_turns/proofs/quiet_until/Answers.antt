-- `season_turns::quiet_until` meets its contract: the minutes are quiet for the slots looked at.
-- Assumes nothing.
use mathlib.Core.Path.{◌≡◌, sym, ◌∙◌}
use native.Mathlib.Omega.{arith}
use lib.ListN.{length}
use Rattle.quiet_minutes.specs.QuietCount.{slots_whole, slot_ready}
use Rattle.season_turns.specs.UsedSlots.{in_front}
use Rattle.season_turns.specs.QuietSlots.{looked_none, looked_more, looked_front, looked_all}
use Rattle.season_turns.proofs.quiet_until.Goals.{At-loop-j}
use Rattle.season_turns.proofs.quiet_until.Goals as goal

whole : (c : At-loop-j) → length c.args.d.jobs ≡ 64
whole c = slots_whole c.args.d c.requires.0

pub loop-j-init : goal.loop-j-init
loop-j-init c = looked_none _ _ _ c.requires.1

pub quiet_of-quiet-requires : goal.quiet_of-quiet-requires
quiet_of-quiet-requires c =
    let r = slot_ready c.args.d c.requires.0 c.loop-j.j-index (omega (arith, whole (goal.at.quiet_of-quiet-requires c).At-loop-j)) in
    (r.0, r.1, c.loop-j.invariant.asked.from)

pub until_end-until-requires : goal.until_end-until-requires
until_end-until-requires c = c.quiet_of-quiet.ensures.0

pub loop-j-preserved : goal.loop-j-preserved
loop-j-preserved c =
    let q = c.quiet_of-quiet.ensures in
    let e = c.until_end-until.ensures in
    looked_more _ c.args.d _ _ _ _ c.loop-j.j-index (whole (goal.at.loop-j-preserved c).At-loop-j) (omega arith) c.loop-j.invariant e.0 e.1 q.1 q.2
    (rw (sym c.at_ticket-actual.ensures) e.2)

-- the live jobs have been looked at
pub returns-then-not-is_live : goal.returns-then-not-is_live
returns-then-not-is_live c =
    let d = c.args.d in
    looked_front _ d _ _ c.loop-j.j-index c.loop-j.invariant
    (in_front d c.requires.0 c.loop-j.j-index (sym c.is_live.ensures ∙ c.if-not-is_live.true))

pub returns : goal.returns
returns c =
    looked_all _ c.args.d _ _ c.loop-j.j-index c.loop-j.invariant (whole (goal.at.returns c).At-loop-j) (omega (arith, c.loop-j-test.false))
