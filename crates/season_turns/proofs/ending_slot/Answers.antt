-- `season_turns::ending_slot` meets its contract: among the slots looked at no job is over.
-- Assumes nothing.
use mathlib.Core.Path.{◌≡◌, refl, sym, ap, ◌∙◌}
use native.Mathlib.Omega.{arith}
use lib.ListN.{length, drop}
use Rattle.lists.specs.FirstLaws.{none_first, first_skip, first_here, first_done}
use Rattle.scheduler.specs.Jobs.{unused}
use Rattle.quiet_minutes.specs.QuietCount.{slots_whole}
use Rattle.season_turns.specs.UsedSlots.{rest_unused}
use Rattle.season_turns.specs.EndingSlot.{over_now}
use Rattle.season_turns.proofs.ending_slot.Goals.{At-loop-i}
use Rattle.season_turns.proofs.ending_slot.Goals as goal

whole : (c : At-loop-i) → length c.args.d.jobs ≡ 64
whole c = slots_whole c.args.d c.requires

pub loop-i-init : goal.loop-i-init
loop-i-init c = refl

-- past a slot that is not live nobody runs
pub returns-then-not-is_live : goal.returns-then-not-is_live
returns-then-not-is_live c =
    let d = c.args.d in
    let e = sym c.is_live.ensures ∙ c.if-not-is_live.true in
    record {
      found = λ h. absurd (omega arith);
      nowhere = λ h. c.loop-i.invariant ∙ none_first (over_now c.args.actuals.now d) (drop c.loop-i.i d.jobs) (λ j x. ap (over_now c.args.actuals.now d) (rest_unused d c.requires c.loop-i.i e j x));
    }

pub returns-then-ends_now : goal.returns-then-ends_now
returns-then-ends_now c =
    let e = c.at_ticket-actual.ensures in
    record {
      found = λ h. c.loop-i.invariant ∙ first_here unused _ c.args.d.jobs c.loop-i.i (omega (arith, whole (goal.at.returns-then-ends_now c).At-loop-i)) (rw (sym e) (sym c.ends_now.ensures ∙ c.if-ends_now.true));
      nowhere = λ h. absurd (omega arith);
    }

pub loop-i-preserved : goal.loop-i-preserved
loop-i-preserved c =
    let e = c.at_ticket-actual.ensures in
    c.loop-i.invariant ∙ first_skip unused _ c.args.d.jobs c.loop-i.i (omega (arith, whole (goal.at.loop-i-preserved c).At-loop-i)) (rw (sym e) (sym c.ends_now.ensures ∙ c.if-ends_now.false))

pub returns : goal.returns
returns c =
    record {
      found = λ h. absurd (omega (arith, c.loop-i-test.false));
      nowhere = λ h. c.loop-i.invariant ∙ first_done unused _ c.args.d.jobs c.loop-i.i (omega (arith, whole (goal.at.returns c).At-loop-i));
    }
