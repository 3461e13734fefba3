-- `easy_columns::finish` meets its contract: nothing is to be done, or the columns are settled.
-- Assumes nothing.
use native.Mathlib.Omega.{arith}
use mathlib.Core.Path.{refl, ap, ◌∙◌}
use Prim.Native.Nat.{◌≤◌}
use Rattle.scheduler.specs.Limits.{slots}
use Rattle.easy_engine.specs.Survey.{head_before}
use Rattle.easy_columns.specs.Finishing.{rests_finished}
use Rattle.easy_columns.proofs.finish.Goals.{Start}
use Rattle.easy_columns.proofs.finish.Goals as goal

-- there are slots for all
few : (c : Start) → c.args.columns.now.live ≤ slots
few c = omega (arith, c.requires.columns.core.live_is, c.requires.ready.sound.few)

pub leading-first-requires : goal.leading-first-requires
leading-first-requires c = few (goal.at.leading-first-requires c).Start

pub rests_at-requires : goal.rests_at-requires
rests_at-requires c = few (goal.at.rests_at-requires c).Start

pub returns-then-rests_at : goal.returns-then-rests_at
returns-then-rests_at c =
    record {
      retimed = refl;
      reasked = refl;
      finishes = λ u b q.
          let first = c.leading-first.ensures u.model u.ready.sound u.columns.queue.asked_are u.columns.core.tickets_are u.columns.core.live_is in
          let before = c.head_before-before.ensures ∙ ap (head_before _ _) first ∙ q in
          rests_finished u b
          (c.rests_at.ensures b u.model u.ready u.columns.queue.asked_are u.columns.core.live_is u.columns.held_by.holds.spare_is first
          before c.if-rests_at.true) _ _ _;
    }

pub returns : goal.returns
returns c =
    let s = c.settle.ensures in
    record {
      retimed = s.retimed;
      reasked = s.reasked;
      finishes = λ u b q.
          let first = c.leading-first.ensures u.model u.ready.sound u.columns.queue.asked_are u.columns.core.tickets_are u.columns.core.live_is in
          s.finishes u b (c.head_before-before.ensures ∙ ap (head_before _ _) first ∙ q);
    }
