-- `easy_columns::Occupancy::complete` meets its contract: the nodes are cleared first, or they are free at once.
-- Assumes nothing.
use Prim.Native.Nat.{◌<◌, ◌≤◌}
use native.Mathlib.Omega.{arith}
use mathlib.Core.Path.{◌≡◌}
use Rattle.lists.specs.Loops.{position}
use Rattle.scheduler.specs.Limits.{slots}
use Rattle.job_columns.specs.Searches.{place_of, has_ticket}
use Rattle.easy_engine.specs.Shadows.{holding_few}
use Rattle.easy_columns.specs.Held.{EndingIn}
use Rattle.easy_columns.specs.HoldersLeave.{ending_few, ending_low, ending_minute, ending_cleaned, ending_within, ending_freed}
use Rattle.easy_columns.proofs.Occupancy.complete.Goals.{After-holder-i}
use Rattle.easy_columns.proofs.Occupancy.complete.Goals as goal

-- where the holder stands
place : (c : After-holder-i)
    → let a = c.args in
    (e : EndingIn a.self.now a.ticket a.clock a.cleanup)
    → c.holder-i.result ≡ place_of (position (has_ticket a.ticket) e.held_by.jobs) a.self.now.holding
place c e = c.holder-i.ensures e.held_by.jobs e.held_by.holders_are e.held_by.holds.count_is

low : (c : After-holder-i) → (c.holder-i.result < c.args.self.now.holding) × (c.args.self.now.holding ≤ slots)
low c = let e = c.requires in (ending_low e _ (place c e), ending_few e _ (place c e))

pub holder-i-requires : goal.holder-i-requires
holder-i-requires c = holding_few c.requires.held_by.holds

pub overflow_add-self : goal.overflow_add-self
overflow_add-self c = omega (arith, ending_minute c.requires _ (place (goal.at.overflow_add-self c).After-holder-i c.requires))

pub offset_bounds-self-i : goal.offset_bounds-self-i
offset_bounds-self-i c = omega (arith, low (goal.at.offset_bounds-self-i c).After-holder-i)

pub bounds-self-i : goal.bounds-self-i
bounds-self-i c = omega (arith, low (goal.at.bounds-self-i c).After-holder-i)

pub returns-then-cleanup-gt0 : goal.returns-then-cleanup-gt0
returns-then-cleanup-gt0 c = λ e. ending_cleaned e _ (place (goal.at.returns-then-cleanup-gt0 c).After-holder-i e) c.if-cleanup-gt0.true

pub offset_bounds-self-i-2 : goal.offset_bounds-self-i-2
offset_bounds-self-i-2 c = omega (arith, low (goal.at.offset_bounds-self-i-2 c).After-holder-i)

pub bounds-self-i-2 : goal.bounds-self-i-2
bounds-self-i-2 c = omega (arith, low (goal.at.bounds-self-i-2 c).After-holder-i)

pub overflow_add-self-2 : goal.overflow_add-self-2
overflow_add-self-2 c =
    omega (arith, ending_within c.requires _ (place (goal.at.overflow_add-self-2 c).After-holder-i c.requires) c.if-cleanup-gt0.false)

pub overflow_sub-last : goal.overflow_sub-last
overflow_sub-last c = omega (arith, low (goal.at.overflow_sub-last c).After-holder-i)

pub take_out-requires : goal.take_out-requires
take_out-requires c = omega (arith, low (goal.at.take_out-requires c).After-holder-i)

pub returns : goal.returns
returns c =
    λ e. rw c.take_out.ensures
    (ending_freed e _ (place (goal.at.returns c).After-holder-i e) c.if-cleanup-gt0.false)
