-- `record_acceptance::hold_ends` meets its contract: a sum is tested by a difference.
-- Assumes nothing.
use mathlib.Core.Path.{sym, ◌∙◌}
use native.Mathlib.Omega.{arith}
use Rattle.scheduler.specs.Limits.{horizon}
use Rattle.scheduler.specs.Settings.{cleanup, hold_time}
use Rattle.scheduler.specs.Times.{cleanup_le, hold_le, until_is, until_cleaning}
use Rattle.lists.specs.Tests.{leb_sub}
use Rattle.record_acceptance.proofs.hold_ends.Goals as goal

pub overflow_sub-result : goal.overflow_sub-result
overflow_sub-result c = omega (arith, c.cleanup.ensures, cleanup_le c.args.settings)

pub returns-then-is_cleaning : goal.returns-then-is_cleaning
returns-then-is_cleaning c =
    let a = c.args in
    let S = a.settings in
    rw (c.cleanup.ensures, until_cleaning S a.j (sym c.is_cleaning.ensures ∙ c.if-is_cleaning.true))
    (leb_sub horizon (cleanup S) a.j.end (omega (arith, cleanup_le S)))

pub overflow_sub-result-2 : goal.overflow_sub-result-2
overflow_sub-result-2 c =
    let a = c.args in
    omega (arith, c.hold_time.ensures, hold_le a.settings a.j.estimate)

pub returns : goal.returns
returns c =
    let a = c.args in
    let S = a.settings in
    let e = a.j.estimate in
    rw (c.hold_time.ensures, until_is S a.j (sym c.is_cleaning.ensures ∙ c.if-is_cleaning.false))
    (leb_sub horizon (hold_time S e) a.j.start (omega (arith, hold_le S e)))
