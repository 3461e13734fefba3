-- `plan_acceptance::free_from` meets its contract.
-- Assumes nothing.
use native.Mathlib.Omega.{arith}
use mathlib.Core.Path.{sym, ◌∙◌}
use Rattle.scheduler.specs.Times.{cleanup_le, hold_le, until_is, until_cleaning}
use Rattle.plan_acceptance.proofs.free_from.Goals as goal

pub overflow_add-result : goal.overflow_add-result
overflow_add-result c =
    omega (arith, c.requires.1, c.cleanup.ensures, cleanup_le c.args.settings)

pub returns-then-is_cleaning : goal.returns-then-is_cleaning
returns-then-is_cleaning c =
    omega (arith, c.cleanup.ensures, until_cleaning c.args.settings c.args.job (sym c.is_cleaning.ensures ∙ c.if-is_cleaning.true))

pub overflow_add-result-2 : goal.overflow_add-result-2
overflow_add-result-2 c =
    omega (arith, c.requires.0, c.hold_time.ensures, hold_le c.args.settings c.args.job.estimate)

pub returns : goal.returns
returns c =
    omega (arith, c.hold_time.ensures, until_is c.args.settings c.args.job (sym c.is_cleaning.ensures ∙ c.if-is_cleaning.false))
