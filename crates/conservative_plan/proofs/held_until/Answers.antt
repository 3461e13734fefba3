use mathlib.Core.Path.{◌≡◌, sym, ◌∙◌}
use mathlib.Core.Bool.{true, false}
use native.Mathlib.Omega.{arith}
use Rattle.scheduler.specs.Jobs.{is_cleaning}
use Rattle.scheduler.specs.Times.{cleanup_le, hold_le, until_is, until_cleaning}
use Rattle.conservative_plan.proofs.held_until.Goals as goal

pub overflow_add-result : goal.overflow_add-result
overflow_add-result c =
    omega (arith, c.cleanup.ensures, cleanup_le c.args.settings, c.requires.0.1)

pub returns-then-is_cleaning : goal.returns-then-is_cleaning
returns-then-is_cleaning c =
    let r : is_cleaning c.args.job ≡ true = sym c.is_cleaning.ensures ∙ c.if-is_cleaning.true in
    omega (arith, c.cleanup.ensures, until_cleaning c.args.settings c.args.job r)

pub overflow_add-result-2 : goal.overflow_add-result-2
overflow_add-result-2 c =
    omega (arith, c.requires.0.0, c.requires.1, hold_le c.args.settings c.args.job.estimate)

pub returns : goal.returns
returns c =
    let r : is_cleaning c.args.job ≡ false = sym c.is_cleaning.ensures ∙ c.if-is_cleaning.false in
    omega (arith, c.requires.1, until_is c.args.settings c.args.job r)
