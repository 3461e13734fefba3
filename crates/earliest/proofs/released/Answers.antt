-- `earliest::released` meets its contract.
-- Assumes nothing.
use native.Mathlib.Omega.{arith}
use mathlib.Core.Path.{sym, ◌∙◌}
use Rattle.scheduler.specs.Times.{cleanup_le}
use Rattle.jobs.specs.Soundness.{holding_runs}
use Rattle.easy_laws.specs.EarliestStart.{until_over, until_cleared}
use Rattle.earliest.proofs.released.Goals as goal

pub overflow_add-result : goal.overflow_add-result
overflow_add-result c =
    omega (arith, c.requires, c.cleanup.ensures, cleanup_le c.args.settings)

pub returns-then-is_cleaning : goal.returns-then-is_cleaning
returns-then-is_cleaning c =
    let e = sym c.is_cleaning.ensures ∙ c.if-is_cleaning.true in
    omega (arith, c.cleanup.ensures, until_cleared c.args.settings c.args.now c.args.job e)

pub overflow_add-result-2 : goal.overflow_add-result-2
overflow_add-result-2 c = omega (arith, cleanup_le c.args.settings)

pub returns : goal.returns
returns c =
    let r = holding_runs c.args.job.state c.requires.2 (sym c.is_cleaning.ensures ∙ c.if-is_cleaning.false) in
    omega (arith, until_over c.args.settings c.args.now c.args.job r)
