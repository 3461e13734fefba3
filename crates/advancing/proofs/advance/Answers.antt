-- `advancing::advance` meets its contract: refused, or passed.
-- Assumes nothing.
use mathlib.Core.Path.{sym, ap, ◌∙◌}
use Rattle.scheduler.specs.Answers.{accepts}
use Rattle.advancing.specs.Advances.{given_refused}
use Rattle.advancing.proofs.advance.Goals as goal

pub returns : goal.returns
returns c =
    let a = sym (ap accepts c.wait_refusal-refusal.ensures) ∙ sym c.is_none.ensures ∙ c.if-is_none.false in
    rw (c.refused.ensures, c.wait_refusal-refusal.ensures) (given_refused c.args.d c.args.minutes c.requires a)
