-- `easy::submit_refusal` meets its contract.
-- Assumes nothing.
use mathlib.Core.Path.{sym, ap, ◌∙◌}
use Rattle.scheduler.specs.Answers.{accepts}
use Rattle.easy.specs.Admission.{judged_late, judged_before}
use Rattle.easy.proofs.submit_refusal.Goals as goal

pub returns-then-is_none : goal.returns-then-is_none
returns-then-is_none c =
    let w = c.submit_refusal-why.ensures in
    c.past_horizon.ensures ∙ sym (judged_late _ _ _ _ _ (ap accepts (sym w) ∙ sym c.is_none.ensures ∙ c.if-is_none.true))

pub returns : goal.returns
returns c =
    let w = c.submit_refusal-why.ensures in
    w ∙ sym (judged_before _ _ _ _ _ (ap accepts (sym w) ∙ sym c.is_none.ensures ∙ c.if-is_none.false))
