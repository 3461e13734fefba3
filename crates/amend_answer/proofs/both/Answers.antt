-- `amend_answer::both` meets its contract.
-- Assumes nothing.
use Rattle.amend_answer.specs.BothAnswers.{started_lists, both_first, both_second}
use Rattle.amend_answer.proofs.both.Goals as goal

pub returns-then-withdrawal-eq0 : goal.returns-then-withdrawal-eq0
returns-then-withdrawal-eq0 c =
    λ q. both_second q _ _ c.none.ensures c.if-withdrawal-eq0.true (c.joined.ensures (started_lists q))

pub returns : goal.returns
returns c =
    λ q. both_first q _ _ c.none.ensures c.if-withdrawal-eq0.false (c.joined.ensures (started_lists q))
