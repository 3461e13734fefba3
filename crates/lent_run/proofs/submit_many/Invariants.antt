-- `lent_run::submit_many` meets its contract: each call leaves a scheduler for the next.
-- Assumes nothing.
use Rattle.guarantees.specs.Premise.{Premise}
use Rattle.lent_run.proofs.submit_many.Given as goal

abbrev pub invariant-loop-i : goal.invariant-loop-i
invariant-loop-i g l = Premise l.e
