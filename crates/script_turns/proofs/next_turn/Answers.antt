-- `script_turns::next_turn` meets its contract.
-- Assumes nothing.
use native.Mathlib.Omega.{arith}
use Rattle.script_turns.specs.NextTurn.{comes_step, comes_as, comes_over}
use Rattle.script_turns.proofs.next_turn.Goals as goal

pub returns-then-steps-gt0 : goal.returns-then-steps-gt0
returns-then-steps-gt0 c = comes_step _ _ _ c.if-steps-gt0.true

pub returns-then-script-at : goal.returns-then-script-at
returns-then-script-at c = comes_as _ _ _ _ (omega (arith, c.if-steps-gt0.false)) (comes_over _ _ c.if-script-at.true)
