-- `hingerota::is_zero` meets its contract.
-- Assumes nothing.
use Rattle.hingerota.specs.Checks.{all_zero}
use Rattle.hingerota.proofs.is_zero.Goals as goal

pub returns : goal.returns
unfolding all_zero
returns c = c.all_zero.ensures
