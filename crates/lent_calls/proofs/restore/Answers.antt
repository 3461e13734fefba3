-- `lent_calls::restore` meets its contract: what `calls::restore` hands back is left where the scheduler was lent.
-- Assumes nothing.
use Rattle.lent_calls.specs.RestoreContract.{restores_given}
use Rattle.lent_calls.proofs.restore.Goals as goal

pub returns : goal.returns
returns c = restores_given c.args.text.now c.restore-o.result c.restore-o.ensures
