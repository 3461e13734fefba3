-- `lent_calls::tick` meets its contract: what `calls::tick` gives is left where the scheduler was lent.
-- Assumes nothing.
use Rattle.history.specs.Calls as calls
use Rattle.lent_calls.proofs.CallContract.{leaves_given}
use Rattle.lent_calls.proofs.tick.Goals as goal

pub returns : goal.returns
returns c = leaves_given c.args.d.now calls.tick c.tick-o.result c.requires c.tick-o.ensures
