-- `lent_calls::cancel` meets its contract: what `calls::cancel` gives is left where the scheduler was lent.
-- Assumes nothing.
use Rattle.history.specs.Calls as calls
use Rattle.lent_calls.proofs.CallContract.{leaves_given}
use Rattle.lent_calls.proofs.cancel.Goals as goal

pub returns : goal.returns
returns c = leaves_given c.args.d.now (calls.cancel c.args.ticket) c.cancel-o.result c.requires c.cancel-o.ensures
