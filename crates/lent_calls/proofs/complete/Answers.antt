-- `lent_calls::complete` meets its contract: what `calls::complete` gives is left where the scheduler was lent.
-- Assumes nothing.
use Rattle.history.specs.Calls as calls
use Rattle.lent_calls.proofs.CallContract.{leaves_given}
use Rattle.lent_calls.proofs.complete.Goals as goal

pub returns : goal.returns
returns c = leaves_given c.args.d.now (calls.complete c.args.ticket) c.complete-o.result c.requires c.complete-o.ensures
