-- `lent_calls::submit` meets its contract: what `calls::submit` gives is left where the scheduler was lent.
-- Assumes nothing.
use Rattle.history.specs.Calls as calls
use Rattle.lent_calls.proofs.CallContract.{leaves_given}
use Rattle.lent_calls.proofs.submit.Goals as goal

pub returns : goal.returns
returns c = leaves_given c.args.d.now (calls.submit c.args.s) c.submit-o.result c.requires c.submit-o.ensures
