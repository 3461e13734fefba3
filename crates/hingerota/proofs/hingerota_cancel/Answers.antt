-- `hingerota_cancel` meets its contract: what `cancel` gives is left where the desk was lent.
-- Assumes nothing.
use Rattle.history.specs.Calls as calls
use Rattle.hingerota.proofs.CallContract.{leaves_given}
use Rattle.hingerota.proofs.hingerota_cancel.Goals as goal

pub returns : goal.returns
returns c = leaves_given c.args.d.now (calls.cancel c.args.ticket) c.cancel-s.result c.requires c.cancel-s.ensures
