-- `hingerota_complete` meets its contract: what `complete` gives is left where the desk was lent.
-- Assumes nothing.
use Rattle.history.specs.Calls as calls
use Rattle.hingerota.proofs.CallContract.{leaves_given}
use Rattle.hingerota.proofs.hingerota_complete.Goals as goal

pub returns : goal.returns
returns c = leaves_given c.args.d.now (calls.complete c.args.ticket) c.complete-s.result c.requires c.complete-s.ensures
