-- `hingerota_submit` meets its contract: what `submit` gives is left where the desk was lent.
-- Assumes nothing.
use Rattle.history.specs.Calls as calls
use Rattle.hingerota.specs.Mirror.{wanted}
use Rattle.hingerota.proofs.CallContract.{leaves_given}
use Rattle.hingerota.proofs.hingerota_submit.Goals as goal

pub returns : goal.returns
returns c = leaves_given c.args.d.now (calls.submit (wanted c.args.order)) c.submit-s.result c.requires c.submit-s.ensures
