-- `hingerota_tick` meets its contract: what `tick` gives is left where the desk was lent.
-- Assumes nothing.
use Rattle.history.specs.Calls as calls
use Rattle.hingerota.proofs.CallContract.{leaves_given}
use Rattle.hingerota.proofs.hingerota_tick.Goals as goal

pub returns : goal.returns
returns c = leaves_given c.args.d.now calls.tick c.tick-s.result c.requires c.tick-s.ensures
