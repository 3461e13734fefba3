-- `hingerota_advance` meets its contract: what `advance` gives is left where the desk was lent.
-- Assumes nothing.
use Rattle.hingerota.proofs.AdvanceContract.{advanced_given}
use Rattle.hingerota.proofs.hingerota_advance.Goals as goal

pub returns : goal.returns
returns c = advanced_given c.args.d.now c.args.minutes c.advance-s.result c.requires c.advance-s.ensures
