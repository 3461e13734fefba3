-- `hingerota_amend` meets its contract: what `amend` gives is left where the desk was lent.
-- Assumes nothing.
use Rattle.hingerota.proofs.CallContract.{amended_given}
use Rattle.hingerota.proofs.hingerota_amend.Goals as goal

pub returns : goal.returns
returns c = amended_given c.args.d.now c.args.amendment c.amend-s.result c.requires c.amend-s.ensures
