-- `lent_calls::amend` meets its contract: what `calls::amend` gives is left where the scheduler was lent.
-- Assumes nothing.
use Rattle.lent_calls.proofs.CallContract.{amended_given}
use Rattle.lent_calls.proofs.amend.Goals as goal

pub returns : goal.returns
returns c = amended_given c.args.d.now c.args.a c.amend-o.result c.requires c.amend-o.ensures
