-- `lent_calls::advance` meets its contract: what `advancing::advance` gives is left where the scheduler was lent.
-- Assumes nothing.
use Rattle.lent_calls.specs.AdvanceContract.{advanced_given}
use Rattle.lent_calls.proofs.advance.Goals as goal

pub returns : goal.returns
returns c = advanced_given c.args.d.now c.args.minutes c.advance-o.result c.requires c.advance-o.ensures
