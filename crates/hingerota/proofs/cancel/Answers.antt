use Rattle.history.specs.Calls as calls
use Rattle.hingerota.specs.DeskPremise.{read_premise, call_given}
use Rattle.hingerota.proofs.cancel.Goals as goal

pub cancel-requires : goal.cancel-requires
cancel-requires c = read_premise _ _ c.read.ensures c.requires

pub returns : goal.returns
returns c = call_given c.args.d (calls.cancel c.args.ticket) _ _ _ c.read.ensures c.cancel.ensures
    c.into.ensures
