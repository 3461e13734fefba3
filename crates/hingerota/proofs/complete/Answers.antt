use Rattle.history.specs.Calls as calls
use Rattle.hingerota.specs.DeskPremise.{read_premise, call_given}
use Rattle.hingerota.proofs.complete.Goals as goal

pub complete-requires : goal.complete-requires
complete-requires c = read_premise _ _ c.read.ensures c.requires

pub returns : goal.returns
returns c = call_given c.args.d (calls.complete c.args.ticket) _ _ _ c.read.ensures c.complete.ensures
    c.into.ensures
