use Rattle.history.specs.Calls as calls
use Rattle.hingerota.specs.DeskPremise.{read_premise, call_given}
use Rattle.hingerota.proofs.tick.Goals as goal

pub tick-requires : goal.tick-requires
tick-requires c = read_premise _ _ c.read.ensures c.requires

pub returns : goal.returns
returns c = call_given c.args.d calls.tick _ _ _ c.read.ensures c.tick.ensures c.into.ensures
