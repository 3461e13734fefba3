use Rattle.hingerota.specs.DeskPremise.{read_premise, amend_given}
use Rattle.hingerota.proofs.amend.Goals as goal

pub amend-requires : goal.amend-requires
amend-requires c = read_premise _ _ c.read.ensures c.requires

pub returns : goal.returns
returns c = amend_given c.args.d c.args.amendment _ _ _ c.read.ensures (rw c.into.ensures at c.amend.ensures) c.into-2.ensures
