use Rattle.hingerota.specs.DeskPremise.{read_premise}
use Rattle.hingerota.specs.IndexContract.{blocks_given}
use Rattle.hingerota.proofs.index.Goals as goal

pub index-requires : goal.index-requires
index-requires c = read_premise _ _ c.read.ensures c.requires

pub returns : goal.returns
returns c =
    blocks_given c.args.d c.args.room _ c.index.result _ c.read.ensures c.index.ensures c.mirror_listing.ensures
