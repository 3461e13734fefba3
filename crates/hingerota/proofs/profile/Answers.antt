use Rattle.hingerota.specs.DeskPremise.{read_premise}
use Rattle.hingerota.specs.ProfileContract.{points_given}
use Rattle.hingerota.proofs.profile.Goals as goal

pub profile-requires : goal.profile-requires
profile-requires c = read_premise _ _ c.read.ensures c.requires

pub returns : goal.returns
returns c =
    points_given c.args.d c.args.room _ c.profile.result _ c.read.ensures c.profile.ensures c.mirror_listing.ensures
