-- `hingerota::checkpoint` meets its contract.
-- Assumes nothing.
use Rattle.checkpoint_rules.specs.Texts.{desk_text}
use Rattle.hingerota.specs.DeskPremise.{read_premise}
use Rattle.hingerota.specs.TextContract.{text_given}
use Rattle.hingerota.proofs.checkpoint.Goals as goal

pub checkpoint-requires : goal.checkpoint-requires
checkpoint-requires c = read_premise _ _ c.read.ensures c.requires

pub returns : goal.returns
returns c =
    text_given desk_text _ _ _ c.checkpoint.result _ _ c.read.ensures c.checkpoint.ensures c.into.ensures
