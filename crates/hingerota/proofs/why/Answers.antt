-- `hingerota::why` meets its contract.
-- Assumes nothing.
use Rattle.why_rules.specs.Why.{why_text}
use Rattle.hingerota.specs.DeskPremise.{read_premise}
use Rattle.hingerota.specs.TextContract.{text_given}
use Rattle.hingerota.proofs.why.Goals as goal

pub why-requires : goal.why-requires
why-requires c = read_premise _ _ c.read.ensures c.requires

pub returns : goal.returns
returns c =
    text_given why_text _ _ _ c.why.result _ _ c.read.ensures c.why.ensures c.into.ensures
