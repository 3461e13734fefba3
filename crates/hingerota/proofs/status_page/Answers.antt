-- `hingerota::status_page` meets its contract.
-- Assumes nothing.
use Rattle.status_page_rules.specs.StatusPage.{status_page_of}
use Rattle.hingerota.specs.DeskPremise.{read_premise}
use Rattle.hingerota.specs.TextContract.{text_given}
use Rattle.hingerota.proofs.status_page.Goals as goal

pub status_page-requires : goal.status_page-requires
status_page-requires c = read_premise _ _ c.read.ensures c.requires

pub returns : goal.returns
returns c =
    text_given status_page_of _ _ _ c.status_page.result _ _ c.read.ensures c.status_page.ensures c.into.ensures
