-- `hingerota::earliest_start` meets its contract.
-- Assumes nothing.
use mathlib.Core.Path.{◌∙◌}
use Rattle.hingerota.specs.DeskPremise.{read_premise}
use Rattle.hingerota.specs.EarliestContract.{earliest_given}
use Rattle.hingerota.proofs.earliest_start.Goals as goal

pub earliest_start-requires : goal.earliest_start-requires
earliest_start-requires c = read_premise _ _ c.read.ensures c.requires

pub returns : goal.returns
returns c =
    c.into.ensures ∙ earliest_given c.args.d c.args.ticket _ c.earliest_start.result c.read.ensures c.earliest_start.ensures
