-- `hingerota::longest_estimate` meets its contract.
-- Assumes nothing.
use mathlib.Core.Path.{◌∙◌}
use Rattle.hingerota.specs.DeskPremise.{read_premise}
use Rattle.hingerota.specs.LongestContract.{longest_given}
use Rattle.hingerota.proofs.longest_estimate.Goals as goal

pub longest_estimate-requires : goal.longest_estimate-requires
longest_estimate-requires c = read_premise _ _ c.read.ensures c.requires

pub returns : goal.returns
returns c =
    c.into-2.ensures
    ∙ longest_given c.args.d c.args.inquiry _ c.longest_estimate.result c.read.ensures
    (rw c.into.ensures at c.longest_estimate.ensures)
