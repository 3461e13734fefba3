-- `hingerota::advance` meets its contract.
-- Assumes nothing.
use Rattle.hingerota.specs.DeskPremise.{read_premise}
use Rattle.hingerota.specs.AdvanceContract.{advance_given}
use Rattle.hingerota.proofs.advance.Goals as goal

pub advance-o-requires : goal.advance-o-requires
advance-o-requires c = read_premise _ _ c.read.ensures c.requires

pub returns : goal.returns
returns c =
    rw (c.into.ensures, c.mirror.ensures)
    (advance_given c.args.d c.args.minutes _ c.advance-o.result c.read.ensures c.advance-o.ensures)
