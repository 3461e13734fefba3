use Rattle.history.specs.Calls as calls
use Rattle.hingerota.specs.Mirror.{wanted}
use Rattle.hingerota.specs.DeskPremise.{read_premise, call_given}
use Rattle.hingerota.proofs.submit.Goals as goal

pub submit-requires : goal.submit-requires
submit-requires c = read_premise _ _ c.read.ensures c.requires

pub returns : goal.returns
returns c =
    call_given c.args.d (calls.submit (wanted c.args.order)) _ _ _ c.read.ensures
    (rw c.into.ensures at c.submit.ensures)
    c.into-2.ensures
