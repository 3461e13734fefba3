-- `conservative_table::lift` meets its contract: the span is taken out.
-- Assumes nothing.
use Rattle.conservative_table.specs.ProfileLists.{lifting, lifted_out}
use Rattle.conservative_table.proofs.lift.Goals as goal

pub change-requires : goal.change-requires
change-requires c = lifting c.requires

pub returns : goal.returns
returns c = λ l. lifted_out l c.change.ensures
