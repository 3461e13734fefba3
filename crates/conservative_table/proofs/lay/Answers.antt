-- `conservative_table::lay` meets its contract: the span is laid over.
-- Assumes nothing.
use Rattle.conservative_table.specs.ProfileLists.{laying, laid_over}
use Rattle.conservative_table.proofs.lay.Goals as goal

pub change-requires : goal.change-requires
change-requires c = laying c.requires

pub returns : goal.returns
returns c = λ l. laid_over l c.change.ensures
