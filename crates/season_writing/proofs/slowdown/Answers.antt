-- `season_writing::slowdown` meets its contract.
-- Assumes nothing.
use Rattle.season_writing.proofs.slowdown.Goals as goal

pub returns : goal.returns
returns c = rw c.max.ensures at c.hundredths.ensures
