-- `column_parts::cleans` meets its contract.
-- Assumes nothing.
use Rattle.column_parts.proofs.cleans.Goals as goal

pub returns-in-Complete : goal.returns-in-Complete
returns-in-Complete c = rw c.in-Complete.is
