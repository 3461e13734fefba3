-- `column_parts::is_early` meets its contract.
-- Assumes nothing.
use Rattle.column_parts.proofs.is_early.Goals as goal

pub returns-in-Complete : goal.returns-in-Complete
returns-in-Complete c = rw c.in-Complete.is
