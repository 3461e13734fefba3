-- `restoring::refused` meets its contract.
-- Assumes nothing.
use Rattle.restoring.proofs.refused.Goals as goal

pub returns : goal.returns
returns c = rw (c.empty.ensures, c.of_refused.ensures)
