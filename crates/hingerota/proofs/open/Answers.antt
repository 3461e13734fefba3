-- `hingerota::open` meets its contract.
-- Assumes nothing.
use Rattle.hingerota.proofs.open.Goals as goal

pub returns : goal.returns
returns c = rw (c.into.ensures, c.«open».ensures)
