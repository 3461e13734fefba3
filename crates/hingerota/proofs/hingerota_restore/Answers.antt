-- `hingerota_restore` meets its contract.
-- Assumes nothing.
use Rattle.hingerota.proofs.hingerota_restore.Goals as goal

pub returns : goal.returns
returns c = rw (c.from.ensures, c.restore.ensures)
