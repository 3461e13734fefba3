-- `conservative_kept::freed_from` meets its contract.
-- Assumes nothing.
use Rattle.conservative_kept.proofs.freed_from.Goals as goal

pub returns-in-Complete : goal.returns-in-Complete
returns-in-Complete c = rw c.in-Complete.is
