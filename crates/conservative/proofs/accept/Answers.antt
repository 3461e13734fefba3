-- `conservative::accept` meets its contract.
-- Assumes nothing.
use Rattle.conservative.specs.Submit.{accepted}
use Rattle.conservative.proofs.accept.Goals as goal

pub returns : goal.returns
unfolding accepted
returns c = rw (c.one_if-started.ensures, c.refused.ensures, c.place-job.ensures, c.fresh-order.ensures)
