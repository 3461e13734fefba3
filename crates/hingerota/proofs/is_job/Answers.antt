-- `hingerota::is_job` meets its contract.
-- Assumes nothing.
use borrow.Author.Tests.{le-leb, lt-leb}
use Rattle.hingerota.specs.Checks.{is_job}
use Rattle.hingerota.proofs.is_job.Goals as goal

pub returns-then-r-le3 : goal.returns-then-r-le3
unfolding is_job
returns-then-r-le3 c = rw (le-leb c.args.r.state 3 c.if-r-le3.true, c.letter.ensures, c.of_letter-tenant.ensures)

pub returns : goal.returns
unfolding is_job
returns c = rw (lt-leb c.args.r.state 3 c.if-r-le3.false)
