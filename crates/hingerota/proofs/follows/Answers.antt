-- `hingerota::follows` meets its contract.
-- Assumes nothing.
use borrow.Author.Tests.{eq-eqb, ne_eqb}
use Rattle.hingerota.specs.Checks as checks
use Rattle.hingerota.proofs.follows.Goals as goal

pub returns-then-r-eq0 : goal.returns-then-r-eq0
unfolding checks.follows
returns-then-r-eq0 c = rw (eq-eqb c.args.r.state 0 c.if-r-eq0.true) c.is_zero.ensures

pub returns-then-live : goal.returns-then-live
unfolding checks.follows
returns-then-live c = rw (ne_eqb c.args.r.state 0 c.if-r-eq0.false, c.if-live.true) c.is_job.ensures

pub returns : goal.returns
unfolding checks.follows
returns c = rw (ne_eqb c.args.r.state 0 c.if-r-eq0.false, c.if-live.false)
