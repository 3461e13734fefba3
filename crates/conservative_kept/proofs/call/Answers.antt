-- `conservative_kept::call` meets its contract: each request has its function.
-- Assumes nothing.
use Rattle.conservative_kept.proofs.call.Goals as goal

pub returns-in-Submit : goal.returns-in-Submit
returns-in-Submit c = rw c.in-Submit.is c.submit.ensures

pub returns-in-Depart : goal.returns-in-Depart
returns-in-Depart c = rw c.in-Depart.is c.depart.ensures

pub returns-in-Tick : goal.returns-in-Tick
returns-in-Tick c = rw c.in-Tick.is c.tick.ensures
