-- `conservative::start_due` meets its contract: the slots passed are turned, and the tickets of those that start are listed.
-- Assumes nothing.
use Rattle.conservative.specs.Tick.{Starts}
use Rattle.conservative.proofs.start_due.Given as goal

abbrev pub invariant-loop-i : goal.invariant-loop-i
invariant-loop-i l = Starts l.now l.initial.e l.e l.list l.n l.i
