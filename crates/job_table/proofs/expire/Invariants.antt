-- `job_table::expire` meets its contract: those that stay are written over the first slots, and the slots after them become unused.
-- Assumes nothing.
use Rattle.scheduler.specs.declared.Select.TheVariants as select
use Rattle.job_table.specs.Compacting.{Compacts}
use Rattle.job_table.proofs.expire.Given as goal

abbrev pub invariant-loop-i : goal.invariant-loop-i
invariant-loop-i l = Compacts l.clock (select.EndingAt l.settings l.clock) l.initial.e l.e l.list l.kept l.gone l.i
