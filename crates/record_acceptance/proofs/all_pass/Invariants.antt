-- `record_acceptance::all_pass` meets its contract. The invariant: all slots are as asked if those that are left are.
-- Assumes nothing.
use mathlib.Core.Path.{◌≡◌}
use mathlib.Core.Bool.{Bool}
use lib.ListN.{drop}
use Rattle.scheduler.specs.declared.Job.{Job}
use Rattle.scheduler.specs.declared.Scheduler.{Scheduler}
use Rattle.record_acceptance.specs.Records.{passes}
use Rattle.record_acceptance.specs.Slots.{goes_on_of}
use Rattle.record_acceptance.proofs.all_pass.Given as goal

-- the test of a record
abbrev pub p : Scheduler → Job → Bool
p d = passes d.settings d.clock d.next

abbrev pub invariant-loop-j : goal.invariant-loop-j
invariant-loop-j l = goes_on_of (p l.fn.d) l.last (drop l.j-index l.fn.d.jobs) ≡ goes_on_of (p l.fn.d) 0 l.fn.d.jobs
