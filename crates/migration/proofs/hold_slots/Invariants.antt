-- `migration::hold_slots` meets its contract: the slots before the loop's place are changed, the others are as they were.
-- Assumes nothing.
use mathlib.Core.Path.{◌≡◌}
use mathlib.Core.List.{map, ◌++◌}
use lib.ListN.{take, drop}
use Rattle.migration.specs.HeldSlots.{held_slot}
use Rattle.migration.proofs.hold_slots.Given as goal

abbrev pub invariant-loop-job : goal.invariant-loop-job
invariant-loop-job l =
    l.jobs ≡ map held_slot (take l.job-index l.fn.jobs) ++ drop l.job-index l.fn.jobs
