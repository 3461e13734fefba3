-- `checkpoint_reading::read_records` meets its contract: the records of the lines passed stand in the slots, or cannot be accepted.
-- Assumes nothing.
use Prim.Native.Nat.{◌-◌}
use lib.ListN.{length}
use Rattle.checkpoint_reading.specs.RecordLoop.{Inv}
use Rattle.checkpoint_reading.proofs.read_records.Given as goal

abbrev pub invariant-loop-at : goal.invariant-loop-at
invariant-loop-at l = Inv l.text l.from l.initial.e l.e l.count l.bad l.at

abbrev pub decreases-loop-at : goal.decreases-loop-at
decreases-loop-at l = length l.text - l.at
