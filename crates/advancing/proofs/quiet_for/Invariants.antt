-- `advancing::quiet_for` meets its contract: the slots are asked one after another.
-- Assumes nothing.
use Prim.Native.Nat.{◌+◌}
use Rattle.advancing.specs.DueSlots.{Found}
use Rattle.advancing.proofs.quiet_for.Given as goal

abbrev pub invariant-loop-j : goal.invariant-loop-j
invariant-loop-j l = Found l.fn.d (l.fn.d.clock + l.minutes) l.until l.j-index
