-- `text::find_byte` meets its contract: the first such byte from here on is the first from the start on.
-- Assumes nothing.
use mathlib.Core.Path.{◌≡◌}
use Prim.Native.Nat.{◌+◌}
use lib.ListN.{length, drop}
use Rattle.text.specs.Prefixes.{upto}
use Rattle.text.proofs.find_byte.Given as goal

abbrev pub invariant-loop-i : goal.invariant-loop-i
invariant-loop-i l = l.from + length (upto l.byte (drop l.from l.s)) ≡ l.i + length (upto l.byte (drop l.i l.s))
