-- `text::digits` meets its contract: the value so far, and what is left to read.
-- Assumes nothing.
use mathlib.Core.Path.{◌≡◌}
use Prim.Native.Nat.{◌≤◌, ◌<◌}
use lib.ListN.{length, drop}
use Rattle.text.specs.Numbers.{digits_from}
use Rattle.text.specs.NumberLaws.{ten}
use Rattle.text.proofs.digits.Given as goal

abbrev pub invariant-loop-b : goal.invariant-loop-b
invariant-loop-b l = (l.b-index ≤ length l.part) × (l.v < ten l.b-index) × (digits_from l.v (drop l.b-index l.part) ≡ digits_from 0 l.part)
