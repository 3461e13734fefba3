-- `text::field_end` meets its contract: a field that ends from here on ends from the start on.
-- Assumes nothing.
use mathlib.Core.Path.{◌≡◌}
use Prim.Native.Nat.{◌+◌}
use lib.ListN.{length, drop}
use Rattle.text.specs.LineFields.{field_in}
use Rattle.text.proofs.field_end.Given as goal

abbrev pub invariant-loop-i : goal.invariant-loop-i
invariant-loop-i l = l.from + length (field_in (drop l.from l.text)) ≡ l.i + length (field_in (drop l.i l.text))
