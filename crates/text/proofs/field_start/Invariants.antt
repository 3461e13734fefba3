-- `text::field_start` meets its contract: the fields wanted are those that are k - n fields further on from `start`.
-- Assumes nothing.
use mathlib.Core.Path.{◌≡◌}
use Prim.Native.Nat.{◌-◌, ◌≤◌}
use lib.ListN.{length, drop}
use Rattle.text.specs.Fields.{fields_from}
use Rattle.text.proofs.field_start.Given as goal

abbrev pub invariant-loop : goal.invariant-loop
invariant-loop l = (l.start ≤ length l.line) × (l.counter ≤ l.k) × (fields_from (drop l.start l.line) (l.k - l.counter) ≡ fields_from l.line l.k)
