-- `text::field_at` meets its contract: the part up to the field's end.
-- Assumes nothing.
use mathlib.Core.Path.{◌≡◌}
use Prim.Native.Nat.{◌-◌}
use native.Mathlib.Omega.{arith}
use lib.ListN.{length, drop}
use Rattle.text.specs.LineFields.{field_in}
use Rattle.text.specs.LineFieldLaws.{field_take, field_inside}
use Rattle.text.proofs.field_at.Goals as goal

pub slice_bounds-result-end : goal.slice_bounds-result-end
slice_bounds-result-end c =
    omega (arith, field_inside c.args.text.now c.args.from c.requires)

pub returns : goal.returns
returns c =
    let a = c.args in
    let s = drop a.from a.text.now in
    let size : c.field_end-end.result - a.from ≡ length (field_in s) = omega (arith, c.field_end-end.ensures) in
    rw size (field_take s)
