-- `text::field` meets its contract: from where the field begins, what stands before the first tab.
-- Assumes nothing.
use mathlib.Core.Path.{◌≡◌, ap, sym, ◌∙◌}
use mathlib.Core.List.{List, []}
use Prim.Native.Nat.{ℕ, ◌-◌}
use native.Mathlib.Omega.{arith}
use lib.ListN.{length, get_or, drop}
use Rattle.text.specs.Prefixes.{upto, upto_take, upto_inside}
use Rattle.text.specs.Fields.{fields_of}
use Rattle.text.specs.FieldLaws.{fields_first, from_first}
use Rattle.text.proofs.field.Goals as goal

pub slice_bounds-result-end : goal.slice_bounds-result-end
slice_bounds-result-end c =
    omega (arith, upto_inside 9 c.args.line.now c.field_start-start.result c.field_start-start.ensures.0)

pub returns : goal.returns
returns c =
    let a = c.args in
    let f = c.field_start-start in
    let s = drop f.result a.line.now in
    let r = c.find_byte-end in
    let e : r.result - f.result ≡ length (upto 9 s) = omega (arith, r.ensures) in
    rw e (upto_take 9 s ∙ sym (fields_first s) ∙ ap (λ (fs : List (List ℕ)). get_or fs 0 []) f.ensures.1 ∙ from_first (fields_of a.line.now) a.k)
