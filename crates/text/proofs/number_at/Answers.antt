-- `text::number_at` meets its contract: what the field at the place says.
-- Assumes nothing.
use mathlib.Core.Path.{ap, ◌∙◌}
use Prim.Native.Nat.{◌+◌}
use lib.ListN.{length}
use Rattle.text.specs.Numbers.{number_of}
use Rattle.text.specs.LineFieldLaws.{reads_field}
use Rattle.text.proofs.number_at.Goals as goal

pub returns : goal.returns
returns c =
    let a = c.args in
    reads_field a.text.now a.from number_of c.number.result _ (c.number.ensures ∙ ap number_of c.field_at-part.ensures)
    (ap (λ l. a.from + length l) c.field_at-part.ensures)
