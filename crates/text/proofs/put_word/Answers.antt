-- `text::put_word` meets its contract: the word is copied over a part.
-- Assumes nothing.
use mathlib.Core.Path.{refl}
use native.Mathlib.Omega.{arith}
use Rattle.text.specs.WriterLaws.{put_sets}
use Rattle.text.proofs.put_word.Goals as goal

pub returns : goal.returns
returns c =
    let a = c.args in
    (refl, put_sets a.at _ a.out.now _ a.word.now c.copy_from_slice.ensures.after (omega arith) (omega (arith, c.requires)))
