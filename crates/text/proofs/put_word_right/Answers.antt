-- `text::put_word_right` meets its contract: spaces, and then the word.
-- Assumes nothing.
use mathlib.Core.Path.{refl}
use Rattle.text.specs.RightSet.{right_written}
use Rattle.text.proofs.put_word_right.Goals as goal

pub returns : goal.returns
returns c =
    right_written c.args.width _ _ _ c.args.word.now _ _ _ _ refl c.requires.0 c.put_spaces-p.ensures c.put_word.ensures
