-- `text::is_word` meets its contract: the bytes are compared.
-- Assumes nothing.
use mathlib.Core.Path.{◌∙◌}
use Rattle.text.specs.WordLaws.{word_bytes}
use Rattle.text.proofs.is_word.Goals as goal

pub returns : goal.returns
returns c = c.eq.ensures ∙ word_bytes c.args.word.now c.args.part.now
