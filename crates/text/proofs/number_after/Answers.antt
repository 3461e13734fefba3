-- `text::number_after` meets its contract: after a tab, what stands at the next place.
-- Assumes nothing.
use mathlib.Core.Path.{sym, ◌∙◌}
use Rattle.text.specs.LineFieldLaws.{reads_after, reads_past, no_number}
use Rattle.text.proofs.number_after.Goals as goal

pub returns-then-is_tab : goal.returns-then-is_tab
returns-then-is_tab c = reads_after _ _ _ _ (sym c.is_tab.ensures ∙ c.if-is_tab.true) c.number_at.ensures

pub returns : goal.returns
returns c = reads_past _ _ _ no_number (sym c.is_tab.ensures ∙ c.if-is_tab.false)
