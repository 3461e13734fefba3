-- `text::capital_after` meets its contract: after a tab, what stands at the next place.
-- Assumes nothing.
use mathlib.Core.Path.{sym, ◌∙◌}
use Rattle.text.specs.LineFieldLaws.{reads_after, reads_past, no_letter}
use Rattle.text.proofs.capital_after.Goals as goal

pub returns-then-is_tab : goal.returns-then-is_tab
returns-then-is_tab c = reads_after _ _ _ _ (sym c.is_tab.ensures ∙ c.if-is_tab.true) c.capital_at.ensures

pub returns : goal.returns
returns c = reads_past _ _ _ no_letter (sym c.is_tab.ensures ∙ c.if-is_tab.false)
