-- `status_page::put_slot` meets its contract: the line of a job, or one of spaces.
-- Assumes nothing.
use mathlib.Core.Path.{sym, ◌∙◌}
use mathlib.Core.List.{[]}
use borrow.Author.Rules.{rules}
use Rattle.status_page_laws.specs.Columns.{none_fitting}
use Rattle.status_page_laws.specs.Lines.{line_written}
use Rattle.status_page.proofs.put_slot.Goals as goal

pub put_job-requires : goal.put_job-requires
put_job-requires c =
    (rw (sym c.is_live.ensures ∙ c.if-is_live.true) at c.requires.0, search rules)

pub returns-then-is_live : goal.returns-then-is_live
returns-then-is_live c =
    rw (sym c.is_live.ensures ∙ c.if-is_live.true) c.put_job.ensures

pub returns : goal.returns
returns c =
    rw (sym c.is_live.ensures ∙ c.if-is_live.false, line_written [] none_fitting) c.put_rest.ensures
