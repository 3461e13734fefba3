-- `checkpoint_writing::put_slot` meets its contract: the line of a job, or nothing.
-- Assumes nothing.
use mathlib.Core.Path.{sym, ◌∙◌}
use Rattle.text.specs.WrittenBytes.{wrote_none}
use Rattle.checkpoint_writing.proofs.put_slot.Goals as goal

pub returns-then-is_live : goal.returns-then-is_live
returns-then-is_live c =
    rw (sym c.is_live.ensures ∙ c.if-is_live.true) c.put_job.ensures

pub returns : goal.returns
returns c = rw (sym c.is_live.ensures ∙ c.if-is_live.false) (wrote_none _ _ _)
