-- `conservative::tick` meets its contract.
-- Assumes nothing.
use mathlib.Core.Path.{ap, ◌∙◌}
use Rattle.scheduler.specs.Model.{view}
use Rattle.conservative.specs.Tick.{started_by, ticks_held}
use Rattle.conservative.proofs.tick.Goals as goal

pub returns : goal.returns
returns c =
    c.start_due.ensures ∙ ap started_by c.expire.ensures ∙ ticks_held (view c.args.d) c.requires.holds
