-- `script::begin` meets its contract.
-- Assumes nothing.
use mathlib.Core.Path.{ap, ◌∙◌}
use Rattle.scheduler.specs.declared.Opened.{Opened}
use Rattle.scheduler.specs.declared.Settings.{Settings}
use Rattle.scheduler.specs.declared.Scheduler.{Scheduler}
use Rattle.scheduler.specs.Opening.{opened}
use Rattle.script_play.specs.declared.Play.{Play}
use Rattle.script_play.specs.declared.Stage.TheVariants.{First}
use Rattle.script.proofs.begin.Goals as goal

-- the script stands at its beginning, with this scheduler
abbrev from : Scheduler → Play
from d = record { stage = First; at = 0; steps = 0; scheduler = d }

pub returns : goal.returns
returns c =
    ap (λ (x : Opened). from x.scheduler) c.open-none.ensures
    ∙ ap (λ (S : Settings). from (opened (record { settings = S; minute = 0; ticket = 1 })).scheduler) c.of_refused.ensures
