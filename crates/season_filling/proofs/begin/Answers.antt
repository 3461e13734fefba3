-- `season_filling::begin` meets its contract.
-- Assumes nothing.
use mathlib.Core.Path.{ap, ◌∙◌}
use Rattle.scheduler.specs.declared.Opened.{Opened}
use Rattle.scheduler.specs.declared.Scheduler.{Scheduler}
use Rattle.scheduler.specs.declared.Settings.{Settings}
use Rattle.scheduler.specs.Opening.{opened}
use Rattle.script_play.specs.declared.Stage.TheVariants.{First}
use Rattle.season_play.specs.declared.Standing.{Standing}
use Rattle.season_filling.proofs.begin.Goals as goal

-- the season stands at its beginning, with this scheduler
abbrev from : Scheduler → Standing
from d = record { stage = First; at = 0; above = 0; highest = 0; scheduler = d }

pub returns : goal.returns
returns c =
    ap (λ (x : Opened). from x.scheduler) c.open-none.ensures
    ∙ ap (λ (S : Settings). from (opened (record { settings = S; minute = 0; ticket = 1 })).scheduler) c.of_refused.ensures
