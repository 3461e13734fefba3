-- `script::fill` meets its contract: the first line, the later ones, or nothing.
-- Assumes nothing.
use mathlib.Core.Path.{sym, ap, subst}
use Prim.Native.Nat.{◌<◌}
use native.Mathlib.Omega.{arith}
use Rattle.paging.specs.Players.{turned_as}
use Rattle.paging.specs.PageFilling.{filling_none, filled_once, filled_over}
use Rattle.script_play.specs.declared.Stage.{Stage}
use Rattle.script_play.specs.Progress.{weight_by}
use Rattle.script.specs.PageFilling.{stage_as}
use Rattle.script.proofs.fill.Goals as goal

pub returns-in-First : goal.returns-in-First
returns-in-First c =
    let e = c.in-First.is in
    filled_once c.requires.0 (subst (λ (g : Stage). 0 < weight_by g c.args.script.now c.args.p) (sym e) (omega arith)) c.requires.1 (turned_as (stage_as _ _ _ e) c.first.ensures)

pub returns-in-Over : goal.returns-in-Over
returns-in-Over c =
    filled_over (filling_none _ c.requires.1 c.requires.0) (ap (λ (g : Stage). weight_by g c.args.script.now c.args.p) c.in-Over.is)
