-- `season_filling::fill` meets its contract, by the stage of the season.
-- Assumes nothing.
use mathlib.Core.Path.{sym, ap, subst}
use Prim.Native.Nat.{◌<◌}
use native.Mathlib.Omega.{arith}
use Rattle.paging.specs.Players.{turned_as}
use Rattle.paging.specs.PageFilling.{filling_none, filled_over, filled_once}
use Rattle.script_play.specs.declared.Stage.{Stage}
use Rattle.season_play.specs.Places.{place}
use Rattle.season_play.specs.SeasonPlayer.{piece_by, weight_by}
use Rattle.season_filling.proofs.fill.Goals as goal

pub returns-in-First : goal.returns-in-First
returns-in-First c =
    let a = c.args in
    let p = place a.p a.arrivals.now a.actuals.now in
    let e = c.in-First.is in
    filled_once c.requires.0 (subst (λ (g : Stage). 0 < weight_by g a.list.now p) (sym e) (omega arith)) c.requires.1
    (turned_as (ap (λ (g : Stage). piece_by g a.list.now p) (sym e)) (c.first.ensures a.arrivals.now a.actuals.now))

pub returns-in-Over : goal.returns-in-Over
returns-in-Over c =
    let a = c.args in
    filled_over (filling_none _ c.requires.1 c.requires.0)
    (ap (λ (g : Stage). weight_by g a.list.now (place a.p a.arrivals.now a.actuals.now)) c.in-Over.is)
