-- `season_runner::play` meets its contract: a season is played to its end: each page that is filled leaves less to play.
-- Assumes nothing.
use mathlib.Core.Path.{◌≡◌}
use lib.ListN.{length}
use Rattle.season_play.specs.Places.{place, InPlay}
use Rattle.season_play.specs.SeasonPlayer.{weight}
use Rattle.season_runner.proofs.play.Given as goal

abbrev pub invariant-loop-arrivals : goal.invariant-loop-arrivals
invariant-loop-arrivals g l = InPlay l.list (place l.p l.arrivals l.actuals) × (length l.page ≡ length l.initial.page)

abbrev pub decreases-loop-arrivals : goal.decreases-loop-arrivals
decreases-loop-arrivals g l = weight l.list (place l.p l.arrivals l.actuals)
