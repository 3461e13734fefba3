-- `script_runner::play` meets its contract: a script is played to its end: each page that is filled leaves less to play.
-- Assumes nothing.
use mathlib.Core.Path.{◌≡◌}
use lib.ListN.{length}
use Rattle.script_play.specs.Progress.{InPlay, weight}
use Rattle.script_runner.proofs.play.Given as goal

abbrev pub invariant-loop-p : goal.invariant-loop-p
invariant-loop-p g l = InPlay l.script l.p × (length l.page ≡ length l.initial.page)

abbrev pub decreases-loop-p : goal.decreases-loop-p
decreases-loop-p g l = weight l.script l.p
