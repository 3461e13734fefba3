-- `script::later` meets its contract: each turn adds its lines to the page and takes them from what is left to print.
-- Assumes nothing.
use lib.ListN.{length}
use Rattle.paging.specs.PageFilling.{Filling}
use Rattle.scheduler.specs.Model.{view}
use Rattle.quiet_minutes.specs.QuietCount.{Asked}
use Rattle.kept_calls.specs.KeptPoints.{KeptBeside}
use Rattle.script_writing.specs.AnswerText.{page_bytes}
use Rattle.script_play.specs.Pieces.{going}
use Rattle.script_play.specs.Progress.{weight}
use Rattle.script_play.proofs.Progress.{script_player}
use Rattle.script.proofs.later.Given as goal

abbrev pub invariant-loop-i : goal.invariant-loop-i
invariant-loop-i l = Asked l.d l.initial.until l.until l.i

abbrev pub invariant-loop-end : goal.invariant-loop-end
invariant-loop-end l =
    Filling (script_player l.script) page_bytes (going l.initial.at l.initial.steps l.initial.d) (length l.initial.page) l.page l.end (going l.at l.steps l.d) × KeptBeside (view l.d) l.count l.points l.free l.low l.high

abbrev pub decreases-loop-end : goal.decreases-loop-end
decreases-loop-end l = weight l.script (going l.at l.steps l.d)
