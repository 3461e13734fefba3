-- What a script has still to print.
-- Assumes nothing.
use Rattle.std.specs.Prelude.{List, [], ◌++◌, drop, replicate}
use Prim.Native.Nat.{ℕ}
use Rattle.scheduler.specs.Model.{Model, view}
use Rattle.history.specs.Calls.{tick, after}
use Rattle.guarantees.specs.Rules.{call}
use Rattle.desk_lines.specs.Lines.{lines_of}
use Rattle.script_rules.specs.Printout.{printed_all, played, printout}
use Rattle.script_play.specs.declared.Play.{Play}
use Rattle.script_play.specs.declared.Stage.TheVariants.{First, Playing, Over}
use Rattle.script_play.specs.declared.Stage.{Stage}

-- what a script has still to print
abbrev pub from_here : List ℕ → ℕ → ℕ → Model → List ℕ
from_here s at steps m = printed_all m (replicate steps tick) ++ played (after call m (replicate steps tick)) (lines_of (drop at s))

abbrev pub left_by : Stage → List ℕ → Play → List ℕ
left_by First s p = printout s
left_by Playing s p = from_here s p.at p.steps (view p.scheduler)
left_by Over s p = []

abbrev pub left : List ℕ → Play → List ℕ
left s p = left_by p.stage s p
