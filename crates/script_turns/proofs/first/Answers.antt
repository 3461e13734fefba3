-- `script_turns::first` meets its contract, by how the script begins.
-- Assumes nothing.
use mathlib.Core.Path.{sym}
use native.Mathlib.Omega.{arith}
use lib.Seq.{length-take-le}
use Rattle.text.specs.LineLaws.{begins_at}
use Rattle.script_rules.specs.Printout.{longest_script}
use Rattle.script_turns.proofs.first.Goals as goal

-- the first line ends inside the script
pub slice_bounds-read_first-end : goal.slice_bounds-read_first-end
slice_bounds-read_first-end c =
    let inside = begins_at longest_script _ c.first_line.ensures c.in-Line.is in sym (length-take-le _ _ (omega (arith, inside)))

pub overflow_add-end : goal.overflow_add-end
overflow_add-end c = omega (arith, begins_at longest_script c.args.script.now c.first_line.ensures c.in-Line.is)
