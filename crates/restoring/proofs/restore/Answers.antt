-- `restoring::restore` meets its contract, by whether the first line is closed.
-- Assumes nothing.
use Prim.Native.Nat.{◌<◌}
use native.Mathlib.Omega.{arith}
use mathlib.Core.Path.{sym, ap, ◌∙◌}
use lib.ListN.{length}
use lib.Seq.{length-take-le}
use Rattle.text.specs.LineLaws.{line_ends}
use Rattle.restoring.specs.Restoring.{handed_back, restored_first, restored_unclosed}
use Rattle.restoring.proofs.restore.Goals.{Then-line}
use Rattle.restoring.proofs.restore.Goals as goal

-- the first line ends inside the text
inside : (c : Then-line) → c.next_line-line.result.end < length c.args.text.now
inside c = (line_ends _ 0 _ c.next_line-line.ensures (omega arith)).closed_in c.if-line.true

pub slice_bounds-read_first-end : goal.slice_bounds-read_first-end
slice_bounds-read_first-end c = sym (length-take-le _ _ (omega (arith, inside c)))

pub overflow_add-end : goal.overflow_add-end
overflow_add-end c = omega (arith, inside (goal.at.overflow_add-end c).Then-line)

pub restore_after-requires : goal.restore_after-requires
restore_after-requires c = omega (arith, inside (goal.at.restore_after-requires c).Then-line)

pub returns-then-line : goal.returns-then-line
returns-then-line c =
    c.restore_after.ensures ∙ ap handed_back (sym (restored_first _ c.next_line-line.ensures c.if-line.true c.read_first-first.ensures))

pub returns : goal.returns
returns c = c.refused.ensures ∙ ap handed_back (sym (restored_unclosed _ c.next_line-line.ensures c.if-line.false))
