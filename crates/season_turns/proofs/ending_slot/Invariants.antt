-- `season_turns::ending_slot` meets its contract: among the slots looked at no job is over.
-- Assumes nothing.
use mathlib.Core.Path.{◌≡◌}
use lib.ListN.{drop}
use Rattle.lists.specs.Lists.{first}
use Rattle.season_turns.specs.EndingSlot.{over_now}
use Rattle.season_turns.proofs.ending_slot.Given as goal

abbrev pub invariant-loop-i : goal.invariant-loop-i
invariant-loop-i l = first (over_now l.actuals l.fn.d) l.j-items ≡ first (over_now l.actuals l.fn.d) (drop l.i l.j-items)
