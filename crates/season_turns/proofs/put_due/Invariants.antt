-- `season_turns::put_due` meets its contract: the lines of the jobs looked at stand in the page.
-- Assumes nothing.
use Prim.Native.Nat.{◌+◌, ◌*◌, ◌≤◌}
use lib.ListN.{take}
use Rattle.lists.specs.Lists.{keep}
use Rattle.text.specs.WrittenBytes.{Wrote}
use Rattle.scheduler.specs.Jobs.{ends_at}
use Rattle.season_turns.specs.DueRows.{rows_by}
use Rattle.season_turns.proofs.put_due.Given as goal

abbrev pub invariant-loop-j : goal.invariant-loop-j
invariant-loop-j l =
    (l.j-index ≤ 64) × Wrote (33 * l.j-index) l.initial.page l.at (rows_by l.arrivals l.actuals l.fn.d.settings (keep (ends_at l.fn.d.settings (l.fn.d.clock + 1)) (take l.j-index l.j-items))) l.page l.p
