-- `easy_columns::Occupancy::holder` meets its contract. The invariant: the search over the places that are left finds the place.
-- Assumes nothing.
use Prim.Native.Nat.{◌≤◌}
use mathlib.Core.Path.{◌≡◌}
use mathlib.Core.List.{List}
use lib.ListN.{length, drop}
use Rattle.lists.specs.Loops.{position_from, position}
use Rattle.scheduler.specs.declared.Job.{Job}
use Rattle.scheduler.specs.Table.{ticket_of}
use Rattle.job_columns.specs.Columns.{Column}
use Rattle.job_columns.specs.Searches.{has_ticket}
use Rattle.easy_columns.proofs.Occupancy.holder.Given as goal

abbrev pub invariant-loop-i : goal.invariant-loop-i
invariant-loop-i l =
    (l.i ≤ l.self.holding)
    × ((rs : List Job) → Column ticket_of rs l.self.holders → length rs ≡ l.self.holding → position_from (has_ticket l.ticket) l.i (drop l.i rs) ≡ position (has_ticket l.ticket) rs)
