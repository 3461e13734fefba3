-- `easy_columns::begin` meets its contract. The invariant: the lists are those of the first `i` jobs.
-- Assumes nothing.
use Prim.Native.Nat.{◌≤◌}
use mathlib.Core.Path.{◌≡◌}
use Rattle.scheduler.specs.Limits.{slots}
use Rattle.scheduler.specs.declared.Settings.{Settings}
use Rattle.scheduler.specs.Settings.{cleanup as cleanupOf}
use Rattle.easy_columns.specs.EasyBegin.{Looked}
use Rattle.easy_columns.specs.Held.{BeginningIn}
use Rattle.easy_columns.proofs.begin.Given as goal

abbrev pub invariant-loop-i : goal.invariant-loop-i
invariant-loop-i l =
    (l.i ≤ l.columns.live) × (l.n ≤ l.i) × (l.columns.live ≤ slots)
    × ((S : Settings) (b : BeginningIn l.columns l.initial.asked l.initial.occupancy S) → l.initial.spare ≡ S.nodes
    → l.cleanup ≡ cleanupOf S → Looked b.model l.i l.asked l.occupancy.held l.occupancy.ends l.occupancy.holders l.n l.spare)
