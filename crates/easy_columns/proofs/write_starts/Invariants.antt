-- `easy_columns::write_starts` meets its contract. The invariant: the first `k` starts are written.
-- Assumes nothing.
use Prim.Native.Nat.{◌+◌, ◌≤◌, ◌<◌}
use lib.ListN.{get_or}
use Rattle.scheduler.specs.Limits.{slots}
use Rattle.easy_columns.specs.Starting.{Written}
use Rattle.easy_columns.specs.Held.{StartingIn}
use Rattle.job_columns.specs.Held.{Retimed}
use Rattle.easy_columns.proofs.write_starts.Given as goal

abbrev pub invariant-loop-k : goal.invariant-loop-k
invariant-loop-k l =
    (l.k ≤ l.count) × ((s : StartingIn l.initial.columns l.order l.initial.started l.ends l.initial.holders l.count l.holding l.clock l.cleanup)
    → Written s.model s.places s.jobs l.initial.columns.tickets s.nodes l.columns.states l.columns.dues l.columns.starts s.tenants s.estimates s.leasts s.live l.started l.holders l.k)
    × Retimed l.initial.columns l.columns
    × (l.k < l.count → (get_or l.order l.k 0 < slots) × (l.holding + l.k < slots) × (l.cleanup ≤ get_or l.ends (l.holding + l.k) 0))
