-- `easy_columns::Occupancy::release` meets its contract. The invariant: of those left the first `i` stay, and who is missing has left.
-- Assumes nothing.
use Prim.Native.Nat.{◌-◌, ◌≤◌}
use Rattle.easy_columns.specs.Held.{SiftIn, SiftedIn}
use Rattle.easy_columns.proofs.Occupancy.release.Given as goal

abbrev pub invariant-loop-i : goal.invariant-loop-i
invariant-loop-i l =
    (l.i ≤ l.self.holding) × (l.self.holding ≤ 64)
    × ((s : SiftIn l.initial.self) → SiftedIn s.jobs s.frees l.minute l.initial.self.spare l.self l.i)

abbrev pub decreases-loop-i : goal.decreases-loop-i
decreases-loop-i l = l.self.holding - l.i
