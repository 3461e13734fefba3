-- `job_columns::Columns::first_due` meets its contract: no place passed has the minute.
-- Assumes nothing.
use Prim.Native.Nat.{ℕ, ◌≤◌, ◌<◌}
use mathlib.Core.Path.{◌≡◌}
use mathlib.Core.List.{List}
use lib.ListN.{get_or}
use Rattle.job_columns.proofs.Columns.first_due.Given as goal

abbrev pub None : (dues : List ℕ) (from minute i : ℕ) → Type 0
None dues from minute i = (k : ℕ) → from ≤ k → k < i → get_or dues k 0 ≡ minute → ⊥

abbrev pub invariant-loop-i : goal.invariant-loop-i
invariant-loop-i l = (l.from ≤ l.i) × (l.i ≤ l.self.live) × None l.self.dues l.from l.minute l.i
