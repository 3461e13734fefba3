-- `conservative_table::join` meets its contract: the place differs from the one before it, or has left.
-- Assumes nothing.
use native.Mathlib.Omega.{arith}
use Rattle.conservative_table.specs.Join.{join_none, join_left}
use Rattle.conservative_table.proofs.join.Goals.{then-at-eq0-via-then-at-eq0, then-at-eq0-via-else-at-eq0+then-free-at}
use Rattle.conservative_table.proofs.join.Goals as goal

pub returns-then-at-eq0 : goal.returns-then-at-eq0
returns-then-at-eq0 c =
    join_none c.requires
    (λ u. elim c.then-at-eq0.branch [ then-at-eq0-via-then-at-eq0 w ↦ absurd (omega arith) | then-at-eq0-via-else-at-eq0+then-free-at w ↦ w.if-free-at.true ])

pub returns : goal.returns
returns c =
    join_left c.requires (omega arith) (omega arith) c.withdraw.ensures c.withdraw-2.ensures
