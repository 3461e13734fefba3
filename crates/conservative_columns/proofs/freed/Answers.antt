-- `conservative_columns::freed` meets its contract.
-- Assumes nothing.
use native.Mathlib.Omega.{arith}
use Rattle.conservative_columns.proofs.freed.Goals as goal

pub given_back-requires : goal.given_back-requires
given_back-requires c =
    let low = c.requires.3 (omega (arith, c.if-columns-at.false)) in
    (low.0, low.1, c.requires.1, c.requires.2)

pub returns-then-columns-at : goal.returns-then-columns-at
returns-then-columns-at c l = absurd (omega (arith, c.if-columns-at.true))

pub returns : goal.returns
returns c l = c.given_back.ensures
