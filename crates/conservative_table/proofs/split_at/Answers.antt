-- `conservative_table::split_at` meets its contract: the minute is there already, or is put in after the one that it follows.
-- Assumes nothing.
use native.Mathlib.Omega.{arith}
use Rattle.conservative_table.specs.Table.{split_new}
use Rattle.conservative_table.proofs.split_at.Goals as goal

pub returns : goal.returns
returns c =
    let p = c.requires.0 in
    split_new p (omega (arith, p.last)) c.insert.ensures c.insert-2.ensures
