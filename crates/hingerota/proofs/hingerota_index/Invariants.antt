-- `hingerota_index` meets its contract: the blocks so far are written.
-- Assumes nothing.
use Rattle.std.specs.Prelude.{◌≡◌, ◌≤◌}
use Rattle.hingerota.specs.IndexContract.{block_at}
use Rattle.lent_lemmas.proofs.Fills.{filled}
use Rattle.hingerota.proofs.hingerota_index.Given as goal

abbrev pub invariant-loop-i : goal.invariant-loop-i
invariant-loop-i l = (l.i ≤ l.p.count) × (l.blocks ≡ filled l.i (block_at l.p) l.fn.blocks)
