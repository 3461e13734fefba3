-- `longest::edge` meets its contract.
-- Assumes nothing.
use mathlib.Core.Path.{sym}
use native.Mathlib.Omega.{arith}
use Rattle.longest.specs.Scan.{edge_in, edge_out}
use Rattle.longest.proofs.edge.Goals as goal

pub returns-then-i-count : goal.returns-then-i-count
returns-then-i-count c = sym (edge_in _ _ _ c.if-i-count.true)

pub returns-else-i-count : goal.returns-else-i-count
returns-else-i-count c = sym (edge_out _ _ _ (omega (arith, c.if-i-count.false)))
