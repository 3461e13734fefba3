-- `longest::widest` meets its contract: the points passed have been scanned.
-- Assumes nothing.
use Rattle.longest.specs.Scan.{Scans, Scanned}
use Rattle.longest.proofs.widest.Given as goal

abbrev pub invariant-loop-i : goal.invariant-loop-i
invariant-loop-i l = (s : Scans l.minutes l.free l.count l.nodes l.by) → Scanned s l.since l.longest l.i
