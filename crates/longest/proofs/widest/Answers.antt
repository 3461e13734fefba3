-- `longest::widest` meets its contract: the points passed have been scanned.
-- Assumes nothing.
use Prim.Native.Nat.{◌<◌}
use native.Mathlib.Omega.{arith}
use mathlib.Core.Path.{◌≡◌}
use lib.ListN.{get_or, take}
use Rattle.std.proofs.Common.{rules}
use Rattle.std.proofs.lemmas.List.{places}
use Rattle.longest.specs.Scan.{edge_rise, scan_begin, scan_few, scan_enough, scan_end}
use Rattle.longest.proofs.widest.Goals.{else-left-nodes, then-left-nodes}
use Rattle.longest.proofs.widest.Goals as goal

pub loop-i-init : goal.loop-i-init
loop-i-init c s = scan_begin s

pub longer-longest-requires : goal.longer-longest-requires
longer-longest-requires c =
    let l = c.loop-i in
    let s = c.requires in
    omega (arith, c.edge-end.ensures, (l.invariant s).to, edge_rise s l.i (omega (arith, c.loop-i-test.true)))

pub loop-i-preserved : goal.loop-i-preserved
loop-i-preserved c =
    let l = c.loop-i in
    let a = c.args in
    let h : l.i < a.count = omega (arith, c.loop-i-test.true) in
    let at : get_or (take a.count a.free.now) l.i 0 ≡ get_or a.free.now l.i 0 = search (rules, places) in
    λ s. elim c.if-left-nodes.branch [
      | then-left-nodes w ↦ rw (w.since-is, w.longest-is, c.edge-end.ensures) (scan_few s (l.invariant s) h (omega (arith, at, w.if-left-nodes.true)))
      | else-left-nodes w ↦ rw (w.since-is, w.longest-is, w.longer-longest.ensures, c.edge-end.ensures) (scan_enough s (l.invariant s) h (omega (arith, at, w.if-left-nodes.false)))
    ]

pub returns : goal.returns
returns c s = scan_end s (c.loop-i.invariant s) (omega (arith, c.loop-i-test.false))
