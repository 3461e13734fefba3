-- `conservative_index::pass_points` meets its contract: the search stands where it should after the points passed.
-- Assumes nothing.
use Prim.Native.Nat.{◌+◌, ◌-◌, ◌<◌}
use native.Mathlib.Omega.{arith}
use mathlib.Core.Path.{sym}
use lib.ListN.{get_or}
use Rattle.conservative_index.proofs.Parts.{part_long, part_at}
use Rattle.conservative_index.specs.Anchors.{note, stands, pass_found, pass_open, pass_shut}
use Rattle.conservative_index.proofs.pass_points.Invariants.{begin, found, one_more}
use Rattle.conservative_index.proofs.pass_points.Goals.{
  then-on+else-first-minute,
  else-first-minute-via-then-first-minute+else-hold-minute,
  else-first-minute-via-else-first-minute,
  else-on,
}
use Rattle.conservative_index.proofs.pass_points.Goals as goal

pub loop-k-init : goal.loop-k-init
loop-k-init c = begin _ _ _ _ _ _ (rw (c.is_open-on.ensures, c.minute-first.ensures) (stands c.args.before c.requires.4))

pub returns-then-hold-minute : goal.returns-then-hold-minute
returns-then-hold-minute c =
    let l = c.loop-k in
    let a = c.args in
    let n = part_long a.minutes.now a.from (a.from + a.count - a.from) (omega (arith, c.requires)) in
    let h : l.k < a.count = omega (arith, n, c.loop-k-test.true) in
    let p = part_at a.minutes.now a.from (a.from + a.count - a.from) l.k (omega arith) in
    found _ _ _ _ _ _ l.first l.invariant h
    (rw c.if-on.true (sym (pass_found a.hold (get_or a.minutes.now (a.from + l.k) 0) l.first (note a.enough.now l.k) (omega (arith, p)))))

pub loop-k-preserved : goal.loop-k-preserved
loop-k-preserved c =
    let l = c.loop-k in
    let a = c.args in
    let n = part_long a.minutes.now a.from (a.from + a.count - a.from) (omega (arith, c.requires)) in
    let h : l.k < a.count = omega (arith, n, c.loop-k-test.true) in
    let p = part_at a.minutes.now a.from (a.from + a.count - a.from) l.k (omega arith) in
    let t = get_or a.minutes.now (a.from + l.k) 0 in
    let b = note a.enough.now l.k in
    one_more _ _ _ _ _ _ l.invariant h (
    elim c.if-on.branch [
      | then-on+else-first-minute w ↦
          let early : t < l.first + a.hold =
          elim w.else-first-minute.branch [
            | else-first-minute-via-then-first-minute+else-hold-minute v ↦ omega (arith, p)
            | else-first-minute-via-else-first-minute v ↦ omega (arith, p)
          ] in
          rw (w.first-is, w.if-on.true) (sym (pass_open a.hold t l.first b early))
      | else-on w ↦ rw (w.first-is, w.if-on.false, p) (sym (pass_shut a.hold t l.first b))
    ]
    )
