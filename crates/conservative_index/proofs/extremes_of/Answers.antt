-- `conservative_index::extremes_of` meets its contract: they are those of the places passed.
-- Assumes nothing.
use Prim.Native.Nat.{ℕ, ◌+◌, ◌-◌, min, max, ◌<◌}
use native.Mathlib.Omega.{arith}
use mathlib.Core.Path.{◌≡◌, ap, ◌∙◌}
use Rattle.conservative_index.proofs.Parts.{part_long, part_at}
use Rattle.conservative_index.specs.BuiltIndex.{running_begin, running_more}
use Rattle.conservative_index.proofs.extremes_of.Goals as goal

pub loop-left-init : goal.loop-left-init
loop-left-init c =
    let a = c.args in
    let z : a.from + 1 + 0 ≡ a.from + 1 = omega arith in
    rw z (running_begin min a.free.now a.from a.to c.requires.1, running_begin max a.free.now a.from a.to c.requires.1)

pub loop-left-preserved : goal.loop-left-preserved
loop-left-preserved c =
    let l = c.loop-left in
    let a = c.args in
    let i : ℕ = a.from + 1 + l.left-index in
    let z : a.from + 1 + (l.left-index + 1) ≡ i + 1 = omega arith in
    let n = part_long a.free.now (a.from + 1) (a.to - (a.from + 1)) (omega (arith, c.requires)) in
    let h : i < a.to = omega (arith, n, c.loop-left-test.true) in
    let p = part_at a.free.now (a.from + 1) (a.to - (a.from + 1)) l.left-index (omega (arith, h)) in
    rw z (
      running_more min a.free.now a.from a.to l.invariant.0 h (c.min-low.ensures ∙ ap (min l.low) p),
      running_more max a.free.now a.from a.to l.invariant.1 h (c.max-high.ensures ∙ ap (max l.high) p),
    )
