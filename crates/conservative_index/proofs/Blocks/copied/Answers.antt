-- `Blocks::copied` meets its contract: the blocks passed are copied.
-- Assumes nothing.
use Prim.Native.Nat.{ℕ}
use mathlib.Core.Path.{◌≡◌, sym, ap, ◌∙◌}
use native.Mathlib.Omega.{arith}
use Rattle.lists.specs.Pads.{pad}
use Rattle.spans.specs.Index.{blocks}
use Rattle.conservative_index.specs.BuiltIndex.{held}
use Rattle.conservative_index.specs.StoredIndex.{block_places, no_block, blocks_none, blocks_more, blocks_all}
use Rattle.conservative_index.proofs.Blocks.copied.Goals as goal

pub loop-i-init : goal.loop-i-init
unfolding pad
loop-i-init c = (omega arith, omega arith, blocks_none c.args.low.now c.args.high.now)

pub loop-i-preserved : goal.loop-i-preserved
loop-i-preserved c =
    let l = c.loop-i in
    (omega arith, l.invariant.1, blocks_more c.args.low.now c.args.high.now l.list l.i l.invariant.2 (omega (arith, l.invariant.1)))

pub returns : goal.returns
returns c =
    let l = c.loop-i in
    let n : c.div_ceil-count.result ≡ blocks c.args.points = omega (arith, c.div_ceil-count.ensures) in
    rw (sym n) (blocks_all c.args.low.now c.args.high.now l.list _
    (l.invariant.2 ∙ ap (λ (i : ℕ). pad block_places no_block (held c.args.low.now c.args.high.now i)) (omega (arith, l.invariant.0))))
