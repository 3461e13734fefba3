-- `conservative_index::pass_block` meets its contract: the four ways through it.
-- Assumes nothing.
use native.Mathlib.Omega.{arith}
use mathlib.Core.Path.{sym, ◌∙◌}
use Rattle.conservative_index.specs.Anchors.{pass_over, pass_free, pass_lost, pass_read}
use Rattle.conservative_index.proofs.pass_block.Goals as goal

pub returns-then-is_found : goal.returns-then-is_found
returns-then-is_found c = pass_over _ _ _ _ _ _ _ _ c.enter-here.ensures (sym c.is_found.ensures ∙ c.if-is_found.true)

pub returns-then-nodes-low : goal.returns-then-nodes-low
returns-then-nodes-low c = pass_free _ _ _ _ _ _ _ _ c.enter-here.ensures
    (sym c.is_found.ensures ∙ c.if-is_found.false) (omega arith) c.settle.ensures

pub returns-then-high-nodes : goal.returns-then-high-nodes
returns-then-high-nodes c = pass_lost _ _ _ _ _ _ _ _ c.enter-here.ensures
    (sym c.is_found.ensures ∙ c.if-is_found.false) (omega arith) (omega arith)

pub returns : goal.returns
returns c =
    pass_read _ _ _ _ _ _ _ _ c.enter-here.ensures (sym c.is_found.ensures ∙ c.if-is_found.false) (omega arith) (omega arith)
    c.read_points-reads.ensures c.pass_points.ensures
