-- `conservative_index::search` meets its contract: before each block the search stands where it should, and has counted what it should.
-- Assumes nothing.
use Prim.Native.Nat.{◌+◌, ◌-◌, ◌*◌, ◌≤◌}
use mathlib.Core.Path.{◌≡◌}
use native.Mathlib.Omega.{arith}
use Rattle.conservative_index.specs.Anchors.{pass_few}
use Rattle.conservative_index.specs.Search.{going_begin, going_on, going_end}
use borrow.Author.Rules.{rules}
use Rattle.conservative_index.proofs.search.Goals as goal

pub loop-b-init : goal.loop-b-init
loop-b-init c = going_begin

pub overflow_add-reads : goal.overflow_add-reads
overflow_add-reads c =
    let l = c.loop-b in
    let e = c.min-to.ensures in
    let h : c.pass_block-step.result.reads ≤ c.min-to.result - 16 * l.b = rw c.pass_block-step.ensures
    (pass_few _ _ _ _ _ _ _ _ _) in
    let k : l.reads + c.pass_block-step.result.reads ≤ 262 = omega (arith, e, c.requires.fit, l.invariant.few) in
    search rules

pub loop-b-preserved : goal.loop-b-preserved
loop-b-preserved c =
    let l = c.loop-b in
    let e = c.min-to.ensures in
    let z : 16 * (l.b + 1) ≡ 16 * l.b + 16 = omega arith in
    rw z (going_on l.invariant (omega arith) _ (omega (arith, e)) c.pass_block-step.result c.pass_block-step.ensures)

pub returns : goal.returns
returns c = λ s. going_end c.loop-b.invariant (omega arith) s c.minute.ensures
