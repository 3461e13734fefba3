-- `easy_engine::shadow` meets its contract. The invariant: the search over the jobs that are left, from the best minute so far, finds the
-- shadow.
-- Assumes nothing.
use Prim.Native.Nat.{◌<◌}
use native.Mathlib.Omega.{arith}
use mathlib.Core.Path.{◌≡◌, sym, ◌∙◌}
use lib.ListN.{take, length}
use Rattle.std.proofs.Common.{length-take-le, get_or-take}
use Rattle.easy_engine.specs.Shadows.{holding_few, search_first, search_step, search_done}
use Rattle.easy_engine.proofs.shadow.Goals.{Start}
use Rattle.easy_engine.proofs.shadow.Goals as goal

-- the ends are those of the jobs that hold nodes
ends_length : (c : Start) → length (take c.args.running c.args.ends.now) ≡ c.args.running
ends_length c = length-take-le c.args.running c.args.ends.now (omega (arith, holding_few c.requires.of.holding))

pub shared_ref_as_front-end-items : goal.shared_ref_as_front-end-items
shared_ref_as_front-end-items c = holding_few c.requires.of.holding

pub loop-end-init : goal.loop-end-init
loop-end-init c = λ k. search_first k

pub loop-end-preserved : goal.loop-end-preserved
loop-end-preserved c =
    let l = c.loop-end in
    let h = ends_length (goal.at.loop-end-preserved c).Start in
    let b : l.end-index < c.args.running = omega arith in
    λ k. search_step k.of.holding c.args.nodes l.best l.end-index c.sooner-best.result b
    (rw get_or-take at c.sooner-best.ensures k.of) ∙ l.invariant k

pub returns : goal.returns
returns c =
    let l = c.loop-end in
    let h = ends_length (goal.at.returns c).Start in
    λ k. sym (search_done k.of.holding c.args.nodes l.best l.end-index (omega arith)) ∙ l.invariant k
