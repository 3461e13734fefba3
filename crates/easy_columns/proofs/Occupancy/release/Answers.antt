-- `easy_columns::Occupancy::release` meets its contract. The invariant: of those left the first `i` stay, and who is missing has left.
-- Assumes nothing.
use native.Mathlib.Omega.{arith}
use mathlib.Core.Path.{◌≡◌}
use Rattle.easy_columns.specs.Sifting.{sift_first, sift_within, sift_stays, sift_goes}
use Rattle.easy_columns.proofs.Occupancy.release.Goals as goal

pub loop-i-init : goal.loop-i-init
loop-i-init c = (omega arith, c.requires.few, λ s. sift_first s c.args.minute)

pub overflow_add-self : goal.overflow_add-self
overflow_add-self c =
    let l = c.loop-i in
    omega (arith, sift_within c.requires c.args.minute (l.invariant.2 c.requires) c.loop-i-test.true c.if-self-i.true)

pub loop-i-preserved-then-self-i : goal.loop-i-preserved-then-self-i
loop-i-preserved-then-self-i c =
    let l = c.loop-i in (
      omega arith,
      omega arith,
      λ s. rw c.take_out.ensures
          (sift_goes (l.invariant.2 s) c.loop-i-test.true c.if-self-i.true),
    )

pub loop-i-preserved : goal.loop-i-preserved
loop-i-preserved c =
    let l = c.loop-i in
    (omega arith, omega arith, λ s. sift_stays (l.invariant.2 s) c.loop-i-test.true c.if-self-i.false)

pub returns : goal.returns
returns c =
    let l = c.loop-i in
    let e : l.i ≡ l.self.holding = omega arith in
    λ s. rw e at (l.invariant.2 s)

pub take_out-requires : goal.take_out-requires
take_out-requires c = omega arith
