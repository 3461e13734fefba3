-- `easy_columns::begin` meets its contract. The invariant: the lists are those of the first `i` jobs.
-- Assumes nothing.
use native.Mathlib.Omega.{arith}
use mathlib.Core.Path.{refl, ◌∙◌}
use Rattle.easy_columns.specs.EasyBegin.{begin_few, looked_first, looked_waits, looked_fits, until_running, until_is, until_low, looked_holds, looked_all}
use Rattle.easy_columns.proofs.begin.Goals.{In-loop-i, then-state-eq1, else-state-eq1}
use Rattle.easy_columns.proofs.begin.Goals as goal

pub loop-i-init : goal.loop-i-init
loop-i-init c = (omega arith, omega arith, begin_few c.requires, λ S b e q. looked_first b _ e)

pub free_again-requires : goal.free_again-requires
free_again-requires c =
    let l = c.loop-i in
    let v = l.invariant.3 c.args.settings c.requires refl c.cleanup-cleanup.ensures in
    λ q.
    let e = until_running c.requires l.i c.loop-i-test.true v c.if-state-eq1.false q _ c.cleanup-cleanup.ensures in
    until_low c.requires l.i c.loop-i-test.true v c.if-state-eq1.false _ e

pub overflow_sub-spare : goal.overflow_sub-spare
overflow_sub-spare c =
    let l = c.loop-i in
    looked_fits c.requires l.i c.loop-i-test.true (l.invariant.3 c.args.settings c.requires refl c.cleanup-cleanup.ensures) c.if-state-eq1.false

pub loop-i-preserved : goal.loop-i-preserved
loop-i-preserved c =
    let l = c.loop-i in
    let t = c.loop-i-test.true in
    elim c.if-state-eq1.branch [
      | then-state-eq1 w ↦ rw (w.asked-is, w.occupancy-is, w.spare-is, w.n-is) (
        omega arith,
        omega (arith, l.invariant.1),
        l.invariant.2,
        λ S b e q. looked_waits b l.i t (l.invariant.3 S b e q) w.if-state-eq1.true,
      )
      | else-state-eq1 w ↦ rw (w.asked-is, w.occupancy-is, w.spare-is, w.n-is) (
        omega arith,
        omega (arith, l.invariant.1),
        l.invariant.2,
        λ S b e q.
            let v = l.invariant.3 S b e q in
            looked_holds b l.i t v w.if-state-eq1.false _ (w.free_again.ensures ∙ until_is b l.i t v w.if-state-eq1.false _ q),
      )
    ]

pub returns : goal.returns
returns c =
    let l = c.loop-i in
    λ b. looked_all b l.i c.loop-i-test.false (l.invariant.3 _ b refl c.cleanup-cleanup.ensures)
