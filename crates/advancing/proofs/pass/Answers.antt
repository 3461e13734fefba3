-- `advancing::pass` meets its contract: quiet minutes are passed over, and then a tick is made.
-- Assumes nothing.
use native.Mathlib.Omega.{arith}
use Rattle.scheduler.specs.Model.{view}
use Rattle.advancing.specs.Minutes.{wait_within}
use Rattle.advancing.specs.Advances.{passed_time, passed_held, given_due, given_all}
use Rattle.advancing.proofs.pass.Goals as goal

pub quiet_for-quiet-requires : goal.quiet_for-quiet-requires
unfolding view
quiet_for-quiet-requires c = (c.requires.0, wait_within (view c.args.d) c.args.minutes c.requires.1)

pub overflow_add-passed : goal.overflow_add-passed
overflow_add-passed c =
    let q = c.quiet_for-quiet in
    omega (arith, passed_time c.args.d c.args.minutes q.result c.requires.0 q.ensures c.requires.1)

pub tick-o-requires : goal.tick-o-requires
tick-o-requires c =
    let q = c.quiet_for-quiet in
    passed_held c.args.d c.args.minutes q.result c.requires.0 q.ensures c.requires.1

pub returns-then-quiet-minutes : goal.returns-then-quiet-minutes
returns-then-quiet-minutes c =
    let q = c.quiet_for-quiet in
    given_due c.args.d c.args.minutes q.result c.requires.0 q.ensures c.requires.1 c.tick-o.result c.if-quiet-minutes.true c.tick-o.ensures

pub returns : goal.returns
returns c =
    let q = c.quiet_for-quiet in
    rw c.refused.ensures
    (given_all c.args.d c.args.minutes q.result c.requires.0 q.ensures c.requires.1 c.if-quiet-minutes.false)
