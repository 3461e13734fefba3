-- `longest::by_room` meets its contract.
-- Assumes nothing.
use native.Mathlib.Omega.{arith}
use Rattle.scheduler.specs.Limits.{horizon}
use Rattle.scheduler.specs.Model.{view}
use Rattle.longest.specs.ByRoom.{scans, some_given, none_given, never_given}
use Rattle.longest.proofs.by_room.Goals as goal

pub widest-requires : goal.widest-requires
widest-requires c =
    scans c.args.d c.args.q c.requires.0 c.requires.1 c.requires.2 c.tabulate-count.ensures c.args.q.minute c.requires.2

pub returns-then-estimate-gt0 : goal.returns-then-estimate-gt0
unfolding view
returns-then-estimate-gt0 c =
    some_given c.args.d c.args.q c.requires.0 c.requires.1 c.requires.2 c.tabulate-count.ensures c.widest.ensures c.longest_within-estimate.ensures
    (omega (arith, c.if-estimate-gt0.true))

pub widest-requires-2 : goal.widest-requires-2
widest-requires-2 c =
    scans c.args.d c.args.q c.requires.0 c.requires.1 c.requires.2 c.tabulate-count.ensures horizon c.requires.0.holds.sound.clock_to

pub returns-then-ever-eq0 : goal.returns-then-ever-eq0
unfolding view
returns-then-ever-eq0 c =
    never_given c.args.d c.args.q c.requires.0 c.requires.1 c.requires.2 c.tabulate-count.ensures c.widest.ensures c.longest_within-estimate.ensures
    c.widest-2.ensures c.longest_within-ever.ensures c.if-ever-eq0.true

pub returns : goal.returns
unfolding view
returns c =
    none_given c.args.d c.args.q c.requires.0 c.requires.1 c.requires.2 c.tabulate-count.ensures c.widest.ensures c.longest_within-estimate.ensures
    c.widest-2.ensures c.longest_within-ever.ensures (omega (arith, c.if-estimate-gt0.false)) (omega (arith, c.if-ever-eq0.false))
