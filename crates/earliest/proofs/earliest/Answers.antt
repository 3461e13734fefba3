-- `earliest::earliest` meets its contract.
-- Assumes nothing.
use Prim.Native.Nat.{ℕ, ◌+◌}
use native.Mathlib.Omega.{arith}
use mathlib.Core.Path.{ap}
use Rattle.scheduler.specs.Times.{unit_le}
use Rattle.earliest.specs.Survey.{clock_low, held_by, Short, short_by, lacks_by, now_given}
use Rattle.earliest.proofs.earliest.Goals.{After-unit}
use Rattle.earliest.proofs.earliest.Goals as goal

-- where the nodes are not there now
short : (u : After-unit)
    → Short u.args.d u.survey-taken.ensures u.args.nodes (u.args.d.clock + u.unit.result)
short u =
    short_by u.args.d u.survey-taken.ensures u.args.nodes _
    (omega (arith, u.if-nodes-avail_at.false, u.avail_at.ensures (held_by u.args.d u.survey-taken.ensures))) u.requires.1
    (ap (λ (x : ℕ). u.args.d.clock + x) u.unit.ensures)

pub survey-taken-requires : goal.survey-taken-requires
survey-taken-requires c = c.requires.0

pub returns-then-nodes-avail_at : goal.returns-then-nodes-avail_at
returns-then-nodes-avail_at c =
    now_given c.args.d c.args.nodes (omega (arith, c.if-nodes-avail_at.true, c.avail_at.ensures (held_by c.args.d c.survey-taken.ensures)))

pub overflow_add-latest : goal.overflow_add-latest
overflow_add-latest c =
    omega (arith, c.unit.ensures, unit_le c.args.d.settings, clock_low c.args.d c.requires.0)

pub shadow-requires : goal.shadow-requires
shadow-requires c =
    lacks_by c.args.d c.survey-taken.ensures (short (goal.at.shadow-requires c).After-unit)

pub returns : goal.returns
returns c =
    c.shadow.ensures (lacks_by c.args.d c.survey-taken.ensures (short (goal.at.returns c).After-unit))
