-- `longest::estimate` meets its contract.
-- Assumes nothing.
use mathlib.Core.Path.{sym, ap, ◌∙◌}
use native.Mathlib.Omega.{arith}
use Rattle.scheduler.specs.Answers.{accepts}
use Rattle.scheduler.specs.Model.{view}
use Rattle.longest.specs.ByRoom.{past_given, shared_given, shared_fit}
use Rattle.longest.proofs.estimate.Goals as goal

pub returns-then-q-d : goal.returns-then-q-d
unfolding view
returns-then-q-d c =
    past_given c.args.d c.args.q c.requires c.if-q-d.true

pub by_room-requires : goal.by_room-requires
unfolding view
by_room-requires c = (
  c.requires,
  shared_fit c.args.d c.args.q c.requires (ap accepts (sym c.shared_refusal-refusal.ensures) ∙ sym c.is_none.ensures ∙ c.if-is_none.true),
  omega (arith, c.if-q-d.false),
)

pub returns : goal.returns
unfolding view
returns c =
    rw c.shared_refusal-refusal.ensures
    (shared_given c.args.d c.args.q c.requires (omega (arith, c.if-q-d.false))
    (ap accepts (sym c.shared_refusal-refusal.ensures) ∙ sym c.is_none.ensures ∙ c.if-is_none.false))
