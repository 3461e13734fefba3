-- `hingerota::check` meets its contract: the kind, the records' order, and then the tests of a desk read back.
-- Assumes nothing.
use mathlib.Core.Path.{◌≡◌, sym, ap, ◌∙◌}
use mathlib.Core.Bool.{Bool, true, false, cond, ◌&&◌}
use Prim.Native.Nat.{◌≤◌, ◌<◌}
use lib.Dec.{leb, eqb}
use lib.ListN.{length}
use borrow.Author.Tests.{le-leb, lt-leb, eq-eqb}
use Rattle.lists.specs.Tests.{and_right_false}
use Rattle.scheduler.specs.declared.Scheduler.{Scheduler}
use Rattle.scheduler.specs.Limits.{slots}
use Rattle.scheduler.specs.Model.{view}
use Rattle.checkpoint_rules.specs.Acceptance.{accepted}
use Rattle.hingerota.specs.declared.Desk.{Desk}
use Rattle.hingerota.specs.Mirror.{read}
use Rattle.hingerota.specs.Checks.{in_order, is_desk, check_number}
use Rattle.hingerota.proofs.Lengths.{whole}
use Rattle.hingerota.proofs.check.Goals as goal

module _ (d : Desk) where
  no_kind : 1 < d.kind → check_number d ≡ 23
  unfolding check_number is_desk
  no_kind l = rw (lt-leb d.kind 1 l)

  no-order : in_order true d.jobs ≡ false → check_number d ≡ 23
  unfolding check_number is_desk
  no-order e = rw (and_right_false (leb d.kind 1 && eqb (length d.jobs) slots) e)

  judged : (b : Bool) (s : Scheduler) → d.kind ≤ 1 → length d.jobs ≡ slots → in_order true d.jobs ≡ true → s ≡ read d → accepted (view s) ≡ b
      → check_number d ≡ cond b 0 23
  unfolding check_number is_desk
  judged b s l n e q a = rw (le-leb d.kind 1 l, eq-eqb (length d.jobs) slots n, e, ap (λ (x : Scheduler). accepted (view x)) (sym q) ∙ a)

pub returns-then-d-gt1 : goal.returns-then-d-gt1
returns-then-d-gt1 c = c.code-rejected.ensures ∙ sym (no_kind _ c.if-d-gt1.true)

pub returns-then-accepted : goal.returns-then-accepted
returns-then-accepted c =
    sym (judged c.args.d true _ c.if-d-gt1.false (whole c.args.d c.well_formed.0) (sym c.in_order.ensures ∙ c.if-in_order.true)
    c.read.ensures (sym c.accepted.ensures ∙ c.if-accepted.true))

pub returns-then-in_order : goal.returns-then-in_order
returns-then-in_order c =
    c.code-rejected.ensures
    ∙ sym (judged c.args.d false _ c.if-d-gt1.false (whole c.args.d c.well_formed.0) (sym c.in_order.ensures ∙ c.if-in_order.true)
    c.read.ensures (sym c.accepted.ensures ∙ c.if-accepted.false))

pub returns : goal.returns
returns c =
    c.code-rejected.ensures ∙ sym (no-order _ (sym c.in_order.ensures ∙ c.if-in_order.false))
