use Rattle.guarantees.specs.Premise.{premise_sound}
use Rattle.scheduler.specs.Refusals.{wait_refusal}
use Rattle.scheduler.specs.Answers.{verdict}
use Rattle.scheduler.specs.Model.{view}
use Rattle.scheduler.specs.Limits.{horizon, longest_wait, outside}
use Rattle.lists.specs.Tests.{neither}
use borrow.Author.Tests.{lt-ltb, le-ltb, ltb-false}
use Prim.Native.Nat.{◌+◌}
use lib.Dec.{ltb}
use native.Mathlib.Omega.{arith}
use mathlib.Core.Bool.{true, false}
use mathlib.Core.Path.{◌≡◌, sym, ◌∙◌}
use Rattle.calls.proofs.wait_refusal.Goals as goal

pub returns-then-outside_range : goal.returns-then-outside_range
unfolding wait_refusal verdict view
returns-then-outside_range c =
    let t : outside 1 longest_wait c.args.minutes ≡ true = sym c.outside_range.ensures ∙ c.if-outside_range.true in
    rw t

pub overflow_add-d : goal.overflow_add-d
unfolding view
overflow_add-d c =
    let t : outside 1 longest_wait c.args.minutes ≡ false = sym c.outside_range.ensures ∙ c.if-outside_range.false in
    let n = neither (ltb c.args.minutes 1) (ltb longest_wait c.args.minutes) t in
    omega (arith, (premise_sound c.args.d c.requires).clock_to, ltb-false longest_wait c.args.minutes n.1)

pub returns-then-d-minutes-gt-HORIZON : goal.returns-then-d-minutes-gt-HORIZON
unfolding wait_refusal verdict view
returns-then-d-minutes-gt-HORIZON c =
    let t : outside 1 longest_wait c.args.minutes ≡ false = sym c.outside_range.ensures ∙ c.if-outside_range.false in
    rw (t, lt-ltb horizon (c.args.d.clock + c.args.minutes) c.if-d-minutes-gt-HORIZON.true)

pub returns : goal.returns
unfolding wait_refusal verdict view
returns c =
    let t : outside 1 longest_wait c.args.minutes ≡ false = sym c.outside_range.ensures ∙ c.if-outside_range.false in
    rw (t, le-ltb horizon (c.args.d.clock + c.args.minutes) c.if-d-minutes-gt-HORIZON.false)
