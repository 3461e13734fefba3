-- `easy_engine::rests_at` meets its contract.
-- Assumes nothing.
use native.Mathlib.Omega.{arith}
use mathlib.Core.Path.{refl, sym, ◌∙◌}
use mathlib.Core.Bool.{false}
use borrow.Author.Tests.{eqb-true}
use Rattle.lists.specs.Tests.{true_false}
use Rattle.easy_engine.specs.Survey.{asks_to}
use Rattle.easy_engine.specs.BySlot.{at_rest}
use Rattle.easy_engine.specs.Found.{nobody}
use Rattle.easy_engine.proofs.rests_at.Goals as goal

pub returns-then-is_some : goal.returns-then-is_some
returns-then-is_some c = λ b m r k e f h q z. true_false false z refl

pub returns-then-first-eq0 : goal.returns-then-first-eq0
returns-then-first-eq0 c = λ b m r k e f h q z.
    at_rest b m r _ _ _ f h q (nobody (asks_to c.args.spare) m.jobs _ (c.first_within.ensures.place m.jobs k e) (sym c.is_some.ensures ∙ c.if-is_some.false))
    (λ l. absurd (omega arith))

pub returns-else-first-eq0 : goal.returns-else-first-eq0
returns-else-first-eq0 c = λ b m r k e f h q z.
    at_rest b m r _ _ _ f h q (nobody (asks_to c.args.spare) m.jobs _ (c.first_within.ensures.place m.jobs k e) (sym c.is_some.ensures ∙ c.if-is_some.false))
    (λ l. eqb-true _ _ z)
