-- `easy_engine::rests` meets its contract.
-- Assumes nothing.
use native.Mathlib.Omega.{arith}
use mathlib.Core.Path.{refl, sym, ◌∙◌}
use mathlib.Core.Bool.{false}
use borrow.Author.Tests.{eqb-true}
use Rattle.lists.specs.Tests.{true_false}
use Rattle.scheduler.specs.Jobs.{unused}
use Rattle.scheduler.specs.Table.{ticket_of}
use Rattle.job_columns.specs.Columns.{column_at}
use Rattle.easy_engine.specs.Survey.{asks_to}
use Rattle.easy_engine.specs.Choices.{same_first}
use Rattle.easy_engine.specs.Found.{nobody}
use Rattle.easy_engine.proofs.rests.Goals as goal

pub returns-then-is_some : goal.returns-then-is_some
returns-then-is_some c = λ ws k f e q. true_false false q refl

pub returns-then-waiting-eq0 : goal.returns-then-waiting-eq0
returns-then-waiting-eq0 c = λ ws k f e q. record {
  none_fits = nobody (asks_to c.args.spare) ws _ (c.first_within.ensures.place ws k e) (sym c.is_some.ensures ∙ c.if-is_some.false);
  same_head = same_first ws c.args.before (λ l. absurd (omega arith));
}

pub returns-else-waiting-eq0 : goal.returns-else-waiting-eq0
returns-else-waiting-eq0 c = λ ws k f e q. record {
  none_fits = nobody (asks_to c.args.spare) ws _ (c.first_within.ensures.place ws k e) (sym c.is_some.ensures ∙ c.if-is_some.false);
  same_head = same_first ws c.args.before (λ l. sym (eqb-true _ c.args.before q) ∙ column_at ticket_of ws c.args.tickets.now f unused 0 l);
}
