-- `easy_engine::leading` meets its contract: the search finds the head's place, or nobody waits.
-- Assumes nothing.
use native.Mathlib.Omega.{arith}
use mathlib.Core.Path.{refl, sym, ap, ◌∙◌}
use lib.ListN.{length}
use Rattle.scheduler.specs.Limits.{max_nodes}
use Rattle.scheduler.specs.Jobs.{unused}
use Rattle.scheduler.specs.Table.{ticket_of}
use Rattle.job_columns.specs.Columns.{column_at}
use Rattle.easy_engine.specs.Survey.{asks_to, ticket_in}
use Rattle.easy_engine.specs.Choices.{headless, head_is_lem}
use Rattle.easy_engine.specs.Found.{found, within, nowhere}
use Rattle.easy_engine.proofs.leading.Goals as goal

pub returns-in-Some : goal.returns-in-Some
returns-in-Some c = λ m s k t e.
    let w = c.first_within.ensures.place m.jobs k e in
    let p = found (asks_to max_nodes) m.jobs refl _ w c.in-Some.h c.in-Some.is in
    let l = within (asks_to max_nodes) m.jobs refl _ w c.in-Some.h c.in-Some.is in
    column_at ticket_of m.jobs _ t unused c.in-Some.h l ∙ sym (ap ticket_in (head_is_lem m m.jobs refl s c.in-Some.h p l))

pub returns-in-None : goal.returns-in-None
returns-in-None c = λ m s k t e.
    let w = c.first_within.ensures.place m.jobs k e in
    sym (ap ticket_in (headless m m.jobs refl s (length m.jobs) (nowhere (asks_to max_nodes) m.jobs refl _ w c.in-None.is) (omega arith)))
