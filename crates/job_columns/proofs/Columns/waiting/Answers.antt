-- `job_columns::Columns::waiting` meets its contract: a job waits whose state has the number 1.
-- Assumes nothing.
use Rattle.std.specs.Prelude.{◌==◌, count_by}
use mathlib.Core.Path.{ap, ◌∙◌}
use mathlib.Core.List.{List}
use lib.Dec.{eqb}
use lib.ListN.{length}
use Rattle.lists.specs.Lists.{keep_cong}
use Rattle.scheduler.specs.declared.Job.{Job}
use Rattle.scheduler.specs.Jobs.{is_waiting}
use Rattle.job_columns.specs.Columns.{column_take}
use Rattle.job_columns.specs.Searches.{counted}
use Rattle.job_columns.specs.JobColumns.{state_of}
use Rattle.job_columns.specs.Encoding.{number_waiting}
use Rattle.job_columns.proofs.Columns.waiting.Goals as goal

pub returns : goal.returns
returns c = λ js k n.
    c.count_of.ensures
    ∙ ap (count_by (λ x. x == 1)) (column_take state_of js c.args.self.now.states k c.args.self.now.live n)
    ∙ counted state_of 1 js
    ∙ ap (λ (xs : List Job). length xs) (keep_cong (λ (j : Job). eqb (state_of j) 1) is_waiting js (λ j i. number_waiting j.state))
