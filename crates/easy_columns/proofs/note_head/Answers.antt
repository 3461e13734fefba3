-- `easy_columns::note_head` meets its contract: there is no new head, or it stands in its place.
-- Assumes nothing.
use native.Mathlib.Omega.{arith}
use mathlib.Core.Path.{sym, ap, ◌∙◌}
use mathlib.Core.Option.{Option}
use mathlib.Core.List.{map}
use Rattle.lists.specs.Pads.{pad}
use Rattle.scheduler.specs.Limits.{slots}
use Rattle.scheduler.specs.Answers.{Forecast}
use Rattle.easy_rules.specs.Easy.{noted}
use Rattle.job_columns.specs.JobColumns.{forecast_of}
use Rattle.easy_columns.specs.HeadNoted.{none_heard, head_place, head_stored}
use Rattle.easy_columns.proofs.note_head.Goals as goal

pub returns-then-at-columns : goal.returns-then-at-columns
returns-then-at-columns c = λ m o a n t f et em h.
    head_stored m a o h _ _ _ _ n et em c.if-head-eq0.false (c.find-at.ensures m.jobs t a n) c.if-at-columns.true _ f

pub returns-else-at-columns : goal.returns-else-at-columns
returns-else-at-columns c = λ m o a n t f et em h.
    absurd (omega (
      arith,
      head_place m a o h _ _ _ _ n et em c.if-head-eq0.false (c.find-at.ensures m.jobs t a n),
      c.if-at-columns.false,
    ))

pub returns-then-head-eq0 : goal.returns-then-head-eq0
returns-then-head-eq0 c = λ m o a n t f et em h.
    f ∙ ap (λ (x : Option Forecast). pad slots 0 (map forecast_of (noted x m).jobs)) (sym (none_heard m.jobs o h (sym c.if-head-eq0.true ∙ et)))
