-- `column_calls::quiet_until` meets its contract.
-- Assumes nothing.
use Rattle.job_columns.specs.JobColumns.{due_of}
use Rattle.column_calls.specs.DueColumns.{soonest_quiet}
use Rattle.column_calls.proofs.quiet_until.Goals as goal

pub returns : goal.returns
returns c =
    let b = c.before_due.ensures in (
      b.from,
      b.to,
      λ S js k l. soonest_quiet S js _ _ _ _ (c.next_due.ensures (due_of S) js k l) b,
    )
