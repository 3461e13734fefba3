-- `job_columns::Columns::append` meets its contract: each column gets the job's number.
-- Assumes nothing.
use mathlib.Core.Path.{refl}
use Rattle.job_columns.specs.ColumnChanges.{columns_joined}
use Rattle.job_columns.proofs.Columns.append.Goals as goal

pub returns : goal.returns
returns c =
    record { one_more = refl; appended = λ js k. columns_joined k c.args.j _ _ _ c.requires.0 c.state_number.ensures c.due.ensures c.tenant_number.ensures }
