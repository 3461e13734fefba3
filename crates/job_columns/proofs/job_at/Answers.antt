-- `job_columns::job_at` meets its contract: each field is the number in its column.
-- Assumes nothing.
use Rattle.job_columns.specs.Gathering.{row_back}
use Rattle.job_columns.proofs.job_at.Goals as goal

pub returns : goal.returns
returns c =
    λ S js k l z n.
    row_back k c.args.i l c.args.cleanup _ _ _ z n c.state_of.ensures c.tenant_of.ensures c.end_of.ensures
