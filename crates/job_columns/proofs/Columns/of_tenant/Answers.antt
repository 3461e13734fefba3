-- `job_columns::Columns::of_tenant` meets its contract.
-- Assumes nothing.
use Prim.Native.Nat.{ℕ}
use Rattle.std.specs.Prelude.{◌==◌, count_by}
use mathlib.Core.Path.{ap, ◌∙◌}
use lib.Dec.{eqb}
use lib.ListN.{length}
use Rattle.lists.specs.Lists.{keep, length_keep}
use Rattle.scheduler.specs.declared.Job.{Job}
use Rattle.scheduler.specs.Table.{of_tenant}
use Rattle.job_columns.specs.Columns.{column_take}
use Rattle.job_columns.specs.Searches.{counted}
use Rattle.job_columns.specs.JobColumns.{tenant_of}
use Rattle.job_columns.proofs.Columns.of_tenant.Goals as goal

pub returns : goal.returns
returns c =
    λ js k n.
    c.count_of.ensures
    ∙ ap (count_by (λ x. x == c.tenant_number.result)) (column_take tenant_of js c.args.self.now.tenants k c.args.self.now.live n)
    ∙ counted tenant_of c.tenant_number.result js
    ∙ ap (λ (m : ℕ). length (keep (λ (j : Job). eqb (tenant_of j) m) js)) c.tenant_number.ensures
    ∙ length_keep (of_tenant c.args.tenant) js
