-- `job_columns::Columns::begin` meets its contract.
-- Assumes nothing.
use Prim.Native.Nat.{ℕ, ◌+◌}
use mathlib.Core.Path.{refl, ap}
use Rattle.job_columns.specs.ColumnChanges.{columns_begun}
use Rattle.job_columns.proofs.Columns.begin.Goals as goal

pub returns : goal.returns
returns c = record {
  retimed = refl;
  begun = λ S js tickets nodes tenants estimates leasts live k l e.
      columns_begun k c.args.at l c.args.clock _ (ap (λ (n : ℕ). c.args.clock + n) e);
}
