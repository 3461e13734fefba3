-- `job_columns::Columns::clean` meets its contract.
-- Assumes nothing.
use Prim.Native.Nat.{ℕ, ◌+◌}
use mathlib.Core.Path.{refl, ap}
use Rattle.job_columns.specs.ColumnChanges.{columns_cleaned}
use Rattle.job_columns.proofs.Columns.clean.Goals as goal

pub returns : goal.returns
returns c = record {
  restated = refl;
  cleaned = λ S js tickets nodes starts tenants estimates leasts live k l e.
      columns_cleaned k c.args.at l c.args.clock _ (ap (λ (n : ℕ). c.args.clock + n) e);
}
