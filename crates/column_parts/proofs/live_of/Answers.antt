-- `column_parts::live_of` meets its contract: all jobs together are no fewer than the tenant's.
-- Assumes nothing.
use native.Mathlib.Omega.{arith}
use mathlib.Core.Path.{sym, ap, ◌∙◌}
use lib.Dec.{leb}
use borrow.Author.Tests.{lt-leb}
use Rattle.lists.specs.Lists.{length_keep, length_keep_le}
use Rattle.scheduler.specs.Table.{of_tenant}
use Rattle.column_parts.proofs.live_of.Goals as goal

pub returns-then-columns-places : goal.returns-then-columns-places
returns-then-columns-places c =
    let a = c.args in
    λ js k n.
    lt-leb a.places 0 (omega arith)
    ∙ sym (lt-leb a.places _ (omega (arith, length_keep (of_tenant a.tenant) js, length_keep_le (of_tenant a.tenant) js)))

pub returns : goal.returns
returns c =
    let a = c.args in
    λ js k n. ap (leb a.places) (c.of_tenant.ensures js k n)
