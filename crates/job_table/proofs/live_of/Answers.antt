-- `job_table::live_of` meets its contract.
-- Assumes nothing.
use native.Mathlib.Omega.{arith}
use Rattle.job_table.specs.Submitting.{counted, uncounted}
use Rattle.job_table.proofs.live_of.Goals as goal

pub returns-then-live-places : goal.returns-then-live-places
returns-then-live-places c =
    let a = c.args in
    uncounted a.d c.requires.0 a.tenant a.places a.live c.requires.1 (omega arith)

pub of_tenant-requires : goal.of_tenant-requires
of_tenant-requires c = omega (arith, c.requires.1, c.requires.0.holds.few)

pub returns : goal.returns
returns c =
    let a = c.args in
    rw c.of_tenant.ensures (counted a.d c.requires.0 a.tenant a.places a.live c.requires.1)

pub overflow_cast-live : goal.overflow_cast-live
overflow_cast-live c = omega (arith, c.requires.1, c.requires.0.holds.few)
