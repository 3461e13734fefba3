-- `calls::Listing::none` meets its contract.
-- Assumes nothing.
use Rattle.std.specs.Prelude.{◌≡◌, ◌-◌}
use Rattle.std.proofs.Common.{arith}
use Rattle.lists.specs.Pads.{pad}
use Rattle.calls.specs.ListCall.{listing}
use Rattle.calls.proofs.Listing.none.Goals as goal

pub returns : goal.returns
unfolding listing pad
returns g c =
    let e : g.row.N - 0 ≡ g.row.N = omega arith in
    rw e
