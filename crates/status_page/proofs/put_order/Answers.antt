-- `status_page::put_order` meets its contract: three columns, one after another.
-- Assumes nothing.
use mathlib.Core.List.{flat_map, append-nil}
use Rattle.text.specs.WrittenBytes.{and_then}
use Rattle.status_page.proofs.put_order.Goals as goal

pub returns : goal.returns
unfolding flat_map
returns c =
    rw append-nil (and_then c.put_number_right-a.ensures (and_then c.put_tenant-b.ensures c.put_number_right.ensures))
