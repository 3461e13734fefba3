-- `checkpoint_writing::put_job` meets its contract: its three parts are written one after the other.
-- Assumes nothing.
use Rattle.text.specs.WrittenBytes.{and_then}
use Rattle.checkpoint_writing.proofs.put_job.Goals as goal

pub returns : goal.returns
returns c =
    and_then c.put_order-a.ensures (and_then c.put_times-b.ensures c.put_kept.ensures)
