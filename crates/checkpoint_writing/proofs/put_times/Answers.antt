-- `checkpoint_writing::put_times` meets its contract: its fields are written one after the other.
-- Assumes nothing.
use Rattle.text.specs.WrittenBytes.{and_then}
use Rattle.checkpoint_writing.specs.TextParts.{times_text}
use Rattle.checkpoint_writing.proofs.put_times.Goals as goal

pub returns : goal.returns
unfolding times_text
returns c =
    and_then c.put_field-a.ensures (and_then c.put_field-b.ensures (and_then c.put_field-c.ensures
    (and_then c.put_tenant-d.ensures c.put_field.ensures)))
