-- `checkpoint_writing::put_kept` meets its contract: its fields are written one after the other.
-- Assumes nothing.
use Rattle.text.specs.WrittenBytes.{and_then}
use Rattle.checkpoint_writing.specs.TextParts.{kept_text}
use Rattle.checkpoint_writing.proofs.put_kept.Goals as goal

pub returns : goal.returns
unfolding kept_text
returns c =
    and_then c.put_field-a.ensures (and_then c.put_field-b.ensures c.put_last.ensures)
