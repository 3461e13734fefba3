-- `checkpoint_writing::put_desk` meets its contract: its fields are written one after the other.
-- Assumes nothing.
use Rattle.text.specs.WrittenBytes.{and_then}
use Rattle.checkpoint_writing.specs.TextParts.{desk_line_of}
use Rattle.checkpoint_writing.proofs.put_desk.Goals as goal

pub returns : goal.returns
unfolding desk_line_of
returns c =
    and_then c.put_head-a.ensures (and_then c.put_field-b.ensures (and_then c.put_field-c.ensures (and_then c.put_field-d.ensures
    (and_then c.put_field-e.ensures (and_then c.put_field-f.ensures c.put_last.ensures)))))
