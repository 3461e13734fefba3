-- `checkpoint_writing::put_order` meets its contract: its fields are written one after the other.
-- Assumes nothing.
use Rattle.text.specs.WrittenBytes.{and_then}
use Rattle.checkpoint_writing.specs.TextParts.{order_text}
use Rattle.checkpoint_writing.proofs.put_order.Goals as goal

pub returns : goal.returns
unfolding order_text
returns c =
    and_then c.put_first-a.ensures (and_then c.put_field-b.ensures (and_then c.put_field-c.ensures c.put_state.ensures))
