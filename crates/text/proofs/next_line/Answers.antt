-- `text::next_line` meets its contract: the byte found is the line's end.
-- Assumes nothing.
use Rattle.text.specs.Lines.{line_at}
use Rattle.text.proofs.next_line.Goals as goal

pub returns : goal.returns
unfolding line_at
returns c = rw c.find_byte-end.ensures
