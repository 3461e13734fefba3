-- `calls::checkpoint` meets its contract: the text is written into a page with room for the longest, and copied where there is room for it.
-- Assumes nothing.
use borrow.Author.Rules.{rules}
use Rattle.checkpoint_rules.specs.Texts.{desk_text}
use Rattle.calls.proofs.TextCall.{front_is, front_size}
use Rattle.calls.proofs.checkpoint.Goals as goal

pub slice_bounds-show_bytes-end : goal.slice_bounds-show_bytes-end
slice_bounds-show_bytes-end c = front_size (search rules) c.put_text-count.ensures

pub returns : goal.returns
returns c =
    c.show_bytes.ensures desk_text _ (front_is (search rules) c.put_text-count.ensures)
