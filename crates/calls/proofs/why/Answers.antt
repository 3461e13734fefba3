-- `calls::why` meets its contract: the text is written into a page with room for the longest, and copied where there is room for it.
-- Assumes nothing.
use borrow.Author.Rules.{rules}
use Rattle.why_rules.specs.Why.{why_text}
use Rattle.calls.proofs.TextCall.{front_is, front_size}
use Rattle.calls.proofs.why.Goals as goal

pub slice_bounds-show_bytes-end : goal.slice_bounds-show_bytes-end
slice_bounds-show_bytes-end c = front_size (search rules) c.put_why-count.ensures

pub returns : goal.returns
returns c =
    c.show_bytes.ensures why_text _ (front_is (search rules) c.put_why-count.ensures)
