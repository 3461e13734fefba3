-- `calls::show_bytes` meets its contract.
-- Assumes nothing.
use Rattle.calls.proofs.TextCall.{bytes_refused, bytes_shown}
use Rattle.calls.proofs.show_bytes.Goals as goal

pub returns-then-lent-written : goal.returns-then-lent-written
returns-then-lent-written c = bytes_refused _ _ c.if-lent-written.true

pub returns : goal.returns
returns c =
    bytes_shown _ _ _ _ c.if-lent-written.false c.put_word-count.ensures
