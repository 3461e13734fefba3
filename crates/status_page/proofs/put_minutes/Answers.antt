-- `status_page::put_minutes` meets its contract: three columns, one after another.
-- Assumes nothing.
use mathlib.Core.Path.{sym}
use mathlib.Core.List.{flat_map, append-nil}
use native.Mathlib.Omega.{arith}
use borrow.Author.Rules.{rules}
use Rattle.text.specs.WrittenBytes.{room_after, and_then}
use Rattle.status_page.proofs.put_minutes.Goals as goal

pub put_start-a-requires : goal.put_start-a-requires
put_start-a-requires c =
    (rw c.is_waiting-waits.ensures c.requires.0.0, search rules)

pub put_number_right-requires : goal.put_number_right-requires
put_number_right-requires c = (
  rw c.run_time-held.ensures c.requires.0.1.1.0.within,
  room_after (and_then c.put_start-a.ensures c.put_promised-b.ensures) 6 (omega (arith, c.requires.1)),
)

pub returns : goal.returns
unfolding flat_map
returns c =
    rw (append-nil, sym c.is_waiting-waits.ensures, sym c.run_time-held.ensures)
    (and_then c.put_start-a.ensures (and_then c.put_promised-b.ensures c.put_number_right.ensures))
