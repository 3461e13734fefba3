-- `script_writing::put_rows` meets its contract: the rows of the tickets passed are written.
-- Assumes nothing.
use Prim.Native.Nat.{◌+◌}
use native.Mathlib.Omega.{arith}
use lib.ListN.{length}
use Rattle.text.specs.WrittenBytes.{wrote_none, with_room, and_then}
use Rattle.script_writing.specs.RowLaws.{rows_none, rows_more, one_row}
use borrow.Author.Rules.{rules}
use Rattle.script_writing.proofs.put_rows.Goals as goal

pub loop-ticket-init : goal.loop-ticket-init
loop-ticket-init c =
    let a = c.args in
    record { low = search rules; written = rw (rows_none a.word.now a.minute a.tickets.now) (wrote_none _ a.page.now a.at) }

pub loop-ticket-preserved : goal.loop-ticket-preserved
loop-ticket-preserved c =
    let l = c.loop-ticket in
    let a = c.args in
    record {
      low = omega arith;
      written =
          rw (rows_more a.word.now a.minute a.tickets.now l.ticket-index (omega (arith, c.requires)))
          (with_room (and_then l.invariant.written c.put_row-p.ensures) _
          (one_row (length a.word.now + 23) l.ticket-index (l.ticket-index + 1) (omega arith)));
    }
