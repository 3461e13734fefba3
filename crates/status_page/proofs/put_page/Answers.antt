-- `status_page::put_page` meets its contract: the lines of the slots passed are written.
-- Assumes nothing.
use mathlib.Core.Path.{sym}
use mathlib.Core.List.{[]}
use native.Mathlib.Omega.{arith}
use borrow.Author.Rules.{rules}
use Rattle.text.specs.WrittenBytes.{wrote_none, same_size, room_after, and_then, with_room}
use Rattle.status_page_laws.specs.Columns.{none_fitting}
use Rattle.status_page_laws.specs.Lines.{line_written}
use Rattle.status_page_laws.specs.Pages.{line_bytes}
use Rattle.status_page.specs.SlotLines.{slots_none, slot_lines_lem, first_fits, slot_fits, slots_more, slots_done}
use Rattle.status_page.proofs.put_page.Goals as goal

pub put_heading-at-requires : goal.put_heading-at-requires
put_heading-at-requires c = (first_fits _ c.requires.0, search rules)

pub loop-j-init : goal.loop-j-init
loop-j-init c = record { low = omega arith; written = rw (slots_none _ _) (wrote_none _ _ _) }

pub put_slot-at-requires : goal.put_slot-at-requires
put_slot-at-requires c = (
  slot_fits _ c.requires.0 c.loop-j.j-index (omega arith),
  room_after (and_then c.put_heading-at.ensures c.loop-j.invariant.written) line_bytes (omega (arith, c.requires.1)),
)

pub loop-j-preserved : goal.loop-j-preserved
loop-j-preserved c =
    record {
      low = omega arith;
      written =
          rw (slots_more _ c.requires.0 c.loop-j.j-index (omega arith))
          (with_room (and_then c.loop-j.invariant.written c.put_slot-at.ensures) _ (omega arith));
    }

pub put_rest-requires : goal.put_rest-requires
put_rest-requires c =
    room_after (and_then c.put_heading-at.ensures c.loop-j.invariant.written) line_bytes
    (omega (arith, c.loop-j.invariant.low, c.requires.1))

pub shape_of-page : goal.shape_of-page
shape_of-page c =
    same_size (and_then c.put_heading-at.ensures (and_then c.loop-j.invariant.written c.put_rest.ensures))

pub returns : goal.returns
returns c =
    let done = slots_done _ c.requires.0 c.loop-j.j-index (omega arith) in
    rw (sym (slot_lines_lem _ c.requires.0), line_written [] none_fitting)
    (with_room (and_then c.put_heading-at.ensures (and_then (rw done at c.loop-j.invariant.written) c.put_rest.ensures)) _
    (omega (arith, c.loop-j.invariant.low)))
