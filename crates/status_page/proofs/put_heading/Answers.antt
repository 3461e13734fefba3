-- `status_page::put_heading` meets its contract: its columns, one after another, and the rest of the line.
-- Assumes nothing.
use native.Mathlib.Omega.{arith}
use Rattle.text.specs.WrittenBytes.{room_after, and_then}
use Rattle.status_page_rules.specs.StatusPage.{heading}
use Rattle.status_page_laws.specs.Lines.{line_written}
use Rattle.status_page.proofs.put_heading.Goals as goal

pub put_number_right-a-requires : goal.put_number_right-a-requires
unfolding heading
put_number_right-a-requires c =
    (c.requires.0.each.0.within, omega (arith, c.requires.1))

pub put_number_right-b-requires : goal.put_number_right-b-requires
unfolding heading
put_number_right-b-requires c =
    (c.requires.0.each.1.0.within, room_after c.put_number_right-a.ensures 8 (omega (arith, c.requires.1)))

pub put_number_right-c-requires : goal.put_number_right-c-requires
unfolding heading
put_number_right-c-requires c =
    (c.requires.0.each.1.1.0.within, room_after (and_then c.put_number_right-a.ensures c.put_number_right-b.ensures) 8 (omega (arith, c.requires.1)))

pub put_rest-requires : goal.put_rest-requires
put_rest-requires c =
    let w = and_then c.put_number_right-a.ensures (and_then c.put_number_right-b.ensures c.put_number_right-c.ensures) in
    room_after w 49 (omega (arith, c.requires.1))

pub returns : goal.returns
unfolding heading
returns c =
    rw (line_written (heading c.args.nodes c.args.clock c.args.next) c.requires.0)
    (and_then c.put_number_right-a.ensures (and_then c.put_number_right-b.ensures
    (and_then c.put_number_right-c.ensures c.put_rest.ensures)))
