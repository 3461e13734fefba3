-- `script_reading::read_later` meets its contract: what was read if the line ends there, and nothing if it has more.
-- Assumes nothing.
use mathlib.Core.Path.{sym}
use Rattle.script_reading.specs.LineReading.{same_line_end, read_whole, read_part}
use Rattle.script_reading.proofs.read_later.Goals as goal

pub returns-then-line-row : goal.returns-then-line-row
returns-then-line-row c =
    let u = c.read_row-row.ensures in
    (same_line_end _ u _ c.next_line-line.ensures, sym (read_whole _ u _ c.next_line-line.ensures c.if-line-row.true))

pub returns-else-line-row : goal.returns-else-line-row
returns-else-line-row c =
    let u = c.read_row-row.ensures in
    (same_line_end _ u _ c.next_line-line.ensures, sym (read_part _ u _ c.next_line-line.ensures c.if-line-row.false))
