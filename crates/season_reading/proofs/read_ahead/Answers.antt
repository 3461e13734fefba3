-- `season_reading::read_ahead` meets its contract: what was read if the line is closed and ends there.
-- Assumes nothing.
use mathlib.Core.Path.{◌≡◌, ap, ◌∙◌}
use mathlib.Core.Bool.{true, false}
use native.Mathlib.Omega.{arith}
use borrow.Author.Tests.{not-true, not-false}
use Rattle.text.specs.Lines.{line_at}
use Rattle.text.specs.LineLaws.{Ends, line_ends}
use Rattle.script_reading.specs.LineReading.{same_line_end, read_whole, read_part}
use Rattle.season_rules.specs.Reading.{arrival_in}
use Rattle.season_reading.specs.Meaning.{reads_line, lists_unclosed, lists_past, lists_nothing, lists_line}
use Rattle.season_reading.proofs.read_ahead.Goals.{After-next_line-line}
use Rattle.season_reading.proofs.read_ahead.Goals.{then-above-lt-MOST_LINES+then-line-row, else-above-lt-MOST_LINES, else-above-lt-MOST_LINES-via-then-above-lt-MOST_LINES+else-line-row, else-above-lt-MOST_LINES-via-else-above-lt-MOST_LINES}
use Rattle.season_reading.proofs.read_ahead.Goals as goal

-- the line of the row is that of the place, and in the list
is-line : (c : After-next_line-line)
    → c.next_line-line.result ≡ line_at c.args.list.now c.args.at
is-line c = same_line_end _ c.read_arrival-row.ensures.up_to _ c.next_line-line.ensures

ends : (c : After-next_line-line)
    → Ends c.args.list.now c.args.at c.next_line-line.result
ends c = line_ends _ _ _ (is-line c) (omega (arith, c.if-list-at.false))

pub returns-then-not-line : goal.returns-then-not-line
returns-then-not-line c =
    let a = c.args in
    let unclosed : c.next_line-line.result.closed ≡ false = not-true _ c.if-not-line.true in
    reads_line _ _ _ c.if-list-at.false _ (is-line (goal.at.returns-then-not-line c).After-next_line-line) _
    (lists_unclosed a.list.now a.at a.above c.next_line-line.result unclosed)
    _ (rw unclosed)

pub overflow_add-result : goal.overflow_add-result
overflow_add-result c = omega (arith, (ends (goal.at.overflow_add-result c).After-next_line-line).within)

pub returns : goal.returns
returns c =
    let closed : c.next_line-line.result.closed ≡ true = not-false _ c.if-not-line.false in
    let list = c.args.list.now in
    let at = c.args.at in
    let above = c.args.above in
    let line = c.next_line-line.result in
    let r = c.read_arrival-row.ensures in
    let bytes = ap arrival_in (ends (goal.at.returns c).After-next_line-line).bytes in
    reads_line _ _ _ c.if-list-at.false _ (is-line (goal.at.returns c).After-next_line-line) _
    (elim c.if-above-lt-MOST_LINES.branch [
      | then-above-lt-MOST_LINES+then-line-row w ↦ rw w.listed-is
          (lists_line list at above line closed w.if-above-lt-MOST_LINES.true _ (bytes ∙ read_whole _ r.up_to _ c.next_line-line.ensures w.if-line-row.true) r.some_line)
      | else-above-lt-MOST_LINES w ↦ rw w.listed-is
          (elim w.else-above-lt-MOST_LINES.branch [
            | else-above-lt-MOST_LINES-via-then-above-lt-MOST_LINES+else-line-row w' ↦
                lists_nothing list at above line (bytes ∙ read_part _ r.up_to _ c.next_line-line.ensures w'.if-line-row.false)
            | else-above-lt-MOST_LINES-via-else-above-lt-MOST_LINES w' ↦ lists_past list at above line w'.if-above-lt-MOST_LINES.false
          ])
    ])
    _ (rw closed)
