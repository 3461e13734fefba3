-- `script_turns::next_line` meets its contract.
-- Assumes nothing.
use mathlib.Core.Path.{sym, ap, ◌∙◌}
use native.Mathlib.Omega.{arith}
use Rattle.text.specs.LineLaws.{Ends, line_ends}
use Rattle.script_rules.specs.Reading.{command_in}
use Rattle.script_turns.specs.NextTurn.{comes_closed, comes_unclosed}
use Rattle.script_turns.proofs.next_line.Goals.{After-read_later-later}
use Rattle.script_turns.proofs.next_line.Goals as goal

ends : (c : After-read_later-later) → Ends c.args.script.now c.args.at c.read_later-later.result.line
ends c = line_ends _ _ _ c.read_later-later.ensures.0 (omega (arith, c.requires))

pub overflow_add-result : goal.overflow_add-result
overflow_add-result c = omega (arith, (ends (goal.at.overflow_add-result c).After-read_later-later).within)

pub returns-then-later : goal.returns-then-later
returns-then-later c =
    comes_closed _ _ c.requires _ c.read_later-later.ensures.0 c.if-later.true c.read_later-later.result.asked
    (c.read_later-later.ensures.1 ∙ ap command_in (sym (ends (goal.at.returns-then-later c).After-read_later-later).bytes))

pub returns : goal.returns
returns c =
    comes_unclosed _ _ c.requires _ c.read_later-later.ensures.0 c.if-later.false
