-- `season_turns::quiet_until` meets its contract: the minutes are quiet for the slots looked at.
-- Assumes nothing.
use Rattle.season_turns.specs.QuietSlots.{Looked}
use Rattle.season_turns.proofs.quiet_until.Given as goal

abbrev pub invariant-loop-j : goal.invariant-loop-j
invariant-loop-j l = Looked l.actuals l.fn.d l.last l.until l.j-index
