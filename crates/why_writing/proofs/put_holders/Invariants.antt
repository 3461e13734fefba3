-- `why_writing::put_holders` meets its contract: the holders among the jobs passed are written.
-- Assumes nothing.
use Rattle.why_writing.specs.ExactText.{Writes}
use Rattle.why_writing.specs.ListedText.{rows_text}
use Rattle.why_writing.proofs.put_holders.Given as goal

abbrev pub invariant-loop-i : goal.invariant-loop-i
invariant-loop-i l =
    Writes l.initial.page l.at (rows_text l.minute l.tickets l.plan.held l.plan.froms l.plan.untils l.i) l.page l.p
