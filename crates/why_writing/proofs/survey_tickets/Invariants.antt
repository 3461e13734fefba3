-- `why_writing::survey_tickets` meets its contract: the list has the tickets of the jobs passed.
-- Assumes nothing.
use lib.ListN.{take}
use Rattle.scheduler.specs.Table.{ticket_of}
use Rattle.scheduler.specs.Model.{view}
use Rattle.job_columns.specs.Columns.{Column}
use Rattle.why_writing.proofs.survey_tickets.Given as goal

abbrev pub invariant-loop-i : goal.invariant-loop-i
invariant-loop-i l = Column ticket_of (take l.i (view l.d).jobs) l.tickets
