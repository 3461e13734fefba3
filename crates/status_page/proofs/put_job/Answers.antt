-- `status_page::put_job` meets its contract: its parts, one after another, and the rest of the line.
-- Assumes nothing.
use borrow.Author.Rules.{rules}
use Rattle.text.specs.WrittenBytes.{and_then}
use Rattle.status_page.specs.JobLines.{order_fits, minutes_fit_lem, job_line_written}
use Rattle.status_page.proofs.put_job.Goals as goal

pub put_order-a-requires : goal.put_order-a-requires
put_order-a-requires c =
    (order_fits c.args.settings c.args.j c.requires.0, search rules)

pub put_minutes-b-requires : goal.put_minutes-b-requires
put_minutes-b-requires c =
    (minutes_fit_lem c.args.settings c.args.j c.requires.0, search rules)

pub returns : goal.returns
returns c =
    rw (job_line_written c.args.settings c.args.j c.requires.0)
    at (and_then c.put_order-a.ensures (and_then c.put_minutes-b.ensures (and_then c.put_state-c.ensures c.put_rest.ensures)))
