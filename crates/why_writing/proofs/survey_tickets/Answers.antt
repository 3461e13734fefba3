-- `why_writing::survey_tickets` meets its contract: the list has the tickets of the jobs passed.
-- Assumes nothing.
use mathlib.Core.Path.{refl}
use native.Mathlib.Omega.{arith}
use Rattle.why_writing.specs.ListedPlan.{ticket_more, ticket_all}
use Rattle.why_writing.proofs.survey_tickets.Goals as goal

pub loop-i-init : goal.loop-i-init
loop-i-init c = c.requires.1

pub loop-i-preserved : goal.loop-i-preserved
loop-i-preserved c =
    ticket_more c.args.d c.requires.0 c.loop-i.i _ (omega (arith, c.requires.2)) c.loop-i.invariant refl

pub returns : goal.returns
returns c =
    ticket_all c.args.d c.requires.0 c.loop-i.i (omega (arith, c.requires.2)) c.loop-i.invariant
