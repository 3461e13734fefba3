-- `earliest::start` meets its contract.
-- Assumes nothing.
use Rattle.earliest.specs.Survey.{refused_by, given_within, given_by}
use Rattle.earliest.proofs.start.Goals as goal

pub earliest-requires : goal.earliest-requires
earliest-requires c =
    (c.requires, given_within c.args.d c.requires c.args.ticket c.in-Some.nodes (rw c.in-Some.is at c.asked_by.ensures))

pub returns-in-Some : goal.returns-in-Some
returns-in-Some c =
    given_by c.args.d c.requires c.args.ticket c.in-Some.nodes (rw c.in-Some.is at c.asked_by.ensures) _ c.earliest.ensures

pub returns-in-None : goal.returns-in-None
returns-in-None c =
    refused_by c.args.d c.requires c.args.ticket (rw c.in-None.is at c.asked_by.ensures)
