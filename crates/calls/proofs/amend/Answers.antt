-- `calls::amend` meets its contract, by what becomes of the order.
-- Assumes nothing.
use mathlib.Core.Path.{sym, ◌∙◌}
use Rattle.jobs.specs.Premise.{holds_as}
use Rattle.jobs.specs.Soundness.{Sound}
use Rattle.guarantees.specs.Premise.{Valid, valid_sound}
use Rattle.calls.specs.AmendCall.{amend_refused, amend_placed}
use Rattle.calls.proofs.amend.Goals as goal

pub way_of-requires : goal.way_of-requires
way_of-requires c = holds_as Valid Sound c.args.d valid_sound c.requires

pub resubmit-requires : goal.resubmit-requires
resubmit-requires c =
    (c.requires, sym c.in-Anew.is ∙ c.way_of.ensures)

pub returns-in-Refused : goal.returns-in-Refused
returns-in-Refused c =
    amend_refused c.args.d c.args.a c.requires _ _ (sym c.in-Refused.is ∙ c.way_of.ensures) c.refused.ensures

pub returns-in-InPlace : goal.returns-in-InPlace
returns-in-InPlace c =
    amend_placed c.args.d c.args.a c.requires _ (sym c.in-InPlace.is ∙ c.way_of.ensures) c.amend_in_place.ensures
