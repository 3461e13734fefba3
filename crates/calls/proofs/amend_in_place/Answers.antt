-- `calls::amend_in_place` meets its contract: each kind meets its own.
-- Assumes nothing.
use mathlib.Core.Path.{sym, ap, ◌∙◌}
use Rattle.scheduler.specs.declared.Kind.TheVariants.{Conservative, Easy}
use Rattle.scheduler.specs.Answers.{outcome}
use Rattle.history.specs.Calls.{amend}
use Rattle.guarantees.specs.Premise.{premise_of, rules_of_lem}
use Rattle.calls.proofs.amend_in_place.Goals as goal

pub amend-requires : goal.amend-requires
amend-requires c =
    premise_of c.args.d Conservative c.in-Conservative.is c.requires

pub amend-requires-in-Easy : goal.amend-requires-in-Easy
amend-requires-in-Easy c =
    premise_of c.args.d Easy c.in-Easy.is c.requires

pub returns-in-Conservative : goal.returns-in-Conservative
returns-in-Conservative c =
    c.amend.ensures ∙ ap outcome (sym (rules_of_lem c.args.d Conservative (amend c.args.a) c.in-Conservative.is))

pub returns-in-Easy : goal.returns-in-Easy
returns-in-Easy c =
    c.amend-in-Easy.ensures ∙ ap outcome (sym (rules_of_lem c.args.d Easy (amend c.args.a) c.in-Easy.is))
