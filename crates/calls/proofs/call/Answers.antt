-- `calls::call` meets its contract: each kind meets its own.
-- Assumes nothing.
use mathlib.Core.Path.{sym, ap, ◌∙◌}
use Rattle.scheduler.specs.declared.Kind.TheVariants.{Conservative, Easy}
use Rattle.scheduler.specs.Answers.{outcome}
use Rattle.history.specs.Calls.{asked}
use Rattle.guarantees.specs.Premise.{premise_of, rules_of_lem}
use Rattle.calls.proofs.call.Goals as goal

pub call-requires : goal.call-requires
call-requires c =
    premise_of c.args.d Conservative c.in-Conservative.is c.requires

pub call-requires-in-Easy : goal.call-requires-in-Easy
call-requires-in-Easy c =
    premise_of c.args.d Easy c.in-Easy.is c.requires

pub returns-in-Conservative : goal.returns-in-Conservative
returns-in-Conservative c =
    c.call.ensures ∙ ap outcome (sym (rules_of_lem c.args.d Conservative (asked c.args.request) c.in-Conservative.is))

pub returns-in-Easy : goal.returns-in-Easy
returns-in-Easy c =
    c.call-in-Easy.ensures ∙ ap outcome (sym (rules_of_lem c.args.d Easy (asked c.args.request) c.in-Easy.is))
