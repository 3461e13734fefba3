-- `kept_calls::call` meets its contract.
-- Assumes nothing.
use mathlib.Core.Path.{sym, ap, ◌∙◌}
use Rattle.scheduler.specs.declared.Kind.TheVariants.{Conservative, Easy}
use Rattle.scheduler.specs.Answers.{outcome}
use Rattle.history.specs.Calls.{asked}
use Rattle.guarantees.specs.Premise.{premise_of, rules_of_lem}
use Rattle.kept_calls.specs.KeptPoints.{beside_of, beside_after, none_after}
use Rattle.kept_calls.proofs.call.Goals as goal

pub call-requires : goal.call-requires
call-requires c =
    let k = c.in-Conservative.is in
    (premise_of c.args.d Conservative k c.requires.0, beside_of c.args.d k c.requires.1)

pub call-requires-in-Easy : goal.call-requires-in-Easy
call-requires-in-Easy c =
    premise_of c.args.d Easy c.in-Easy.is c.requires.0

pub returns-in-Conservative : goal.returns-in-Conservative
returns-in-Conservative c =
    let k = c.in-Conservative.is in
    let r = asked c.args.request in (
      c.call.ensures.0 ∙ ap outcome (sym (rules_of_lem c.args.d Conservative r k)),
      beside_after c.args.d r c.requires.0 k c.call.ensures.1,
    )

pub returns-in-Easy : goal.returns-in-Easy
returns-in-Easy c =
    let k = c.in-Easy.is in
    let r = asked c.args.request in (
      c.call-in-Easy.ensures ∙ ap outcome (sym (rules_of_lem c.args.d Easy r k)),
      none_after c.args.d r c.requires.0 k,
    )
