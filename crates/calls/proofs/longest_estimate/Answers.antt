-- `calls::longest_estimate` meets its contract.
-- Assumes nothing.
use mathlib.Core.Path.{sym, ◌∙◌}
use Rattle.scheduler.specs.declared.Kind.TheVariants.{Conservative, Easy}
use Rattle.guarantees.specs.Premise.{premise_of}
use Rattle.calls.specs.LongestCall.{longest_of_lem}
use Rattle.calls.proofs.longest_estimate.Goals as goal

pub estimate-requires : goal.estimate-requires
estimate-requires c =
    premise_of c.args.d Conservative c.in-Conservative.is c.requires

pub returns-in-Conservative : goal.returns-in-Conservative
returns-in-Conservative c =
    c.estimate.ensures ∙ sym (longest_of_lem c.args.d c.args.q Conservative c.in-Conservative.is)

pub returns-in-Easy : goal.returns-in-Easy
returns-in-Easy c =
    sym (longest_of_lem c.args.d c.args.q Easy c.in-Easy.is)
