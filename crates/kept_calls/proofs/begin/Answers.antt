-- `kept_calls::begin` meets its contract.
-- Assumes nothing.
use Rattle.scheduler.specs.declared.Kind.TheVariants.{Conservative}
use Rattle.guarantees.specs.Premise.{premise_of}
use Rattle.kept_calls.specs.KeptPoints.{none_beside}
use Rattle.kept_calls.proofs.begin.Goals as goal

pub begin-requires : goal.begin-requires
begin-requires c =
    let h = c.requires in
    (premise_of c.args.d Conservative c.in-Conservative.is h.0, h.1, h.2, h.3, h.4)

pub returns-in-Easy : goal.returns-in-Easy
returns-in-Easy c = none_beside c.args.d c.in-Easy.is
