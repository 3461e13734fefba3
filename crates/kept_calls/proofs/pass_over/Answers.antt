-- `kept_calls::pass_over` meets its contract.
-- Assumes nothing.
use Rattle.kept_calls.specs.KeptPoints.{passing_advances, passed_on, passed_easy}
use Rattle.kept_calls.proofs.pass_over.Goals as goal

pub advance-requires : goal.advance-requires
advance-requires c =
    passing_advances c.requires c.in-Conservative.is

pub returns-in-Conservative : goal.returns-in-Conservative
returns-in-Conservative c =
    λ q. passed_on q c.in-Conservative.is c.advance.ensures.0 c.advance.ensures.1

pub returns-in-Easy : goal.returns-in-Easy
returns-in-Easy c = λ q. passed_easy q c.in-Easy.is
