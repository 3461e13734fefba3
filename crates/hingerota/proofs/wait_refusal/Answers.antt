use Rattle.hingerota.specs.DeskPremise.{read_premise}
use Rattle.hingerota.specs.Waits.{wait_given}
use Rattle.hingerota.proofs.wait_refusal.Goals as goal

pub wait_refusal-requires : goal.wait_refusal-requires
wait_refusal-requires c = read_premise _ _ c.read.ensures c.requires

pub returns : goal.returns
returns c =
    wait_given c.args.d c.args.minutes _ c.wait_refusal.result _
    c.read.ensures c.wait_refusal.ensures c.code.ensures
