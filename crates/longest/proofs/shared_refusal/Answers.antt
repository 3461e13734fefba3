-- `longest::shared_refusal` meets its contract.
-- Assumes nothing.
use mathlib.Core.Path.{◌∙◌}
use Rattle.conservative_rules.specs.LongestEstimate.{asking}
use Rattle.conservative.specs.Submit.{shared_held}
use Rattle.longest.proofs.shared_refusal.Goals as goal

pub returns : goal.returns
returns c =
    c.submit_refusal.ensures
    ∙ shared_held c.args.d (asking c.args.q 1) c.requires _ _ c.quota.ensures c.live_of-live.ensures
