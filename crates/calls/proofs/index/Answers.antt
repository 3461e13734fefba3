-- `calls::index` meets its contract.
-- Assumes nothing.
use mathlib.Core.Path.{ap, ◌∙◌}
use Rattle.scheduler.specs.declared.Kind.TheVariants.{Conservative}
use Rattle.jobs.specs.Premise.{holds_as}
use Rattle.conservative_index.specs.declared.Blocks.{Blocks}
use Rattle.conservative_plan.specs.PlannedSlots.{valid_planned}
use Rattle.guarantees.specs.Premise.{premise_of}
use Rattle.calls.specs.IndexCall.{index_in, index_conservative, index_easy}
use Rattle.calls.proofs.index.Goals as goal

pub index_of-p-requires : goal.index_of-p-requires
index_of-p-requires c =
    holds_as _ _ c.args.d valid_planned (premise_of c.args.d Conservative c.in-Conservative.is c.requires)

pub returns-in-Conservative : goal.returns-in-Conservative
returns-in-Conservative c =
    c.within.ensures ∙ ap (λ (p : Blocks). index_in p c.args.room) c.index_of-p.ensures
    ∙ index_conservative c.args.d c.args.room c.in-Conservative.is

pub returns-in-Easy : goal.returns-in-Easy
returns-in-Easy c =
    c.none.ensures ∙ index_easy c.args.d c.args.room c.in-Easy.is
