-- `calls::profile` meets its contract.
-- Assumes nothing.
use mathlib.Core.Path.{ap, ◌∙◌}
use Rattle.scheduler.specs.declared.Kind.TheVariants.{Conservative}
use Rattle.jobs.specs.Premise.{holds_as}
use Rattle.conservative_profile.specs.declared.Profile.{Profile}
use Rattle.conservative_plan.specs.PlannedSlots.{valid_planned}
use Rattle.guarantees.specs.Premise.{premise_of}
use Rattle.calls.specs.ProfileCall.{show_in, show_conservative, show_easy}
use Rattle.calls.proofs.profile.Goals as goal

pub profile_of-p-requires : goal.profile_of-p-requires
profile_of-p-requires c =
    holds_as _ _ c.args.d valid_planned (premise_of c.args.d Conservative c.in-Conservative.is c.requires)

pub returns-in-Conservative : goal.returns-in-Conservative
returns-in-Conservative c =
    c.within.ensures ∙ ap (λ (p : Profile). show_in p c.args.room) c.profile_of-p.ensures
    ∙ show_conservative c.args.d c.args.room c.in-Conservative.is

pub returns-in-Easy : goal.returns-in-Easy
returns-in-Easy c =
    c.none.ensures ∙ show_easy c.args.d c.args.room c.in-Easy.is
