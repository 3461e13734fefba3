-- `plan_acceptance::plan_accepted` meets its contract: a minute does not fit, or the kind's own tests decide.
-- Assumes nothing.
use mathlib.Core.Path.{◌≡◌, refl, sym, ◌∙◌}
use Rattle.scheduler.specs.declared.Kind.TheVariants.{Conservative, Easy}
use Rattle.scheduler.specs.Model.{view}
use Rattle.checkpoint_rules.specs.Acceptance.{minutes_fit}
use Rattle.plan_acceptance.specs.Tested.{tested, plan_low, plan_of_for}
use Rattle.plan_acceptance.specs.Stage.{minutes_are, columns_are, fitting, plan_refused, plan_by_kind}
use Rattle.plan_acceptance.proofs.plan_accepted.Goals.{After-fits_every}
use Rattle.plan_acceptance.proofs.plan_accepted.Goals as goal

-- whether every minute fits
fits : (c : After-fits_every) → c.fits_every.result ≡ minutes_fit (view c.args.d)
fits c =
    let m = view c.args.d in
    minutes_are c.args.d _ (c.fits_every.ensures (plan_of_for m (tested m c.requires) m.settings.kind (columns_are c.args.d c.of-plan.ensures)))

pub of-plan-requires : goal.of-plan-requires
of-plan-requires c = plan_low (view c.args.d) (tested (view c.args.d) c.requires)

pub fits_every-requires : goal.fits_every-requires
fits_every-requires c =
    let m = view c.args.d in
    plan_of_for m (tested m c.requires) m.settings.kind (columns_are c.args.d c.of-plan.ensures)

pub queue_accepted-requires : goal.queue_accepted-requires
queue_accepted-requires c =
    fitting c.args.d (tested (view c.args.d) c.requires) c.of-plan.ensures c.in-Easy.is (sym (fits (goal.at.queue_accepted-requires c).After-fits_every) ∙ c.if-not-fits_every.false)

pub returns-then-not-fits_every : goal.returns-then-not-fits_every
returns-then-not-fits_every c =
    plan_refused c.args.d (sym (fits (goal.at.returns-then-not-fits_every c).After-fits_every) ∙ c.if-not-fits_every.true)

pub returns-in-Conservative : goal.returns-in-Conservative
returns-in-Conservative c =
    plan_by_kind c.args.d (sym (fits (goal.at.returns-in-Conservative c).After-fits_every) ∙ c.if-not-fits_every.false) Conservative c.in-Conservative.is _ refl

pub returns-in-Easy : goal.returns-in-Easy
returns-in-Easy c =
    plan_by_kind c.args.d (sym (fits (goal.at.returns-in-Easy c).After-fits_every) ∙ c.if-not-fits_every.false) Easy c.in-Easy.is _ c.queue_accepted.ensures
