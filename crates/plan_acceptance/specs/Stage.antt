-- The stage as a whole, of a scheduler whose records pass their tests: from its survey to whether its plan is accepted.
-- Assumes nothing.
use Rattle.std.specs.Prelude.{ℕ, ◌≡◌, Bool, true, false, List}
use Rattle.std.proofs.Common.{sym, ◌∙◌}
use Rattle.std.proofs.Math.Path.{ap, subst}
use Rattle.spans.specs.EveryMinute.{fits_every}
use Rattle.scheduler.specs.declared.Kind.{Kind}
use Rattle.scheduler.specs.declared.Kind.TheVariants.{Easy}
use Rattle.scheduler.specs.declared.Scheduler.{Scheduler}
use Rattle.scheduler.specs.Model.{view}
use Rattle.conservative_rules.specs.Conservative.{spans}
use Rattle.checkpoint_rules.specs.Acceptance.{plan_of, minutes_fit}
use Rattle.checkpoint_laws.specs.Stages.{own_plan, plan_accepted}
use Rattle.plan_acceptance.specs.Plan.{plan_in, PlanColumns}
use Rattle.plan_acceptance.specs.Tested.{Tested}
use Rattle.plan_acceptance.specs.Rest.{Fitting}

module _ (d : Scheduler) where
  -- what the functions say of the scheduler's own fields is said of its model
  pub minutes_are : (r : Bool) → r ≡ fits_every d.settings.nodes (spans (view d).settings (plan_in (view d))) d.clock → r ≡ minutes_fit (view d)
  unfolding view minutes_fit
  minutes_are r q = q

  pub columns_are : {held froms untils : List ℕ} {count : ℕ} → PlanColumns d.settings (plan_in (view d)) held froms untils count
      → PlanColumns (view d).settings (plan_in (view d)) held froms untils count
  unfolding view
  columns_are c = c

  -- on EASY the plan has the jobs that hold nodes
  pub fitting : {held froms untils : List ℕ} {count : ℕ} → Tested (view d) → PlanColumns d.settings (plan_in (view d)) held froms untils count
      → d.settings.kind ≡ Easy → minutes_fit (view d) ≡ true → Fitting d held froms untils count
  unfolding view
  fitting {held} {froms} {untils} {count} t c k f = record {
    kind = k;
    tested = t;
    fit = f;
    columns = subst (λ (x : Kind). PlanColumns d.settings (plan_of x (view d).jobs) held froms untils count) k c;
  }

  -- a minute does not fit
  pub plan_refused : minutes_fit (view d) ≡ false → false ≡ plan_accepted (view d)
  unfolding plan_accepted
  plan_refused f = rw f

  -- every minute does: what is left is the kind's own
  pub plan_by_kind : minutes_fit (view d) ≡ true → (k : Kind) → d.settings.kind ≡ k → (r : Bool) → r ≡ own_plan k (view d) → r ≡ plan_accepted (view d)
  unfolding plan_accepted view
  plan_by_kind f k s r q = q ∙ ap (λ (x : Kind). own_plan x (view d)) (sym s) ∙ rw f
