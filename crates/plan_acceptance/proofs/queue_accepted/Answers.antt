-- `plan_acceptance::queue_accepted` meets its contract: nobody waits, the head fits, or each waiting job is tested.
-- Assumes nothing.
use Prim.Native.Nat.{ℕ, ◌+◌, ◌-◌}
use native.Mathlib.Omega.{arith}
use mathlib.Core.Path.{◌≡◌, ap}
use Rattle.scheduler.specs.Model.{view}
use Rattle.scheduler.specs.Times.{unit_le}
use Rattle.easy_rules.specs.Easy.{free}
use Rattle.easy_engine.specs.Survey.{Lacks}
use Rattle.plan_acceptance.specs.Rest.{HeadAsks, HeadWaits, plan_by, used_to, spare_free, clock_low, nobody_waits, somebody_asks, head_fits_lem}
use Rattle.plan_acceptance.specs.Rest.{lacks_by, enough, timed, rests_by}
use Rattle.plan_acceptance.proofs.queue_accepted.Goals.{After-avail_at, After-unit, After-used_at, In-Some}
use Rattle.plan_acceptance.proofs.queue_accepted.Goals as goal

-- somebody waits
head_is_lem : (c : In-Some) → HeadAsks (view c.args.d) c.in-Some.need
head_is_lem c = somebody_asks c.requires c.in-Some.need (rw c.in-Some.is at c.asked_first.ensures)

-- the nodes that are free now
spare_is : (u : After-used_at) → u.args.d.settings.nodes - u.used_at.result ≡ free (view u.args.d)
spare_is u =
    spare_free u.requires u.used_at.result (u.used_at.ensures (plan_by u.requires))

-- the head lacks nodes
abbrev lacks : (c : After-unit)
    → Lacks c.args.plan.now.held c.args.plan.now.untils c.args.plan.now.count (c.args.d.settings.nodes - c.used_at.result) c.in-Some.need
    (c.args.d.clock + c.unit.result)
lacks c =
    lacks_by c.requires (somebody_asks c.requires c.in-Some.need (rw c.in-Some.is at c.asked_first.ensures)) _
    (spare_free c.requires c.used_at.result (c.used_at.ensures (plan_by c.requires))) c.if-need-spare.false _
    (ap (λ (x : ℕ). c.args.d.clock + x) c.unit.ensures)

-- until when it waits
waits : (c : After-avail_at)
    → HeadWaits (view c.args.d) c.in-Some.need (c.args.d.settings.nodes - c.used_at.result) c.shadow-minute.result
    c.avail_at.result
waits c =
    let h = somebody_asks c.requires c.in-Some.need (rw c.in-Some.is at c.asked_first.ensures) in
    let f = spare_free c.requires c.used_at.result (c.used_at.ensures (plan_by c.requires)) in
    let k = lacks_by c.requires h _ f c.if-need-spare.false _ (ap (λ (x : ℕ). c.args.d.clock + x) c.unit.ensures) in
    record {
      asks = h;
      spare_is = f;
      short = c.if-need-spare.false;
      minute_is = c.shadow-minute.ensures k;
      there_is = c.avail_at.ensures k.of;
    }

pub returns-in_default : goal.returns-in_default
returns-in_default c = nobody_waits c.requires (rw c.in_default.is at c.asked_first.ensures)

pub used_at-requires : goal.used_at-requires
used_at-requires c = plan_by c.requires

pub overflow_sub-spare : goal.overflow_sub-spare
overflow_sub-spare c =
    used_to c.requires c.used_at.result (c.used_at.ensures (plan_by c.requires))

pub returns-then-need-spare : goal.returns-then-need-spare
returns-then-need-spare c =
    head_fits_lem c.requires (head_is_lem (goal.at.returns-then-need-spare c).In-Some) _ (spare_is (goal.at.returns-then-need-spare c).After-used_at) c.if-need-spare.true

pub overflow_add-latest : goal.overflow_add-latest
overflow_add-latest c =
    omega (arith, c.unit.ensures, unit_le c.args.d.settings, clock_low c.requires)

pub shadow-minute-requires : goal.shadow-minute-requires
shadow-minute-requires c = lacks (goal.at.shadow-minute-requires c).After-unit

pub avail_at-requires : goal.avail_at-requires
avail_at-requires c = (lacks (goal.at.avail_at-requires c).After-unit).of

pub overflow_sub-extra : goal.overflow_sub-extra
overflow_sub-extra c = enough c.requires (waits c)

pub queue_rests-requires : goal.queue_rests-requires
queue_rests-requires c = timed c.requires (waits c)

pub returns : goal.returns
returns c =
    rests_by c.requires (waits (goal.at.returns c).After-avail_at) _ c.queue_rests.ensures
