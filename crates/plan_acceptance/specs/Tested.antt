-- What the tests of the records say, as facts: of each record, of the plan, and of who holds nodes.
-- Assumes nothing.
use Rattle.std.specs.Prelude.{ℕ, ◌+◌, ◌≤◌, ◌<◌, ◌≡◌, true, ◌&&◌, List, leb, ltb, length}
use Rattle.std.proofs.Common.{arith, subst, leb-true}
use Rattle.lists.specs.Tests.{case, both}
use Rattle.lists.specs.Lists.{In, keep_in, length_keep_le}
use Rattle.lists.specs.Every.{every, every_in}
use Rattle.scheduler.specs.declared.Kind.{Kind}
use Rattle.scheduler.specs.declared.Kind.TheVariants.{Conservative, Easy}
use Rattle.scheduler.specs.declared.Job.{Job}
use Rattle.scheduler.specs.declared.Tenant.TheVariants.{A, B}
use Rattle.scheduler.specs.Limits.{max_nodes}
use Rattle.scheduler.specs.Jobs.{is_holding, is_cleaning}
use Rattle.scheduler.specs.Settings.{slots, quota, unit, until}
use Rattle.scheduler.specs.Times.{hold_unit, cleanup_unit, until_is, until_end, until_cleaning}
use Rattle.scheduler.specs.Table.{live_of}
use Rattle.scheduler.specs.Model.{Model}
use Rattle.jobs.specs.Order.{Asc}
use Rattle.jobs.specs.Soundness.{both_tenants, holding_runs}
use Rattle.easy_rules.specs.Easy.{queue}
use Rattle.checkpoint_rules.specs.Acceptance.{in_range, ascending, tickets_hold, desk_in_range, shares_hold, record_holds, holds_end, ranked, last_minute_holds}
use Rattle.checkpoint_rules.specs.Acceptance.{plan_of}
use Rattle.checkpoint_laws.specs.Soundly.{in_range_lem, ascending_asc, DeskRange, desk_range, RecordFacts, record_facts}
use Rattle.checkpoint_laws.specs.Stages.{own_records, records_accepted}
use Rattle.plan_acceptance.specs.Plan.{PlanLow, PlanColumns, Planned}

-- what the second stage uses of the first
pub record Tested (m : Model) : Type 0 where
  pub desk : DeskRange m
  pub few : length m.jobs ≤ slots m.settings
  pub asc : Asc 1 m.jobs
  pub each : (j : Job) → In j m.jobs → RecordFacts m j
  pub ranks : m.settings.kind ≡ Easy → (j : Job) → In j m.jobs → (j.submitted ≤ m.clock) × (j.rank ≤ slots m.settings)

pub tested : (m : Model) → records_accepted m ≡ true → Tested m
unfolding records_accepted
tested m e =
    let S = m.settings in
    let js = m.jobs in
    let a = tickets_hold m in
    let b = desk_in_range S m.clock m.next in
    let c = shares_hold m in
    let r = every (record_holds S m.clock) js in
    let e6 = both (a && b && c && r && holds_end m) (own_records S.kind m) e in
    let e5 = both (a && b && c && r) (holds_end m) e6.0 in
    let e4 = both (a && b && c) r e5.0 in
    let e3 = both (a && b) c e4.0 in
    let e2 = both a b e3.0 in
    let desk = desk_range m e2.1 in
    let each : (j : Job) → In j js → RecordFacts m j = λ j i. record_facts m j (every_in (record_holds S m.clock) e4.1 i) in
    let s = both (leb (live_of A js) (quota S A)) (leb (live_of B js) (quota S B)) e3.1 in
    record {
      desk = desk;
      few = omega (
        arith,
        both_tenants js (λ j i. (each j i).range.tenant_is),
        leb-true (live_of A js) (quota S A) s.0,
        leb-true (live_of B js) (quota S B) s.1,
        desk.quotas,
      );
      asc = ascending_asc 1 js (both (ascending 1 js) (every (λ (j : Job). ltb j.ticket m.next) js) e2.0).0;
      each = each;
      ranks = λ k j i.
          let w = both (every (ranked S m.clock) js) (every (last_minute_holds S) (queue js)) (subst (λ (x : Kind). own_records x m ≡ true) k e6.1) in
          let q = both (leb j.submitted m.clock) (in_range 1 (slots S) j.rank) (every_in (ranked S m.clock) w.0 i) in
          (leb-true j.submitted m.clock q.0, (in_range_lem 1 (slots S) j.rank q.1).1);
    }

-- ## The plan

-- it has jobs of the list, and no more of them
plan_in_lem : (k : Kind) (js : List Job) {j : Job} → In j (plan_of k js) → In j js
plan_in_lem Conservative js i = i
plan_in_lem Easy js i = (keep_in is_holding js i).0

plan_few : (k : Kind) (js : List Job) → length (plan_of k js) ≤ length js
plan_few Conservative js = omega arith
plan_few Easy js = length_keep_le is_holding js

module _ (m : Model) (t : Tested m) where
  pub plan_low : PlanLow m
  plan_low j i = let r = (t.each j (plan_in_lem m.settings.kind m.jobs i)).range in (r.start_to, r.end_to)

  module _ (k : Kind) {held froms untils : List ℕ} {count : ℕ} (c : PlanColumns m.settings (plan_of k m.jobs) held froms untils count) where
    pub count_to : count ≤ slots m.settings
    count_to = omega (arith, c.count_is, plan_few k m.jobs, t.few)

    pub nodes_low : (j : Job) → In j (plan_of k m.jobs) → j.nodes ≤ max_nodes
    nodes_low j i = omega (arith, (t.each j (plan_in_lem k m.jobs i)).range.nodes_to, t.desk.nodes_to)

    -- so lists that have its columns can be summed
    abbrev pub plan_of_for : Planned held froms untils count
    plan_of_for = record { settings = m.settings; jobs = plan_of k m.jobs; columns = c; few = count_to; low = nodes_low }

-- ## Who holds nodes

-- such a job has them by now, and gives them back later than now, within a unit
module _ (m : Model) (t : Tested m) (j : Job) (i : In j m.jobs) (h : is_holding j ≡ true) where
  pub begun_by : j.start ≤ m.clock
  begun_by =
      case (is_cleaning j)
      (λ c. omega (arith, (t.each j i).cleans c))
      (λ c. ((t.each j i).runs (holding_runs j.state h c)).0)

  pub held_after : m.clock < until m.settings j
  held_after =
      case (is_cleaning j)
      (λ c. ((t.each j i).cleans c).2)
      (λ c. omega (arith, (t.each j i).runs (holding_runs j.state h c), until_end m.settings j c))

  pub held_within : until m.settings j ≤ m.clock + unit m.settings
  held_within =
      case (is_cleaning j)
      (λ c. omega (arith, (t.each j i).cleans c, until_cleaning m.settings j c, cleanup_unit m.settings))
      (λ c. omega (arith, begun_by, until_is m.settings j c, hold_unit m.settings j.estimate (t.each j i).range.estimate_to))
