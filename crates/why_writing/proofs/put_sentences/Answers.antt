-- `why_writing::put_sentences` meets its contract: the sentences of the slots passed are written.
-- Assumes nothing.
use Prim.Native.Nat.{◌≤◌, ◌<◌}
use native.Mathlib.Omega.{arith}
use Rattle.text.specs.WrittenBytes.{same_size}
use Rattle.std.proofs.Common.{length-take, length-take-le, get_or-take}
use Rattle.jobs.specs.Slots.{slots_all}
use Rattle.scheduler.specs.Limits.{slots}
use Rattle.scheduler.specs.Model.{view}
use Rattle.easy_engine.specs.SurveyLoop.{blank}
use Rattle.plan_acceptance.specs.Plan.{PlanColumns}
use Rattle.why_writing.specs.ExactText.{writes_none, writes_then, room_at}
use Rattle.why_writing.specs.ListedPlan.{sound, plan_low, plan_of_for, count_few, slot_starts, text_room, slot_room, text_none, text_more, text_all}
use Rattle.why_writing.proofs.put_sentences.Goals.{After-of-plan, After-survey_tickets, In-loop-j}
use Rattle.why_writing.proofs.put_sentences.Goals as goal

-- the plan that the survey has of the scheduler
plan : (v : After-of-plan)
    → let p = v.of-plan.result in PlanColumns (view v.args.d).settings (view v.args.d).jobs p.held p.froms p.untils p.count
plan v = plan_of_for v.args.d v.requires.0 v.of-plan.ensures

few : (c : After-survey_tickets) → c.of-plan.result.count ≤ slots
few c = count_few c.args.d c.requires.0 c.survey_tickets.ensures (plan_of_for c.args.d c.requires.0 c.of-plan.ensures)

-- the slot is among those of the plan
inside : (c : In-loop-j) → c.loop-j.j-index < c.of-plan.result.count
inside c = omega (arith, c.loop-j-test.true, length-take c.of-plan.result.count c.args.d.jobs)

pub of-plan-requires : goal.of-plan-requires
of-plan-requires c = plan_low c.args.d c.requires.0

pub survey_tickets-requires : goal.survey_tickets-requires
survey_tickets-requires c =
    (sound c.args.d c.requires.0, blank, (plan (goal.at.survey_tickets-requires c).After-of-plan).count_is)

pub shared_ref_as_front-j-items : goal.shared_ref_as_front-j-items
shared_ref_as_front-j-items c = few (goal.at.shared_ref_as_front-j-items c).After-survey_tickets

pub loop-j-init : goal.loop-j-init
loop-j-init c =
    rw (text_none c.args.d c.requires.0 c.survey_tickets.ensures (plan (goal.at.loop-j-init c).After-of-plan)) (writes_none _ _)

pub put_slot-at-requires : goal.put_slot-at-requires
put_slot-at-requires c =
    let d = c.args.d in
    let h = c.requires.0 in
    let named = c.survey_tickets.ensures in
    let p = plan (goal.at.put_slot-at-requires c).After-of-plan in
    let i = c.loop-j.j-index in
    let k : i < c.of-plan.result.count = inside (goal.at.put_slot-at-requires c).In-loop-j in
    rw get_or-take (
      few (goal.at.put_slot-at-requires c).After-survey_tickets,
      slot_starts d h named p i k,
      room_at c.loop-j.invariant (text_room d h named p _ c.requires.1) (slot_room d h named p i k),
    )

pub loop-j-preserved : goal.loop-j-preserved
loop-j-preserved c =
    let d = c.args.d in
    let i = c.loop-j.j-index in
    let k : i < c.of-plan.result.count = inside (goal.at.loop-j-preserved c).In-loop-j in
    rw (text_more d c.requires.0 c.survey_tickets.ensures (plan (goal.at.loop-j-preserved c).After-of-plan) i k)
    (writes_then c.loop-j.invariant (rw get_or-take at c.put_slot-at.ensures))

pub shape_of-page : goal.shape_of-page
shape_of-page c = same_size c.loop-j.invariant

pub returns : goal.returns
returns c =
    let p = plan (goal.at.returns c).After-of-plan in
    let l : c.of-plan.result.count ≤ c.loop-j.j-index =
    omega (arith, c.loop-j-test.false, length-take-le c.of-plan.result.count c.args.d.jobs (omega (arith, slots_all c.args.d (sound c.args.d c.requires.0), few (goal.at.returns c).After-survey_tickets))) in
    rw (text_all c.args.d c.requires.0 c.survey_tickets.ensures p c.loop-j.j-index l) at c.loop-j.invariant
