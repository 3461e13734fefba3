-- `conservative_plan::replan_kept` meets its contract: it is the turn of slot i, and the lists are the profile of the slots.
-- Assumes nothing.
use mathlib.Core.Path.{◌≡◌, refl, sym, ap, subst, ◌∙◌}
use mathlib.Core.List.{List}
use Prim.Native.Nat.{ℕ, ◌<◌}
use native.Mathlib.Omega.{arith}
use lib.ListN.{set}
use Rattle.scheduler.specs.Limits.{slots}
use Rattle.scheduler.specs.declared.Scheduler.{Scheduler}
use Rattle.scheduler.specs.Model.{view}
use Rattle.scheduler.specs.Table.{with_jobs}
use Rattle.conservative_table.specs.ProfileLists.{IsProfile}
use Rattle.conservative_rules.specs.Conservative.{spans}
use Rattle.conservative_plan.specs.PlannedSlots.{Tabulated}
use Rattle.conservative_plan.specs.Pass.{held_before, turns_begin, turn_asked, turn_taken, taken_falls, turn_passed, turns_end}
use Rattle.conservative_plan.proofs.replan_kept.Goals.{In-loop-turns}
use Rattle.conservative_plan.proofs.replan_kept.Goals.{else-is_waiting, then-is_waiting}
use Rattle.conservative_plan.proofs.replan_kept.Goals as goal

-- only the slots have changed
same_settings : (d e : Scheduler) {n : ℕ} {ms fs : List ℕ} → e ≡ with_jobs d e.jobs
    → IsProfile (view d).settings.nodes (spans (view d).settings e.jobs) d.clock n ms fs → Tabulated e n ms fs
unfolding view
same_settings d e {n} {ms} {fs} q p =
    subst (λ (x : Scheduler). IsProfile (view x).settings.nodes (spans (view x).settings e.jobs) x.clock n ms fs) (sym q) p

-- the slot whose turn it is
slot_low : (c : In-loop-turns) → c.loop-turns.i < slots
slot_low c = c.loop-turns.invariant.turning.low c.loop-turns-test.true

pub loop-turns-init : goal.loop-turns-init
loop-turns-init c =
    record { scheduler_is = refl; turning = turns_begin (held_before c.args.d c.requires.0) c.requires.1 }

pub offset_bounds-e-i : goal.offset_bounds-e-i
offset_bounds-e-i c = omega (arith, slot_low c)

pub bounds-e-i : goal.bounds-e-i
bounds-e-i c = slot_low c

pub replan-t-requires : goal.replan-t-requires
unfolding view
replan-t-requires c =
    let l = c.loop-turns in
    let w = sym c.is_waiting.ensures ∙ c.if-is_waiting.true in
    turn_asked l.invariant.turning (omega (arith, c.loop-turns-test.true)) c.hold_time-hold.ensures w

pub offset_bounds-e-i-then-is_waiting : goal.offset_bounds-e-i-then-is_waiting
offset_bounds-e-i-then-is_waiting c = omega (arith, slot_low (goal.at.offset_bounds-e-i-then-is_waiting c).In-loop-turns)

pub bounds-e-i-then-is_waiting : goal.bounds-e-i-then-is_waiting
bounds-e-i-then-is_waiting c = slot_low (goal.at.bounds-e-i-then-is_waiting c).In-loop-turns

pub slot_after-i-requires : goal.slot_after-i-requires
slot_after-i-requires c = slot_low (goal.at.slot_after-i-requires c).In-loop-turns

pub loop-turns-smaller : goal.loop-turns-smaller
unfolding view
loop-turns-smaller c =
    let l = c.loop-turns in
    let v = l.invariant.turning in
    elim c.if-is_waiting.branch [
      | then-is_waiting w ↦ rw (w.e-is, w.turns-is, w.calm-turns.ensures)
          (taken_falls v (omega (arith, c.loop-turns-test.true)) w.hold_time-hold.ensures (sym c.is_waiting.ensures ∙ w.if-is_waiting.true) w.replan-t.result w.replan-t.ensures)
      | else-is_waiting w ↦ rw (w.e-is, w.turns-is) (omega (arith, c.loop-turns-test.true))
    ]

pub loop-turns-preserved : goal.loop-turns-preserved
unfolding view
loop-turns-preserved c =
    let l = c.loop-turns in
    let v = l.invariant.turning in
    let e = c.is_waiting.ensures in
    rw c.slot_after-i.ensures
    (elim c.if-is_waiting.branch [
      | then-is_waiting w ↦ rw (w.minutes-is, w.free-is, w.n-is, w.e-is, w.turns-is, w.calm-turns.ensures) (record {
        scheduler_is = ap (λ (f : Scheduler). with_jobs f (set l.e.jobs l.i w.replan-t.result.job)) l.invariant.scheduler_is;
        turning = turn_taken v (omega (arith, c.loop-turns-test.true)) w.hold_time-hold.ensures (sym e ∙ w.if-is_waiting.true) w.replan-t.result w.replan-t.ensures;
      })
      | else-is_waiting w ↦ rw (w.minutes-is, w.free-is, w.n-is, w.e-is, w.turns-is) (record {
        scheduler_is = l.invariant.scheduler_is;
        turning = turn_passed v (omega (arith, c.loop-turns-test.true)) (sym e ∙ w.if-is_waiting.false);
      })
    ])

pub returns : goal.returns
returns c =
    let d = c.args.d in
    let l = c.loop-turns in (
      l.invariant.scheduler_is ∙ ap (with_jobs d) (turns_end l.invariant.turning (omega (arith, c.loop-turns-test.false))),
      same_settings d l.e l.invariant.scheduler_is l.invariant.turning.profile,
    )
