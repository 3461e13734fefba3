-- `plan_acceptance::queue_rests` meets its contract. The invariant: what is asked of the jobs that are left is what is asked of all.
-- Assumes nothing.
use Prim.Native.Nat.{◌<◌}
use native.Mathlib.Omega.{arith}
use mathlib.Core.Path.{refl, sym, ◌∙◌}
use lib.ListN.{length}
use Rattle.lists.specs.Lists.{in_getD, in_keep}
use Rattle.scheduler.specs.Jobs.{unused, is_waiting}
use Rattle.scheduler.proofs.Lengths.{whole}
use Rattle.lists.specs.EveryLoop.{from_skipped, from_passed, from_failed, from_ended}
use Rattle.plan_acceptance.proofs.queue_rests.Invariants.{asked}
use Rattle.plan_acceptance.proofs.queue_rests.Goals.{In-loop-j}
use Rattle.plan_acceptance.proofs.queue_rests.Goals.{else-is_waiting, then-is_waiting+else-not-rests}
use Rattle.plan_acceptance.proofs.queue_rests.Goals as goal

-- the slot is there
inside : (c : In-loop-j) → c.loop-j.j-index < length c.args.d.jobs
inside c = omega (arith, whole c.args.d c.well_formed.0)

pub rests-requires : goal.rests-requires
rests-requires c =
    let l = c.loop-j in
    let r = c.requires.each _ (in_keep is_waiting (in_getD c.args.d.jobs l.j-index unused (inside (goal.at.rests-requires c).In-loop-j)) (sym c.is_waiting.ensures ∙ c.if-is_waiting.true)) in
    record { few = omega arith; early = c.requires.early; submitted_to = r.0; rank_to = r.1 }

pub returns-then-not-rests : goal.returns-then-not-rests
returns-then-not-rests c =
    let l = c.loop-j in
    let a = c.args in
    sym (from_failed unused (asked a.minute a.spare a.extra a.d) is_waiting a.d.jobs l.ahead l.j-index (inside (goal.at.returns-then-not-rests c).In-loop-j)
    (sym c.is_waiting.ensures ∙ c.if-is_waiting.true) (sym c.rests.ensures ∙ c.if-not-rests.true)) ∙ l.invariant.1

pub loop-j-preserved : goal.loop-j-preserved
loop-j-preserved c =
    let l = c.loop-j in
    let a = c.args in
    let p = asked a.minute a.spare a.extra a.d in
    let e = sym c.is_waiting.ensures in
    elim c.if-is_waiting.branch [
      | then-is_waiting+else-not-rests x ↦ rw x.ahead-is (
        omega arith,
        sym (from_passed unused p is_waiting a.d.jobs l.ahead l.j-index (inside (goal.at.loop-j-preserved c).In-loop-j) (e ∙ x.if-is_waiting.true) (sym x.rests.ensures ∙ x.if-not-rests.false)) ∙ l.invariant.1,
      )
      | else-is_waiting x ↦ rw x.ahead-is (
        omega arith,
        sym (from_skipped unused p is_waiting a.d.jobs l.ahead l.j-index (inside (goal.at.loop-j-preserved c).In-loop-j) (e ∙ x.if-is_waiting.false)) ∙ l.invariant.1,
      )
    ]

pub returns : goal.returns
returns c =
    let l = c.loop-j in
    let a = c.args in
    sym (from_ended unused (asked a.minute a.spare a.extra a.d) is_waiting a.d.jobs l.ahead l.j-index
    (omega (arith, whole a.d c.well_formed.0))) ∙ l.invariant.1

pub overflow_sub-room : goal.overflow_sub-room
overflow_sub-room c = omega (arith, c.requires.from)

pub loop-j-init : goal.loop-j-init
loop-j-init c = (omega arith, refl)

pub overflow_add-ahead : goal.overflow_add-ahead
overflow_add-ahead c = omega arith
