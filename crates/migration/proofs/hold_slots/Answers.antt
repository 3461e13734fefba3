-- `migration::hold_slots` meets its contract: each slot is changed.
-- Assumes nothing.
use Prim.Native.Nat.{ℕ, ◌+◌, ◌≤◌, ◌<◌}
use native.Mathlib.Omega.{arith}
use mathlib.Core.Path.{◌≡◌, refl, sym, ap, ◌∙◌}
use mathlib.Core.List.{List, map, ◌++◌}
use lib.ListN.{length, get_or, set, take, drop, length-map}
use Rattle.std.proofs.Common.{append-nil, take_all, drop_of_length-le, length-take-le, get_or-append-add, get_or-drop}
use Rattle.lists.specs.Loops.{mapped_set}
use Rattle.scheduler.specs.declared.Job.{Job}
use Rattle.scheduler.specs.Jobs.{unused, is_live_of}
use Rattle.migration.specs.HeldSlots.{held_slot}
use Rattle.migration.proofs.hold_slots.Goals.{then-is_live, else-is_live}
use Rattle.migration.proofs.hold_slots.Goals as goal

-- the slot in the loop's place is as it was
there : (js : List Job) (i : ℕ) → i < length js → get_or (map held_slot (take i js) ++ drop i js) i unused ≡ get_or js i unused
there js i h =
    let ys = map held_slot (take i js) in
    let k : i ≡ length ys + 0 = omega (arith, length-map (take i js) held_slot, length-take-le i js (omega arith)) in
    let z : i + 0 ≡ i = omega arith in
    ap (λ (p : ℕ). get_or (ys ++ drop i js) p unused) k
    ∙ get_or-append-add ys (drop i js) 0 unused
    ∙ get_or-drop i js 0 unused
    ∙ ap (λ (p : ℕ). get_or js p unused) z

pub loop-job-init : goal.loop-job-init
loop-job-init c = refl

pub loop-job-preserved : goal.loop-job-preserved
loop-job-preserved c =
    let js = c.args.jobs.now in
    let l = c.loop-job in
    let i = l.job-index in
    let low : i < length js = omega (arith, c.loop-job-test.true, c.requires.0) in
    let here = ap (λ (xs : List Job). get_or xs i unused) l.invariant ∙ there js i low in
    elim c.if-is_live.branch [
      | then-is_live w ↦ rw w.jobs-is
          (ap (λ (xs : List Job). set xs i w.held_slot.result) l.invariant ∙ mapped_set unused held_slot js i w.held_slot.result low (w.held_slot.ensures ∙ ap held_slot here))
      | else-is_live w ↦
          let blank = c.requires.1 i c.loop-job-test.true (ap is_live_of (sym here) ∙ sym c.is_live.ensures ∙ w.if-is_live.false) in
          rw w.jobs-is
          (ap (λ (xs : List Job). set xs i (get_or l.jobs i unused)) l.invariant ∙ mapped_set unused held_slot js i (get_or l.jobs i unused) low (here ∙ blank ∙ sym (ap held_slot blank)))
    ]

pub returns : goal.returns
returns c =
    let js = c.args.jobs.now in
    let i = c.loop-job.job-index in
    let le : length js ≤ i = omega (arith, c.loop-job-test.false, c.requires.0) in
    c.loop-job.invariant ∙ rw (take_all i js le, drop_of_length-le js le) (append-nil (map held_slot js))
