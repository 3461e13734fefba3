-- `record_acceptance::all_pass` meets its contract. The invariant: all slots are as asked if those that are left are.
-- Assumes nothing.
use mathlib.Core.Path.{◌≡◌, sym, ◌∙◌}
use mathlib.Core.Bool.{Bool, ◌&&◌}
use Prim.Native.Nat.{ℕ, ◌<◌}
use native.Mathlib.Omega.{arith}
use lib.ListN.{length, drop}
use Rattle.lists.specs.Every.{every}
use Rattle.scheduler.specs.declared.Scheduler.{Scheduler}
use Rattle.scheduler.specs.Model.{view}
use Rattle.scheduler.proofs.Lengths.{whole}
use Rattle.checkpoint_rules.specs.Acceptance.{ascending}
use Rattle.record_acceptance.specs.Slots.{goes_on_of, goes_on_is, stops_below, stops_at, goes_through}
use Rattle.record_acceptance.proofs.all_pass.Invariants.{p}
use Rattle.record_acceptance.proofs.all_pass.Goals.{then-j-last-via-then-j-last, then-j-last-via-else-j-last+then-not-passes}
use Rattle.record_acceptance.proofs.all_pass.Goals as goal

-- what is found of the slots that are left is found of all
told : (d : Scheduler) (last i : ℕ) → goes_on_of (p d) last (drop i d.jobs) ≡ goes_on_of (p d) 0 d.jobs → {b : Bool} → goes_on_of (p d) last (drop i d.jobs) ≡ b
    → b ≡ (ascending 1 (view d).jobs && every (p d) (view d).jobs)
unfolding view
told d last i v e = sym e ∙ v ∙ goes_on_is (p d) 0 d.jobs

pub returns-then-j-last : goal.returns-then-j-last
returns-then-j-last c =
    let l = c.loop-j in
    let d = c.args.d in
    let live = sym c.is_live.ensures ∙ c.if-is_live.true in
    let inside : l.j-index < length d.jobs = omega (arith, c.loop-j-test.true, whole d c.well_formed.0) in
    told d l.last l.j-index l.invariant
    (elim c.then-j-last.branch [
      | then-j-last-via-then-j-last w ↦ stops_below (p d) d.jobs l.last l.j-index inside live (omega (arith, w.if-j-last.true))
      | then-j-last-via-else-j-last+then-not-passes w ↦ stops_at (p d) d.jobs l.last l.j-index inside live (sym w.passes.ensures ∙ w.if-not-passes.true)
    ])

pub returns : goal.returns
returns c =
    let l = c.loop-j in
    let d = c.args.d in
    told d l.last l.j-index l.invariant (goes_through (p d) d.jobs l.last l.j-index (omega (arith, c.loop-j-test.false, whole d c.well_formed.0)))
