-- `conservative_columns::passes` meets its contract: it is the turn of the job in place `at`, and the lists are the profile of the jobs.
-- Assumes nothing.
use native.Mathlib.Omega.{arith}
use mathlib.Core.Path.{◌≡◌, refl, ap}
use Rattle.job_columns.specs.declared.Columns.{Columns}
use Rattle.job_columns.specs.Held.{retimed_on}
use Rattle.conservative_columns.specs.Held.{PassingIn}
use Rattle.conservative_columns.specs.Passes.{passes_begin, passes_end, slot_low, place_low, clears, run_low, waits_if}
use Rattle.conservative_columns.specs.Passes.{passed_by_lem, asked, start_low, placeable, turn_over, turn_falls}
use Rattle.conservative_columns.proofs.passes.Goals.{In-loop-turns}
use Rattle.conservative_columns.proofs.passes.Goals.{else-columns-at-eq1, then-columns-at-eq1}
use Rattle.conservative_columns.proofs.passes.Goals as goal

-- the nodes are those of the entry
nodes : (c : In-loop-turns) → c.loop-turns.columns.nodes ≡ c.args.columns.now.nodes
nodes c = ap (λ (x : Columns). x.nodes) c.loop-turns.invariant.1

pub loop-turns-init : goal.loop-turns-init
loop-turns-init c = (λ q. passes_begin q, refl, slot_low c.requires (passes_begin c.requires))

pub take_turn-t-requires : goal.take_turn-t-requires
take_turn-t-requires c =
    let v = c.loop-turns.invariant.0 c.requires in
    let t = c.loop-turns-test.true in
    rw (nodes (goal.at.take_turn-t-requires c).In-loop-turns) (asked c.requires v t (waits_if c.requires v t c.if-columns-at-eq1.true))

pub overflow_sub-hold : goal.overflow_sub-hold
overflow_sub-hold c =
    clears c.requires (c.loop-turns.invariant.0 c.requires) c.loop-turns-test.true

pub place-requires : goal.place-requires
place-requires c =
    let v = c.loop-turns.invariant.0 c.requires in
    let m = c.loop-turns-test.true in (
      c.loop-turns.invariant.2 m,
      start_low c.requires v m (waits_if c.requires v m c.if-columns-at-eq1.true) c.take_turn-t.result (rw (nodes (goal.at.place-requires c).In-loop-turns) at c.take_turn-t.ensures),
      run_low c.requires v m,
    )

pub loop-turns-smaller : goal.loop-turns-smaller
loop-turns-smaller c =
    let q = c.requires in
    let v = c.loop-turns.invariant.0 q in
    let m = c.loop-turns-test.true in
    elim c.if-columns-at-eq1.branch [
      | then-columns-at-eq1 w ↦ let y = waits_if q v m w.if-columns-at-eq1.true in
          rw (w.columns-is, w.turns-is, w.calm-turns.ensures)
          (turn_falls q v m y w.take_turn-t.result (rw (nodes (goal.at.loop-turns-smaller c).In-loop-turns) at w.take_turn-t.ensures)
          (w.place.ensures.placed _ _ _ _ _ _ _ _ v.columns (place_low q v m) (placeable q v m y w.take_turn-t.result (rw (nodes (goal.at.loop-turns-smaller c).In-loop-turns) at w.take_turn-t.ensures))))
      | else-columns-at-eq1 w ↦ rw (w.columns-is, w.turns-is) (omega arith)
    ]

pub loop-turns-preserved : goal.loop-turns-preserved
loop-turns-preserved c =
    let m = c.loop-turns-test.true in
    let n = nodes (goal.at.loop-turns-preserved c).In-loop-turns in
    rw c.slot_after-at.ensures
    (elim c.if-columns-at-eq1.branch [
      | then-columns-at-eq1 w ↦
          let next = λ (q : PassingIn c.args.columns.now c.args.holds.now c.args.minutes.now c.args.free.now c.args.count c.args.clock c.args.cleanup).
          let v = c.loop-turns.invariant.0 q in
          let y = waits_if q v m w.if-columns-at-eq1.true in
          let t = rw n at w.take_turn-t.ensures in
          turn_over q v m y w.take_turn-t.result t
          (w.place.ensures.placed _ _ _ _ _ _ _ _ v.columns (place_low q v m) (placeable q v m y w.take_turn-t.result t)) in
          rw (w.columns-is, w.minutes-is, w.free-is, w.n-is, w.turns-is, w.calm-turns.ensures) (
            next,
            retimed_on c.args.columns.now c.loop-turns.columns w.place.new.columns c.loop-turns.invariant.1 w.place.ensures.retimed,
            slot_low c.requires (next c.requires),
          )
      | else-columns-at-eq1 w ↦ rw (w.columns-is, w.minutes-is, w.free-is, w.n-is, w.turns-is) (
        λ q. passed_by_lem q (c.loop-turns.invariant.0 q) m w.if-columns-at-eq1.false,
        c.loop-turns.invariant.1,
        slot_low c.requires (passed_by_lem c.requires (c.loop-turns.invariant.0 c.requires) m w.if-columns-at-eq1.false),
      )
    ])

pub returns : goal.returns
returns c =
    record { passed = λ q. passes_end q (c.loop-turns.invariant.0 q) c.loop-turns-test.false; retimed = c.loop-turns.invariant.1 }
