-- `column_parts::expire` meets its contract: the jobs before the place have been looked at, and the one in it is due.
-- Assumes nothing.
use native.Mathlib.Omega.{arith}
use Rattle.column_parts.specs.SweptColumns.{sweeping_first, sweeping_far, sweeping_done}
use Rattle.column_parts.proofs.expire.Goals as goal

pub first_due-requires : goal.first_due-requires
first_due-requires c = let k = c.requires.0 in (omega arith, omega (arith, k.sound.few, k.columns.live_is))

pub loop-done-init : goal.loop-done-init
loop-done-init c =
    let k = c.requires.0 in
    let f = c.first_due.ensures in (
      f.to_end,
      omega (arith, k.sound.few, k.columns.live_is),
      f.here,
      λ k. sweeping_far k.sound (sweeping_first k.model c.args.columns.now.live k.columns c.args.ended.now c.args.gone.now c.requires.1 c.requires.2)
          c.args.minute c.first_due.result k.minute_is f,
    )

pub pass-next-requires : goal.pass-next-requires
pass-next-requires c =
    let l = c.loop-done in
    let k = c.requires.0 in
    record {
      model = k.model;
      sound = k.sound;
      minute_is = k.minute_is;
      in_time_lem = k.in_time_lem;
      clearing_is = k.clearing_is;
      sweeping = l.invariant.3 k;
      more = c.loop-done-test.true;
      due = l.invariant.2 c.loop-done-test.true;
    }

pub first_due-requires-in-loop-done : goal.first_due-requires-in-loop-done
first_due-requires-in-loop-done c =
    let l = c.loop-done in
    let q = c.pass-next.ensures.nearer in
    (q.1, omega (arith, q.2, l.invariant.1))

pub loop-done-smaller : goal.loop-done-smaller
loop-done-smaller c =
    let q = c.pass-next.ensures.nearer in
    omega (arith, q.0, c.first_due-in-loop-done.ensures.from_to)

pub loop-done-preserved : goal.loop-done-preserved
loop-done-preserved c =
    let l = c.loop-done in
    let f = c.first_due-in-loop-done.ensures in
    let q = c.pass-next.ensures in (
      f.to_end,
      omega (arith, q.nearer.2, l.invariant.1),
      f.here,
      λ k.
          sweeping_far k.sound (q.swept (record {
            model = k.model;
            sound = k.sound;
            minute_is = k.minute_is;
            in_time_lem = k.in_time_lem;
            clearing_is = k.clearing_is;
            sweeping = l.invariant.3 k;
            more = c.loop-done-test.true;
            due = l.invariant.2 c.loop-done-test.true;
          })) _ c.first_due-in-loop-done.result k.minute_is f,
    )

pub returns : goal.returns
returns c =
    let l = c.loop-done in
    λ k. sweeping_done k.sound (l.invariant.3 k) _ k.columns.live_is c.loop-done-test.false
