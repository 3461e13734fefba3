-- `conservative_columns::begin` meets its contract: the jobs in the first places have their hold times.
-- Assumes nothing.
use mathlib.Core.Path.{ap, ◌∙◌}
use native.Mathlib.Numerals.{add-one}
use native.Mathlib.Omega.{arith}
use lib.ListN.{get_or, take}
use lib.Seq.{take_all, take-suc, length-take-le}
use Rattle.scheduler.specs.Jobs.{unused}
use Rattle.scheduler.specs.Settings.{hold_time}
use Rattle.job_columns.specs.Columns.{estimate_of, column_at, column_push}
use Rattle.job_columns.specs.JobColumns.{hold_of}
use Rattle.conservative_columns.proofs.begin.Goals as goal

pub loop-i-preserved : goal.loop-i-preserved
loop-i-preserved c =
    let l = c.loop-i in
    let t = c.loop-i-test.true in
    let S = c.args.settings in (
      omega (arith, t),
      λ js e n.
          let there = column_at estimate_of js _ e unused l.i (omega (arith, n, t)) in
          rw (add-one, take-suc js l.i unused (omega (arith, n, t)))
          (column_push (hold_of S) (take l.i js) _ (l.invariant.1 js e n) (get_or js l.i unused) l.i _ (length-take-le l.i js (omega (arith, n, t)))
          (omega (arith, t, c.requires.0)) (c.hold_time.ensures ∙ ap (hold_time S) there)),
    )

pub returns : goal.returns
returns c =
    λ js e n. rw (take_all c.loop-i.i js (omega (arith, n, c.loop-i-test.false))) at (c.loop-i.invariant.1 js e n)

pub loop-i-init : goal.loop-i-init
loop-i-init c = (omega arith, λ js e n. c.requires.1)
