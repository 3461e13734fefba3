-- `job_columns::gather` meets its contract: the first jobs are in their slots, and the slots after them are unused.
-- Assumes nothing.
use Prim.Native.Nat.{ℕ, ◌+◌, ◌<◌}
use native.Mathlib.Omega.{arith}
use native.Mathlib.Numerals.{add-one}
use mathlib.Core.Path.{◌≡◌, ap, ◌∙◌}
use mathlib.Core.List.{List}
use lib.ListN.{length, get_or, set, take, replicate}
use lib.Seq.{take-suc, take_all, length-take-le}
use Rattle.lists.specs.Pads.{pad, pad_push}
use Rattle.scheduler.specs.declared.Job.{Job}
use Rattle.scheduler.specs.Limits.{slots}
use Rattle.scheduler.specs.Jobs.{unused}
use Rattle.scheduler.specs.Settings.{cleanup as cleanupOf}
use Rattle.scheduler.specs.Model.{store}
use Rattle.job_columns.specs.Gathering.{row_fits, row_end}
use Rattle.job_columns.proofs.gather.Goals as goal

-- one slot more
pushed : (js jobs : List Job) (j : Job) (i : ℕ) → jobs ≡ pad slots unused (take i js) → i < length js → i < slots → j ≡ get_or js i unused
    → set jobs i j ≡ pad slots unused (take (i + 1) js)
pushed js jobs j i e l q z =
    rw (e, z, add-one, take-suc js i unused l) (pad_push slots unused (take i js) (get_or js i unused) i (length-take-le i js (omega arith)) q)

pub loop-i-init : goal.loop-i-init
unfolding pad
loop-i-init c =
    let k = c.requires in
    (omega arith, omega (arith, k.sound.few, k.columns.core.live_is), c.cleanup-cleanup.ensures, λ k. ap (replicate 64) c.unused-jobs.ensures)

pub job_at-requires : goal.job_at-requires
job_at-requires c =
    let l = c.loop-i in
    (omega (arith, l.invariant.1), rw l.invariant.2 (row_fits c.requires l.i (omega arith)))

pub loop-i-preserved : goal.loop-i-preserved
loop-i-preserved c =
    let l = c.loop-i in
    let h : l.i < c.args.columns.now.live = omega arith in (
      omega arith,
      l.invariant.1,
      l.invariant.2,
      λ k.
          pushed k.model.jobs l.jobs c.job_at.result l.i (l.invariant.3 k) (omega (arith, k.columns.core.live_is)) (omega (arith, l.invariant.1))
          (c.job_at.ensures k.model.settings k.model.jobs k.columns h (l.invariant.2 ∙ ap cleanupOf k.settings_is) (row_end k l.i h)),
    )

pub returns : goal.returns
unfolding store
returns c =
    let l = c.loop-i in
    λ k.
    let all : l.jobs ≡ pad slots unused k.model.jobs =
    l.invariant.3 k ∙ ap (pad slots unused) (take_all l.i k.model.jobs (omega (arith, k.columns.core.live_is))) in
    λ q. record { settings = k.settings_is q; clock = k.clock_is q; next = k.next_is q; jobs = all q }
