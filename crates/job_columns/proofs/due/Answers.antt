-- `job_columns::due` meets its contract: by the job's state.
-- Assumes nothing.
use Prim.Native.Nat.{ℕ, ◌+◌}
use native.Mathlib.Omega.{arith}
use mathlib.Core.Path.{◌≡◌, sym, ap, ◌∙◌}
use mathlib.Core.Logic.{◌⊎◌, inl, inr}
use mathlib.Core.Bool.{true}
use borrow.Author.Tests.{ne_eqb, eq-eqb}
use Rattle.scheduler.specs.States.{waiting?, cleaning?}
use Rattle.scheduler.specs.Jobs.{is_waiting, is_cleaning}
use Rattle.scheduler.specs.Times.{end_is, hold_is, hold_le, cleanup_le, until_cleaning}
use Rattle.scheduler.specs.declared.State.TheVariants.{Unused, Running}
use Rattle.scheduler.specs.declared.Job.{Job}
use Rattle.scheduler.specs.declared.Settings.{Settings}
use Rattle.scheduler.specs.Settings.{end_of}
use Rattle.job_columns.specs.JobColumns.{due_of}
use Rattle.job_columns.specs.Encoding.{due_cleaning}
use Rattle.job_columns.proofs.due.Goals as goal

pub overflow_add-result : goal.overflow_add-result
overflow_add-result c =
    let S = c.args.settings in
    let e = c.args.job.estimate in
    omega (arith, c.requires.0, c.run_time.ensures, hold_is S e, hold_le S e)

pub returns-in-Waiting : goal.returns-in-Waiting
returns-in-Waiting c =
    let j = c.args.job in
    let w : is_waiting j ≡ true = ap waiting? c.in-Waiting.is in
    rw (w, eq-eqb j.start 0 c.if-job-eq0.true)

pub returns-in-Waiting-2 : goal.returns-in-Waiting-2
returns-in-Waiting-2 c =
    let j = c.args.job in
    let w : is_waiting j ≡ true = ap waiting? c.in-Waiting.is in
    rw (w, ne_eqb j.start 0 c.if-job-eq0.false)

pub overflow_add-result-in-Cleanup : goal.overflow_add-result-in-Cleanup
overflow_add-result-in-Cleanup c =
    omega (arith, c.requires.1, c.cleanup.ensures, cleanup_le c.args.settings)

over : (S : Settings) (j : Job) → (j.state ≡ Unused) ⊎ (j.state ≡ Running) → due_of S j ≡ end_of S j
over S j (inl e) = rw (ap waiting? e, ap cleaning? e)
over S j (inr e) = rw (ap waiting? e, ap cleaning? e)

pub returns-in-Unused : goal.returns-in-Unused
returns-in-Unused c =
    let a = c.args in
    ap (λ (t : ℕ). a.job.start + t) c.run_time.ensures ∙ sym (over a.settings a.job c.in-Unused.is ∙ end_is a.settings a.job)

pub returns-in-Cleanup : goal.returns-in-Cleanup
returns-in-Cleanup c =
    let a = c.args in
    let n : is_cleaning a.job ≡ true = ap cleaning? c.in-Cleanup.is in
    ap (λ (t : ℕ). a.job.end + t) c.cleanup.ensures ∙ sym (due_cleaning a.settings a.job n ∙ until_cleaning a.settings a.job n)
