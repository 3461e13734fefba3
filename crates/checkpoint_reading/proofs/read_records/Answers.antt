-- `checkpoint_reading::read_records` meets its contract: the records of the lines passed stand in the slots, or cannot be accepted.
-- Assumes nothing.
use native.Mathlib.Omega.{arith}
use mathlib.Core.Path.{sym, subst, ◌∙◌}
use borrow.Author.Tests.{not-true, not-false}
use Rattle.checkpoint_reading.proofs.read_records.Goals.{in-Ok+then-count-lt-LIVE, in-Ok+else-count-lt-LIVE, in-Err-Unacceptable}
use Rattle.text.specs.LineLaws.{Ends, line_ends}
use Rattle.checkpoint_reading.specs.RecordLoop.{Inv, inv_none, unclosed_said, step_record, step_full, step_beyond, step_fails, next_fails, all_clean, all_bad}
use Rattle.checkpoint_reading.proofs.read_records.Goals.{After-next_line-line}
use Rattle.checkpoint_reading.proofs.read_records.Goals as goal

-- the line is in the text
ends : (c : After-next_line-line) → Ends c.args.text.now c.loop-at.at c.next_line-line.result
ends c = line_ends _ _ _ c.next_line-line.ensures c.loop-at.invariant.low

pub loop-at-init : goal.loop-at-init
loop-at-init c = inv_none c.args.text.now c.args.from c.args.d c.requires.0 c.requires.1

pub returns-in-Err-Malformed : goal.returns-in-Err-Malformed
returns-in-Err-Malformed c =
    step_fails c.loop-at.invariant (omega arith) c.next_line-line.ensures (not-false _ c.if-not-line.false)
    (sym (rw c.in-Err-Malformed.field-0-is at c.in-Err-Malformed.is) ∙ c.read_job.ensures)

pub loop-at-smaller : goal.loop-at-smaller
loop-at-smaller c = omega (arith, (ends (goal.at.loop-at-smaller c).After-next_line-line).within, (ends (goal.at.loop-at-smaller c).After-next_line-line).after)

pub loop-at-preserved : goal.loop-at-preserved
loop-at-preserved c =
    let v = c.loop-at.invariant in
    let q = c.next_line-line.ensures in
    let k = not-false _ c.if-not-line.false in
    let g = c.read_job.ensures in
    elim c.match-read_job.branch [
      | in-Ok+then-count-lt-LIVE w ↦ rw (w.e-is, w.count-is, w.bad-is) (step_record v (omega arith) q k (sym w.in-Ok.is ∙ g) w.if-count-lt-LIVE.true)
      | in-Ok+else-count-lt-LIVE w ↦ rw (w.e-is, w.count-is, w.bad-is) (step_full v (omega arith) q k (sym w.in-Ok.is ∙ g) w.if-count-lt-LIVE.false)
      | in-Err-Unacceptable w ↦ rw (w.e-is, w.count-is, w.bad-is) (step_beyond v (omega arith) q k (sym (rw w.in-Err-Unacceptable.field-0-is at w.in-Err-Unacceptable.is) ∙ g))
    ]

pub returns-then-not-line : goal.returns-then-not-line
returns-then-not-line c =
    let l = c.loop-at in
    next_fails l.invariant (omega arith) (unclosed_said _ _ c.next_line-line.ensures (not-true _ c.if-not-line.true))

pub returns-then-bad : goal.returns-then-bad
returns-then-bad c =
    let l = c.loop-at in
    all_bad (omega arith) (subst (λ b. Inv c.args.text.now c.args.from c.args.d l.e l.count b l.at) c.if-bad.true l.invariant)

pub returns : goal.returns
returns c =
    let l = c.loop-at in
    all_clean (omega arith) (subst (λ b. Inv c.args.text.now c.args.from c.args.d l.e l.count b l.at) c.if-bad.false l.invariant)

pub slice_bounds-read_job-count : goal.slice_bounds-read_job-count
slice_bounds-read_job-count c = (ends (goal.at.slice_bounds-read_job-count c).After-next_line-line).after

pub slice_bounds-read_job-start : goal.slice_bounds-read_job-start
slice_bounds-read_job-start c = omega (arith, (ends (goal.at.slice_bounds-read_job-start c).After-next_line-line).after, (ends (goal.at.slice_bounds-read_job-start c).After-next_line-line).within)

pub slice_bounds-read_job-end : goal.slice_bounds-read_job-end
slice_bounds-read_job-end c = omega (arith, (ends (goal.at.slice_bounds-read_job-end c).After-next_line-line).within)
