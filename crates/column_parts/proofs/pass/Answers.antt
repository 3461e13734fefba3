-- `column_parts::pass` meets its contract: by the state of the job in the place.
-- Assumes nothing.
use native.Mathlib.Omega.{arith}
use mathlib.Core.Path.{ap, ◌∙◌}
use Rattle.scheduler.specs.Times.{cleanup_le}
use Rattle.job_columns.specs.declared.Columns.{Columns}
use Rattle.job_columns.specs.Held.{cleaned_on}
use Rattle.column_parts.specs.SweptColumns.{due_low, sweeping_starts, sweeping_released, sweeping_cleans, sweeping_goes}
use Rattle.column_parts.proofs.pass.Goals as goal

pub bounds-columns-at : goal.bounds-columns-at
bounds-columns-at c = (due_low c.requires).at_low

pub overflow_add-result-then-state-eq1 : goal.overflow_add-result-then-state-eq1
overflow_add-result-then-state-eq1 c = omega (arith, (due_low c.requires).starting_low)

pub returns-then-state-eq1 : goal.returns-then-state-eq1
returns-then-state-eq1 c =
    record {
      swept = λ k. sweeping_starts k.sound k.sweeping k.more (k.due ∙ k.minute_is) c.if-state-eq1.true;
      nearer = (omega (arith, c.requires.more), omega (arith, c.requires.more), omega arith);
    }

pub take_out-requires : goal.take_out-requires
take_out-requires c =
    let l = due_low c.requires in
    (c.requires.more, l.live_low, l.gone_low)

pub returns-then-state-eq3 : goal.returns-then-state-eq3
returns-then-state-eq3 c =
    let q = c.take_out.ensures in record {
      swept = λ k. rw (q.listed, q.one_less) (sweeping_released k.sound k.sweeping k.more (k.due ∙ k.minute_is) c.if-state-eq3.true
          (rw q.one_less at (q.left k.model.settings _ k.sweeping.columns)));
      nearer = (omega (arith, c.requires.more, q.one_less), omega (arith, c.requires.more, q.one_less), omega (arith, q.one_less));
    }

pub bounds-columns-at-2 : goal.bounds-columns-at-2
bounds-columns-at-2 c = (due_low c.requires).at_low

pub bounds-ended-over : goal.bounds-ended-over
bounds-ended-over c = (due_low c.requires).ended_low

pub clean-requires : goal.clean-requires
clean-requires c =
    let k = c.requires in
    ((due_low k).at_low, k.in_time_lem, omega (arith, k.clearing_is, cleanup_le k.model.settings))

pub returns-then-cleanup-gt0 : goal.returns-then-cleanup-gt0
returns-then-cleanup-gt0 c =
    let q = c.clean.ensures in
    let still = ap (λ (x : Columns). x.live) q.restated in record {
      swept = λ k. rw still (sweeping_cleans k.sound k.sweeping k.more (k.due ∙ k.minute_is) c.if-state-eq1.false c.if-state-eq3.false (omega (arith, c.if-cleanup-gt0.true, k.clearing_is))
          (rw (k.minute_is, still) at (cleaned_on _ _ _ _ _ q.cleaned q.restated k.model.settings _ k.sweeping.columns k.more k.clearing_is)));
      nearer = (omega (arith, c.requires.more, still), omega (arith, c.requires.more, still), omega (arith, still));
    }

pub take_out-requires-2 : goal.take_out-requires-2
take_out-requires-2 c =
    let l = due_low c.requires in
    (c.requires.more, l.live_low, l.gone_low)

pub returns : goal.returns
returns c =
    let q = c.take_out-2.ensures in record {
      swept = λ k. rw (q.listed, q.one_less) (sweeping_goes k.sound k.sweeping k.more (k.due ∙ k.minute_is) c.if-state-eq1.false c.if-state-eq3.false
          (omega (arith, c.if-cleanup-gt0.false, k.clearing_is)) (rw q.one_less at (q.left k.model.settings _ k.sweeping.columns)));
      nearer = (omega (arith, c.requires.more, q.one_less), omega (arith, c.requires.more, q.one_less), omega (arith, q.one_less));
    }
