-- `conservative_plan::replan` meets its contract: the turn is asked for in the job's numbers.
-- Assumes nothing.
use mathlib.Core.Path.{refl}
use Rattle.conservative_plan.specs.Replan.{done_stays, done_placed}
use Rattle.conservative_plan.proofs.replan.Goals as goal

pub take_turn-t-requires : goal.take_turn-t-requires
take_turn-t-requires c =
    record { job = c.args.job; now = c.args.clock; replans = c.requires.0; nodes_are = refl; start_is = refl; hold_is = c.requires.1 }

pub returns-then-t-job : goal.returns-then-t-job
returns-then-t-job c =
    λ q w.
    done_stays q (c.take_turn-t.ensures (record { job = c.args.job; now = c.args.clock; replans = q; nodes_are = refl; start_is = refl; hold_is = w }))
    c.if-t-job.true

pub returns : goal.returns
returns c =
    λ q w.
    rw c.place.ensures
    (done_placed q (c.take_turn-t.ensures (record { job = c.args.job; now = c.args.clock; replans = q; nodes_are = refl; start_is = refl; hold_is = w })))
