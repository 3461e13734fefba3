-- `easy_engine::forward` meets its contract. The invariant: the search over the places that are left finds the place.
-- Assumes nothing.
use Prim.Native.Nat.{◌<◌}
use native.Mathlib.Omega.{arith}
use mathlib.Core.Path.{sym, ◌∙◌}
use lib.ListN.{length}
use Rattle.lists.specs.Loops.{position_hit, position_miss, position_end}
use Rattle.scheduler.specs.Jobs.{unused}
use Rattle.job_columns.specs.Columns.{estimate_of, column_at}
use Rattle.easy_engine.specs.Survey.{asks, asks_to, may_pass}
use Rattle.easy_engine.specs.Searches.{position_skips}
use Rattle.easy_engine.proofs.forward.Goals as goal

pub loop-i-init : goal.loop-i-init
loop-i-init c =
    let a = c.args in
    λ ws k f e g.
    position_skips (may_pass a.settings a.spare a.extra a.room) (asks_to a.spare)
    (λ j t. rw t) ws a.waiting a.fit (sym e) g

pub returns-then-may_pass : goal.returns-then-may_pass
returns-then-may_pass c =
    let l = c.loop-i in
    let a = c.args in
    λ ws k f e g.
    let h : l.i < length ws = omega arith in
    let t = sym c.may_pass.ensures ∙ c.if-may_pass.true in
    sym (position_hit unused (may_pass a.settings a.spare a.extra a.room) ws l.i h
    (rw (column_at asks ws a.asked.now k unused l.i h, column_at estimate_of ws a.estimates.now f unused l.i h) at t))
    ∙ l.invariant ws k f e g

pub loop-i-preserved : goal.loop-i-preserved
loop-i-preserved c =
    let l = c.loop-i in
    let a = c.args in
    λ ws k f e g.
    let h : l.i < length ws = omega arith in
    let t = sym c.may_pass.ensures ∙ c.if-may_pass.false in
    sym (position_miss unused (may_pass a.settings a.spare a.extra a.room) ws l.i h
    (rw (column_at asks ws a.asked.now k unused l.i h, column_at estimate_of ws a.estimates.now f unused l.i h) at t))
    ∙ l.invariant ws k f e g

pub returns : goal.returns
returns c =
    let l = c.loop-i in
    let a = c.args in
    λ ws k f e g.
    sym (position_end unused (may_pass a.settings a.spare a.extra a.room) ws l.i (omega arith)) ∙ l.invariant ws k f e g
