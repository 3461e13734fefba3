-- `restoring::judge` meets its contract, by how the lines were read.
-- Assumes nothing.
use mathlib.Core.Path.{sym, ◌∙◌}
use Rattle.restoring.proofs.judge.Goals as goal

pub returns-then-accepted : goal.returns-then-accepted
returns-then-accepted c = rw (c.in-Ok.is, sym c.accepted.ensures ∙ c.if-accepted.true)

pub returns-else-accepted : goal.returns-else-accepted
returns-else-accepted c =
    rw (c.in-Ok.is, sym c.accepted.ensures ∙ c.if-accepted.false) c.refused.ensures

pub returns-in-Err-Unacceptable : goal.returns-in-Err-Unacceptable
returns-in-Err-Unacceptable c =
    let arm = c.in-Err-Unacceptable in
    rw (arm.is, rw arm.is at arm.field-0-is) c.refused-in-Err-Unacceptable.ensures

pub returns-in-Err-Malformed : goal.returns-in-Err-Malformed
returns-in-Err-Malformed c =
    let arm = c.in-Err-Malformed in
    rw (arm.is, rw arm.is at arm.field-0-is) c.refused-in-Err-Malformed.ensures
