-- `longest::longer` meets its contract.
-- Assumes nothing.
use native.Mathlib.Omega.{arith}
use mathlib.Core.Path.{◌∙◌}
use Rattle.longest.specs.Scan.{longer_late, longer_max}
use Rattle.longest.proofs.longer.Goals as goal

pub returns-then-by-since : goal.returns-then-by-since
returns-then-by-since c =
    let a = c.args in
    longer_late a.longest a.since a.end a.by (omega (arith, c.if-by-since.true))

pub returns : goal.returns
returns c =
    let a = c.args in
    c.max.ensures ∙ longer_max a.longest a.since a.end a.by (omega (arith, c.if-by-since.false))
