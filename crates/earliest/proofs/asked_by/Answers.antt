-- `earliest::asked_by` meets its contract. The invariant: the first among the slots that are left is the first among all.
-- Assumes nothing.
use native.Mathlib.Omega.{arith}
use mathlib.Core.Path.{refl, sym, ◌∙◌}
use Rattle.lists.specs.FirstLaws.{first_hit, first_miss, first_end}
use Rattle.scheduler.specs.declared.Departure.TheVariants.{Cancel}
use Rattle.scheduler.specs.Jobs.{unused, departs_as}
use Rattle.scheduler.proofs.Lengths.{whole}
use Rattle.earliest.proofs.asked_by.Goals as goal

pub returns-then-departs : goal.returns-then-departs
returns-then-departs c =
    let o = c.loop-j in (
      _,
      sym o.invariant ∙ first_hit (departs_as Cancel c.args.ticket) c.args.d.jobs unused o.j-index (omega (arith, whole c.args.d c.well_formed.0))
          (sym c.departs.ensures ∙ c.if-departs.true),
      refl,
    )

pub loop-j-preserved : goal.loop-j-preserved
loop-j-preserved c =
    let o = c.loop-j in
    sym (first_miss (departs_as Cancel c.args.ticket) c.args.d.jobs unused o.j-index (omega (arith, whole c.args.d c.well_formed.0))
    (sym c.departs.ensures ∙ c.if-departs.false))
    ∙ o.invariant

pub returns : goal.returns
returns c =
    let o = c.loop-j in
    let l = whole c.args.d c.well_formed.0 in
    sym o.invariant ∙ first_end (departs_as Cancel c.args.ticket) c.args.d.jobs unused o.j-index (omega arith)
