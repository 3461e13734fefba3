-- `plan_acceptance::asked_first` meets its contract. The invariant: the first among the slots that are left is the first among all.
-- Assumes nothing.
use native.Mathlib.Omega.{arith}
use mathlib.Core.Path.{refl, sym, ◌∙◌}
use Rattle.lists.specs.FirstLaws.{first_hit, first_miss, first_end}
use Rattle.scheduler.specs.Jobs.{unused, is_waiting}
use Rattle.scheduler.proofs.Lengths.{whole}
use Rattle.plan_acceptance.proofs.asked_first.Goals as goal

pub returns-then-is_waiting : goal.returns-then-is_waiting
returns-then-is_waiting c =
    let o = c.loop-j in (
      _,
      sym o.invariant ∙ first_hit is_waiting c.args.d.jobs unused o.j-index (omega (arith, whole c.args.d c.well_formed.0))
          (sym c.is_waiting.ensures ∙ c.if-is_waiting.true),
      refl,
    )

pub loop-j-preserved : goal.loop-j-preserved
loop-j-preserved c =
    let o = c.loop-j in
    sym (first_miss is_waiting c.args.d.jobs unused o.j-index (omega (arith, whole c.args.d c.well_formed.0))
    (sym c.is_waiting.ensures ∙ c.if-is_waiting.false))
    ∙ o.invariant

pub returns : goal.returns
returns c =
    let o = c.loop-j in
    let l = whole c.args.d c.well_formed.0 in
    sym o.invariant ∙ first_end is_waiting c.args.d.jobs unused o.j-index (omega arith)
