-- `easy_columns::Occupancy::holder` meets its contract. The invariant: the search over the places that are left finds the place.
-- Assumes nothing.
use Prim.Native.Nat.{◌<◌}
use native.Mathlib.Omega.{arith}
use mathlib.Core.Path.{refl, sym, ap, ◌∙◌}
use lib.ListN.{length}
use borrow.Author.Rules.{rules}
use borrow.Author.Tests.{eq-eqb, ne_eqb}
use Rattle.lists.specs.Loops.{position_hit, position_miss, position_end}
use Rattle.scheduler.specs.Jobs.{unused}
use Rattle.scheduler.specs.Table.{ticket_of}
use Rattle.job_columns.specs.Columns.{column_at}
use Rattle.job_columns.specs.Searches.{place_of, has_ticket}
use Rattle.easy_columns.proofs.Occupancy.holder.Goals as goal

pub loop-i-init : goal.loop-i-init
loop-i-init c = (search rules, λ rs k e. refl)

pub returns-then-self-i : goal.returns-then-self-i
returns-then-self-i c =
    let l = c.loop-i in
    let a = c.args in
    λ rs k e.
    let h : l.i < length rs = omega arith in
    sym (ap (λ o. place_of o a.self.now.holding) (sym (l.invariant.1 rs k e)
    ∙ position_hit unused (has_ticket a.ticket) rs l.i h
    (eq-eqb _ _ (sym (column_at ticket_of rs a.self.now.holders k unused l.i h) ∙ c.if-self-i.true))))

pub loop-i-preserved : goal.loop-i-preserved
loop-i-preserved c =
    let l = c.loop-i in
    let a = c.args in (
      omega arith,
      λ rs k e.
          let h : l.i < length rs = omega arith in
          sym (position_miss unused (has_ticket a.ticket) rs l.i h
          (ne_eqb _ _ (λ q. c.if-self-i.false (column_at ticket_of rs a.self.now.holders k unused l.i h ∙ q)))) ∙ l.invariant.1 rs k e,
    )

pub returns : goal.returns
returns c =
    let l = c.loop-i in
    let a = c.args in
    λ rs k e. sym (ap (λ o. place_of o a.self.now.holding) (sym (l.invariant.1 rs k e) ∙ position_end unused (has_ticket a.ticket) rs l.i (omega arith)))
