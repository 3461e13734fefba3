-- `column_parts::leave` meets its contract: by the place where the ticket is found.
-- Assumes nothing.
use Prim.Native.Nat.{◌<◌}
use native.Mathlib.Omega.{arith}
use mathlib.Core.Path.{sym, ap, ◌∙◌}
use Rattle.scheduler.specs.declared.Refusal.{Refusal}
use Rattle.scheduler.specs.Times.{cleanup_le}
use Rattle.column_parts.specs.Held.{nobody_left, SoundIn}
use Rattle.column_parts.specs.Departures.{cleans_by}
use Rattle.column_parts.specs.LeavingColumns.{Leavable, leaves_nowhere, numbers_low, leaves_not, leavable}
use Rattle.column_parts.proofs.leave.Goals.{Else-not-is_none}
use Rattle.column_parts.proofs.leave.Goals as goal

-- where nothing is refused
module _ (n : Else-not-is_none) where
  inside : n.find-at.result < n.args.columns.now.live
  inside = omega (arith, n.if-columns-at.false)

  able : let a = n.args in
      (k : SoundIn a.settings a.clock a.columns.now) → Leavable k.model a.how a.ticket n.find-at.result
  able k =
      let a = n.args in
      leavable k a.how a.ticket n.find-at.result
      (n.find-at.ensures k.model.jobs k.columns.tickets_are k.sound.asc k.columns.live_is) inside n.depart_refusal-why.result
      n.depart_refusal-why.ensures (sym n.is_none.ensures ∙ n.if-not-is_none.false)

pub returns-then-columns-at : goal.returns-then-columns-at
returns-then-columns-at c =
    let a = c.args in
    λ k.
    rw (c.refused.ensures ∙ ap (λ (w : Refusal). nobody_left w) c.not_there.ensures)
    (leaves_nowhere k a.how a.ticket c.find-at.result (c.find-at.ensures k.model.jobs k.columns.tickets_are k.sound.asc k.columns.live_is)
    (omega arith) a.ended.now a.gone.now c.requires.1 c.requires.2)

pub depart_refusal-why-requires : goal.depart_refusal-why-requires
depart_refusal-why-requires c =
    let a = c.args in
    let k = c.requires.0 in
    numbers_low k a.how a.ticket c.find-at.result (c.find-at.ensures k.model.jobs k.columns.tickets_are k.sound.asc k.columns.live_is)
    (omega arith)

pub returns-then-not-is_none : goal.returns-then-not-is_none
returns-then-not-is_none c =
    let a = c.args in
    λ k.
    rw c.refused-then-not-is_none.ensures
    (leaves_not k a.how a.ticket c.find-at.result (c.find-at.ensures k.model.jobs k.columns.tickets_are k.sound.asc k.columns.live_is)
    (omega (arith, c.if-columns-at.false)) c.depart_refusal-why.result c.depart_refusal-why.ensures
    (sym c.is_none.ensures ∙ c.if-not-is_none.true) a.ended.now a.gone.now c.requires.1 c.requires.2)

pub stay-requires : goal.stay-requires
stay-requires c =
    let s = c in
    let k = s.requires.0 in (
      inside (goal.at.stay-requires c).Else-not-is_none,
      omega (arith, k.sound.few, k.columns.live_is),
      omega (arith, k.sound.clock_to, k.clock_is),
      omega (arith, c.cleanup-cleanup.ensures, cleanup_le s.args.settings),
      s.requires.1,
    )

pub returns-then-cleans : goal.returns-then-cleans
returns-then-cleans c =
    let s = c in
    let a = s.args in
    λ k. c.stay.ensures a.settings a.how _ k (able (goal.at.returns-then-cleans c).Else-not-is_none k) c.cleanup-cleanup.ensures (sym c.cleans.ensures ∙ c.if-cleans.true) s.requires.2

pub go-requires : goal.go-requires
go-requires c =
    let s = c in
    let k = s.requires.0 in
    (inside (goal.at.go-requires c).Else-not-is_none, omega (arith, k.sound.few, k.columns.live_is), s.requires.1, s.requires.2)

pub returns : goal.returns
returns c =
    let a = c.args in
    λ k. c.go.ensures a.settings a.clock k (able (goal.at.returns c).Else-not-is_none k)
    (ap (cleans_by a.how) (sym c.cleanup-cleanup.ensures) ∙ sym c.cleans.ensures ∙ c.if-cleans.false)
