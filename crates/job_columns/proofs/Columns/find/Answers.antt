-- `job_columns::Columns::find` meets its contract: the ticket stands neither before `low` nor from `high` on.
-- Assumes nothing.
use Prim.Native.Nat.{◌+◌, ◌/◌, ◌<◌}
use native.Mathlib.Omega.{arith}
use mathlib.Core.Path.{sym, ap, ◌∙◌}
use lib.ListN.{length}
use Rattle.scheduler.specs.Jobs.{unused}
use Rattle.scheduler.specs.Table.{ticket_of}
use Rattle.job_columns.specs.Columns.{column_at}
use Rattle.job_columns.specs.Searches.{place_of, between_later, between_sooner, between_here, between_none}
use Rattle.job_columns.proofs.Columns.find.Goals.{else-low-self-via-then-low-self+else-self-low, else-low-self-via-else-low-self}
use Rattle.job_columns.proofs.Columns.find.Goals as goal

pub loop-low-init : goal.loop-low-init
loop-low-init c = (omega arith, omega arith, λ js k a n. record { before = λ i l. absurd (omega arith); after = λ i l q. absurd (omega arith) })

pub loop-low-preserved-then-self-middle : goal.loop-low-preserved-then-self-middle
loop-low-preserved-then-self-middle c =
    let l = c.loop-low in
    let m = (l.low + l.high) / 2 in (
      omega arith,
      omega arith,
      λ js k a n.
          let h : m < length js = omega arith in
          between_later a (l.invariant.2 js k a n) m h (omega (arith, c.if-self-middle.true, column_at ticket_of js c.args.self.now.tickets k unused m h)),
    )

pub loop-low-preserved : goal.loop-low-preserved
loop-low-preserved c =
    let l = c.loop-low in
    let m = (l.low + l.high) / 2 in (
      omega arith,
      omega arith,
      λ js k a n.
          let h : m < length js = omega arith in
          between_sooner a (l.invariant.2 js k a n) m h (omega (arith, c.if-self-middle.false, column_at ticket_of js c.args.self.now.tickets k unused m h)),
    )

pub returns-then-self-low : goal.returns-then-self-low
returns-then-self-low c =
    let l = c.loop-low in
    λ js k a n.
    let h : l.low < length js = omega arith in
    sym (ap (λ o. place_of o c.args.self.now.live) (between_here a (l.invariant.2 js k a n) (omega arith) h
    (sym (column_at ticket_of js c.args.self.now.tickets k unused l.low h) ∙ c.if-self-low.true)))

pub returns-else-low-self : goal.returns-else-low-self
returns-else-low-self c =
    let l = c.loop-low in
    λ js k a n.
    let none = between_none a (l.invariant.2 js k a n) (omega arith) in
    sym (ap (λ o. place_of o c.args.self.now.live) (elim c.else-low-self.branch [
      | else-low-self-via-then-low-self+else-self-low w ↦ none (λ h q. w.if-self-low.false (column_at ticket_of js c.args.self.now.tickets k unused l.low h ∙ q))
      | else-low-self-via-else-low-self w ↦ none (λ h q. omega (arith, w.if-low-self.false, n, h))
    ]))
