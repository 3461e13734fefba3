-- `conservative_columns::place` meets its contract.
-- Assumes nothing.
use mathlib.Core.Path.{refl}
use Rattle.conservative_columns.specs.Passes.{placed_here, placed_now, placed_later}
use Rattle.conservative_columns.proofs.place.Goals as goal

pub returns-then-to-from : goal.returns-then-to-from
returns-then-to-from c = record { retimed = refl; placed = λ S js tickets nodes tenants estimates leasts live k l p. placed_here k l p c.if-to-from.true }

pub returns-then-to-clock : goal.returns-then-to-clock
returns-then-to-clock c =
    let b = c.begin.ensures in record {
      retimed = b.retimed;
      placed = λ S js tickets nodes tenants estimates leasts live k l p. placed_now k l p c.if-to-clock.true
          (b.begun S js tickets nodes tenants estimates leasts live k l p.run_is);
    }

pub returns : goal.returns
returns c = record { retimed = refl; placed = λ S js tickets nodes tenants estimates leasts live k l p. placed_later k l p c.if-to-clock.false }
