-- `easy_engine::settle_slots` meets its contract: the lists are settled, and a new head is announced.
-- Assumes nothing.
use native.Mathlib.Omega.{arith}
use mathlib.Core.Path.{refl}
use Rattle.easy_engine.specs.BySlot.{surveyed, announces, slot_answers}
use Rattle.easy_engine.proofs.settle_slots.Goals as goal

pub settle-s-requires : goal.settle-s-requires
settle-s-requires c = (surveyed c.requires, omega arith)

pub announce-new-requires : goal.announce-new-requires
announce-new-requires c =
    let s = c.requires in
    announces s (c.settle-s.ensures (surveyed s))

pub returns : goal.returns
returns c =
    λ s. let p = c.settle-s.ensures (surveyed s) in
    slot_answers s p _ _ refl refl (λ b q. c.announce-new.ensures (announces s p) b q)
