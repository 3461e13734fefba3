-- `conservative_table::advance` meets its contract: the places before the one of the new minute have left.
-- Assumes nothing.
use mathlib.Core.Path.{refl}
use native.Mathlib.Omega.{arith}
use Rattle.conservative_table.specs.Advance.{advance_ascends, advanced, advanced_none}
use Rattle.conservative_table.specs.ProfileLists.{advancing, advanced_on}
use Rattle.conservative_table.proofs.advance.Goals as goal

pub place_after-k-requires : goal.place_after-k-requires
place_after-k-requires c = advance_ascends (advancing c.requires)

pub returns-then-last-eq0 : goal.returns-then-last-eq0
returns-then-last-eq0 c = (λ l. advanced_on l (advanced_none c.place_after-k.ensures c.if-last-eq0.true), λ e. refl)

pub withdraw-requires : goal.withdraw-requires
withdraw-requires c =
    (c.requires.profile.minutes_long, (advancing c.requires).fit, omega (arith, c.place_after-k.ensures.low))

pub withdraw-requires-2 : goal.withdraw-requires-2
withdraw-requires-2 c =
    (c.requires.profile.free_long, (advancing c.requires).fit, omega (arith, c.place_after-k.ensures.low))

pub returns : goal.returns
returns c =
    let p = c.place_after-k.ensures in (
      λ l. advanced_on l (advanced p c.withdraw.ensures c.withdraw-2.ensures),
      λ e. absurd
          (omega (arith, e, p.low, c.if-last-eq0.false)),
    )
