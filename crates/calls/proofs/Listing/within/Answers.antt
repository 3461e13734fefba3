-- `calls::Listing::within` meets its contract.
-- Assumes nothing.
use mathlib.Core.Path.{◌∙◌}
use Rattle.calls.specs.ListCall.{none_listed, all_listed}
use Rattle.calls.proofs.Listing.within.Goals as goal

pub returns-then-room-count : goal.returns-then-room-count
returns-then-room-count g c = c.none.ensures ∙ none_listed _ _ _ _ _ c.if-room-count.true

pub returns : goal.returns
returns g c = all_listed _ _ _ _ _ c.if-room-count.false
