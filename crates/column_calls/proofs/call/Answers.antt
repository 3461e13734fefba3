-- `column_calls::call` meets its contract: each kind has its calls.
-- Assumes nothing.
use mathlib.Core.Path.{ap}
use Rattle.history.specs.Calls as calls
use Rattle.column_calls.specs.Held.{answered_as, gives_as}
use Rattle.column_calls.specs.CallsByKind.{lent_conservative, conservative_gives, lent_easy, easy_gives}
use Rattle.column_calls.proofs.call.Goals as goal

pub submit-requires : goal.submit-requires
submit-requires c =
    (lent_conservative c.requires.0 c.in-Conservative.is, c.requires.3)

pub depart-requires : goal.depart-requires
depart-requires c =
    (lent_conservative c.requires.0 c.in-Conservative.is, c.requires.1, c.requires.2, c.requires.3)

pub tick-requires : goal.tick-requires
tick-requires c =
    (lent_conservative c.requires.0 c.in-Conservative.is, c.requires.1, c.requires.2, c.requires.3)

pub submit-requires-in-Submit-request : goal.submit-requires-in-Submit-request
submit-requires-in-Submit-request c =
    (lent_easy c.requires.0 c.in-Easy.is, c.requires.3)

pub depart-requires-in-Depart-request : goal.depart-requires-in-Depart-request
depart-requires-in-Depart-request c =
    (lent_easy c.requires.0 c.in-Easy.is, c.requires.1, c.requires.2, c.requires.3)

pub tick-requires-in-Tick-request : goal.tick-requires-in-Tick-request
tick-requires-in-Tick-request c =
    (lent_easy c.requires.0 c.in-Easy.is, c.requires.1, c.requires.2, c.requires.3)

pub returns-in-Submit : goal.returns-in-Submit
returns-in-Submit c =
    let w = c.in-Conservative.is in
    λ k. (
      conservative_gives k w c.args.request _ (ap calls.asked c.in-Submit.is) (answered_as _ _ (c.submit.ensures (lent_conservative k w) c.args.ended.now c.requires.1)),
      c.requires.2,
    )

pub returns-in-Depart : goal.returns-in-Depart
returns-in-Depart c =
    let w = c.in-Conservative.is in
    λ k.
    let g = c.depart.ensures (lent_conservative k w) in
    (conservative_gives k w c.args.request _ (ap calls.asked c.in-Depart.is) (answered_as _ _ g.0), g.1)

pub returns-in-Tick : goal.returns-in-Tick
returns-in-Tick c =
    let w = c.in-Conservative.is in
    λ k.
    let g = c.tick.ensures (lent_conservative k w) in
    (conservative_gives k w c.args.request _ (ap calls.asked c.in-Tick.is) (answered_as _ _ g.0), g.1)

pub returns-in-Submit-request : goal.returns-in-Submit-request
returns-in-Submit-request c =
    let w = c.in-Easy.is in
    λ k. (
      easy_gives k w c.args.request _ (ap calls.asked c.in-Submit-request.is) (gives_as _ (c.submit-in-Submit-request.ensures (lent_easy k w) c.args.ended.now c.requires.1)),
      c.requires.2,
    )

pub returns-in-Depart-request : goal.returns-in-Depart-request
returns-in-Depart-request c =
    let w = c.in-Easy.is in
    λ k.
    let g = c.depart-in-Depart-request.ensures (lent_easy k w) in
    (easy_gives k w c.args.request _ (ap calls.asked c.in-Depart-request.is) (gives_as _ g.0), g.1)

pub returns-in-Tick-request : goal.returns-in-Tick-request
returns-in-Tick-request c =
    let w = c.in-Easy.is in
    λ k.
    let g = c.tick-in-Tick-request.ensures (lent_easy k w) in
    (easy_gives k w c.args.request _ (ap calls.asked c.in-Tick-request.is) (gives_as _ g.0), g.1)
