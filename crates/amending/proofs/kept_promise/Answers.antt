use mathlib.Core.Path.{sym, ◌∙◌}
use Rattle.lists.specs.Chains.{position_some, position_none}
use Rattle.scheduler.specs.Amending.{names}
use Rattle.amending.specs.Named.{promise_none, promise_one}
use Rattle.amending.proofs.kept_promise.Goals as goal

pub returns-in-Some : goal.returns-in-Some
returns-in-Some c =
    let d = c.args.d in
    let a = c.args.a in
    let i = c.in-Some.slot in
    promise_one d a c.requires i (position_some (names a) d.jobs i (sym c.slot_of.ensures ∙ c.in-Some.is))

pub returns-in-None : goal.returns-in-None
returns-in-None c =
    let d = c.args.d in
    let a = c.args.a in
    promise_none d a c.requires (position_none (names a) d.jobs (sym c.slot_of.ensures ∙ c.in-None.is))
