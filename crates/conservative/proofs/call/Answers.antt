-- `conservative::call` meets its contract: each request has its function.
-- Assumes nothing.
use mathlib.Core.Path.{sym, ap, ◌∙◌}
use Rattle.scheduler.specs.declared.Request.{Request}
use Rattle.scheduler.specs.Model.{view}
use Rattle.scheduler.specs.Answers.{outcome}
use Rattle.history.specs.Calls.{asked}
use Rattle.conservative_rules.specs.Conservative.{call}
use Rattle.conservative.proofs.call.Goals as goal

pub returns-in-Submit : goal.returns-in-Submit
returns-in-Submit c =
    let m = view c.args.d in
    c.submit.ensures ∙ ap (λ (q : Request). outcome (call m (asked q))) (sym c.in-Submit.is)

pub returns-in-Depart : goal.returns-in-Depart
returns-in-Depart c =
    let m = view c.args.d in
    c.depart.ensures ∙ ap (λ (q : Request). outcome (call m (asked q))) (sym c.in-Depart.is)

pub returns-in-Tick : goal.returns-in-Tick
returns-in-Tick c =
    let m = view c.args.d in
    c.tick.ensures ∙ ap (λ (q : Request). outcome (call m (asked q))) (sym c.in-Tick.is)
