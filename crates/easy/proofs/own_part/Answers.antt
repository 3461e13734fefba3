-- `easy::own_part` meets its contract: each request has its function.
-- Assumes nothing.
use mathlib.Core.Path.{sym, ap, ◌∙◌}
use Rattle.scheduler.specs.Model.{view}
use Rattle.scheduler.specs.declared.Request.{Request}
use Rattle.job_table.specs.Parts.{part}
use Rattle.easy.specs.Parts.{own}
use Rattle.easy.specs.HeldModel.{valid_sound}
use Rattle.easy.proofs.own_part.Goals as goal

pub leave-requires : goal.leave-requires
leave-requires c = valid_sound _ c.requires

pub expire-requires : goal.expire-requires
expire-requires c = valid_sound _ c.requires

pub returns-in-Submit : goal.returns-in-Submit
returns-in-Submit c =
    let m = view c.args.d in
    c.admit.ensures ∙ ap (λ (q : Request). part (own m q)) (sym c.in-Submit.is)

pub returns-in-Depart : goal.returns-in-Depart
returns-in-Depart c =
    let m = view c.args.d in
    c.leave.ensures ∙ ap (λ (q : Request). part (own m q)) (sym c.in-Depart.is)

pub returns-in-Tick : goal.returns-in-Tick
returns-in-Tick c =
    let m = view c.args.d in
    c.expire.ensures ∙ ap (λ (q : Request). part (own m q)) (sym c.in-Tick.is)
