-- `easy::call` meets its contract: its own part, and then the settling.
-- Assumes nothing.
use mathlib.Core.Path.{sym, ap, ◌∙◌}
use Rattle.scheduler.specs.Model.{view}
use Rattle.scheduler.specs.Answers.{outcome}
use Rattle.easy.specs.Parts.{own}
use Rattle.easy.specs.Calling.{own_ready, own_before, call_own, part_ready, part_answers}
use Rattle.easy.proofs.call.Goals as goal

pub finish-requires : goal.finish-requires
finish-requires c =
    let m = view c.args.d in
    let q = c.args.request in
    part_ready (own m q) (own_ready m c.requires.holds q) _ c.own_part.ensures

pub returns : goal.returns
returns c =
    let m = view c.args.d in
    let v = c.requires.holds in
    let q = c.args.request in
    part_answers (own m q) (own_ready m v q) _ c.own_part.ensures m _ (own_before m v q) c.finish.ensures
    ∙ ap outcome (sym (call_own m v q))
