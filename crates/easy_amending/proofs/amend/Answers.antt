-- `easy_amending::amend` meets its contract: the record superseded, the settling, and the ticket in the answer.
-- Assumes nothing.
use mathlib.Core.Path.{ap, ◌∙◌}
use Rattle.scheduler.specs.Model.{view}
use Rattle.amending.specs.Ways.{superseding}
use Rattle.easy.specs.HeldModel.{valid_sound}
use Rattle.easy.specs.Calling.{part_ready, part_answers}
use Rattle.easy_amending.specs.Superseding.{ticketed_outcome, superseding_ready, superseding_before, amend_own}
use Rattle.easy_amending.proofs.amend.Goals as goal

pub supersede-requires : goal.supersede-requires
supersede-requires c = valid_sound _ c.requires

pub finish-o-requires : goal.finish-o-requires
finish-o-requires c =
    let m = view c.args.d in
    part_ready (superseding m c.args.a) (superseding_ready m c.args.a c.requires.holds) _ c.supersede.ensures

pub returns : goal.returns
returns c =
    let m = view c.args.d in
    let a = c.args.a in
    let v = c.requires.holds in
    rw c.with_ticket.ensures
    (ap (ticketed_outcome a.ticket)
    (part_answers (superseding m a) (superseding_ready m a v) _ c.supersede.ensures m _ (superseding_before m a v) c.finish-o.ensures)
    ∙ amend_own m a v)
