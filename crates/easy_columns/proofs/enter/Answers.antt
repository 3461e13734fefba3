-- `easy_columns::enter` meets its contract: the job is appended to every column.
-- Assumes nothing.
use native.Mathlib.Omega.{arith}
use mathlib.Core.Path.{◌≡◌, ap, ◌∙◌}
use Rattle.scheduler.specs.Jobs.{entered}
use Rattle.easy_columns.specs.EasySubmit.{entering, queue_joined}
use Rattle.easy_columns.proofs.enter.Goals.{After-entered-new}
use Rattle.easy_columns.proofs.enter.Goals as goal

-- the job made
new_is : (c : After-entered-new)
    → let a = c.args in c.entered-new.result ≡ entering a.clock a.rank a.next a.s
new_is c = c.entered-new.ensures ∙ ap (entered c.args.clock c.args.rank) c.fresh-job.ensures

pub append-requires : goal.append-requires
append-requires c =
    rw (new_is (goal.at.append-requires c).After-entered-new) (c.requires.0, (omega arith, omega arith))

pub returns : goal.returns
returns c =
    let e = c.append.ensures in
    record {
      one_more = e.one_more;
      entered = λ js cj cq. (rw (new_is (goal.at.returns c).After-entered-new) at (e.appended js cj), queue_joined _ _ _ _ _ cj.live_is c.requires.0 cq);
    }
