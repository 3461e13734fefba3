-- `conservative_columns::move_up` meets its contract: the passes go over the points without the span that is given back.
-- Assumes nothing.
use mathlib.Core.Path.{◌≡◌, ap}
use native.Mathlib.Omega.{arith}
use Rattle.job_columns.specs.declared.Columns.{Columns}
use Rattle.conservative_columns.specs.MovingUp.{after, few_live, passing, core_after, profile_after, index_ready, compared}
use Rattle.conservative_columns.proofs.move_up.Goals.{After-passes-n}
use Rattle.conservative_columns.proofs.move_up.Goals as goal

pub lift-out-requires : goal.lift-out-requires
lift-out-requires c = c.requires.0.lifting

pub passes-n-requires : goal.passes-n-requires
passes-n-requires c = passing c.requires.0 c.lift-out.ensures

pub build-requires : goal.build-requires
build-requires c =
    index_ready c.requires.0 c.lift-out.ensures c.passes-n.ensures.passed

-- what the passes leave as it is
tickets : (c : After-passes-n) → c.passes-n.new.columns.tickets ≡ c.args.columns.now.tickets
tickets c = ap (λ (x : Columns). x.tickets) c.passes-n.ensures.retimed

live : (c : After-passes-n) → c.passes-n.new.columns.live ≡ c.args.columns.now.live
live c = ap (λ (x : Columns). x.live) c.passes-n.ensures.retimed

pub note_started-requires : goal.note_started-requires
note_started-requires c =
    (omega (arith, live (goal.at.note_started-requires c).After-passes-n, few_live c.requires.0), c.requires.1)

pub returns : goal.returns
returns c =
    let p = (goal.at.returns c).After-passes-n in
    record {
      retimed = c.passes-n.ensures.retimed;
      moved = λ q. record {
        core = core_after q c.lift-out.ensures c.passes-n.ensures.passed;
        profile = profile_after q c.lift-out.ensures c.passes-n.ensures.passed;
        indexed = c.build.ensures;
        listing = c.note_started.ensures q.jobs (after q) (rw (tickets p, live p) (compared q c.lift-out.ensures c.passes-n.ensures.passed));
      };
    }
