-- `conservative_kept::begin` meets its contract: the lists are the points of the model and their index.
-- Assumes nothing.
use Rattle.jobs.specs.Premise.{holds_as}
use Rattle.conservative_laws.specs.Validity.{Valid}
use Rattle.conservative_plan.specs.PlannedSlots.{Planned, valid_planned, tabulated_view}
use Rattle.conservative_kept.specs.Beside.{builds}
use Rattle.conservative_kept.proofs.begin.Goals as goal

pub build-requires : goal.build-requires
build-requires c =
    builds c.requires.0.holds.sound (tabulated_view c.args.d (holds_as Valid Planned c.args.d valid_planned c.requires.0)
    c.tabulate-count.ensures)
    c.requires.3 c.requires.4

pub returns : goal.returns
returns c =
    record {
      profile = tabulated_view c.args.d (holds_as Valid Planned c.args.d valid_planned c.requires.0)
          c.tabulate-count.ensures;
      indexed = c.build.ensures;
    }
