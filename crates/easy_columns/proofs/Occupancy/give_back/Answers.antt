-- `easy_columns::Occupancy::give_back` meets its contract: a run is over early, or a waiting job held no nodes.
-- Assumes nothing.
use Rattle.easy_columns.specs.EasyLeave.{leaver_ends, leaver_waits, leaver_completed}
use Rattle.easy_columns.proofs.Occupancy.give_back.Goals as goal

pub complete-requires : goal.complete-requires
complete-requires c =
    leaver_ends c.requires c.in-Complete.is

pub returns-in-Complete : goal.returns-in-Complete
returns-in-Complete c =
    λ l. leaver_completed l c.in-Complete.is (c.complete.ensures (leaver_ends l c.in-Complete.is))

pub returns-in-Cancel : goal.returns-in-Cancel
returns-in-Cancel c = λ l. leaver_waits l c.in-Cancel.is
