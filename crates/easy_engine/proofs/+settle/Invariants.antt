-- `easy_engine::settle` ends: one job more runs at each call.
use Rattle.std.proofs.Common.{◌-◌}
use Rattle.easy_engine.proofs.+settle.Given as goal

abbrev pub decreases-settle : goal.decreases-settle
decreases-settle l = 64 - l.running
