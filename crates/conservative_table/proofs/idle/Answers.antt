-- `conservative_table::idle` meets its contract: one point is put down.
-- Assumes nothing.
use mathlib.Core.Path.{◌∙◌}
use native.Mathlib.Omega.{arith}
use lib.ListN.{length-set}
use lib.Seq.{get_or-set_same}
use Rattle.conservative_table.specs.ProfileLists.{idle_exact}
use Rattle.conservative_table.proofs.idle.Goals as goal

pub returns : goal.returns
returns c =
    idle_exact c.args.nodes c.args.minute
    (length-set c.args.minutes.now 0 c.args.minute ∙ c.requires.0)
    (length-set c.args.free.now 0 c.args.nodes ∙ c.requires.1)
    (get_or-set_same c.args.minutes.now 0 c.args.minute 0 (omega (arith, c.requires.0)))
    (get_or-set_same c.args.free.now 0 c.args.nodes 0 (omega (arith, c.requires.1)))
