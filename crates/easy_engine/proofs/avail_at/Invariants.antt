-- `easy_engine::avail_at` meets its contract. The invariant: the sum and what the jobs that are left have given back is the whole.
-- Assumes nothing.
use Prim.Native.Nat.{◌+◌}
use mathlib.Core.Path.{◌≡◌}
use lib.ListN.{drop}
use Rattle.lists.specs.Lists.{sum}
use Rattle.easy_rules.specs.Easy.{avail}
use Rattle.easy_engine.specs.Survey.{Held}
use Rattle.easy_engine.specs.Shadows.{given}
use Rattle.easy_engine.proofs.avail_at.Given as goal

abbrev pub invariant-loop-i : goal.invariant-loop-i
invariant-loop-i l =
    (h : Held l.held l.ends l.running l.spare) → l.sum + sum (given h.model.settings l.minute) (drop l.i h.jobs) ≡ avail h.model l.minute
