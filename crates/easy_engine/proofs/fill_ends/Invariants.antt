-- `easy_engine::fill_ends` meets its contract. The invariant: the places passed have the minutes until which nodes are held, the others those
-- from which.
-- Assumes nothing.
use mathlib.Core.Path.{◌≡◌}
use Rattle.lists.specs.Pads.{pad}
use Rattle.scheduler.specs.Limits.{slots}
use Rattle.easy_engine.specs.Survey.{StartsInTime}
use Rattle.easy_engine.specs.SurveyLoop.{filled}
use Rattle.easy_engine.proofs.fill_ends.Given as goal

abbrev pub invariant-loop-i : goal.invariant-loop-i
invariant-loop-i l =
    (s : StartsInTime l.initial.ends l.terms l.running) → l.ends ≡ pad slots 0 (filled l.settings s.jobs l.i)
