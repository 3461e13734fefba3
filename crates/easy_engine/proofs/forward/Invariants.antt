-- `easy_engine::forward` meets its contract. The invariant: the search over the places that are left finds the place.
-- Assumes nothing.
use mathlib.Core.Path.{◌≡◌}
use mathlib.Core.List.{List}
use lib.ListN.{length, drop}
use Rattle.lists.specs.Loops.{position_from, position}
use Rattle.scheduler.specs.declared.Job.{Job}
use Rattle.job_columns.specs.Columns.{Column, estimate_of}
use Rattle.job_columns.specs.Searches.{place_of}
use Rattle.easy_engine.specs.Survey.{asks, asks_to, may_pass}
use Rattle.easy_engine.proofs.forward.Given as goal

abbrev pub invariant-loop-i : goal.invariant-loop-i
invariant-loop-i l =
    ((ws : List Job) → Column asks ws l.asked → Column estimate_of ws l.estimates → length ws ≡ l.waiting → l.fit ≡ place_of (position (asks_to l.spare) ws) l.waiting
    → position_from (may_pass l.settings l.spare l.extra l.room) l.i (drop l.i ws) ≡ position (may_pass l.settings l.spare l.extra l.room) ws)
