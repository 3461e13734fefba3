-- `easy_engine::shadow` meets its contract. The invariant: the search over the jobs that are left, from the best minute so far, finds the
-- shadow.
-- Assumes nothing.
use mathlib.Core.Path.{◌≡◌}
use lib.ListN.{drop}
use Rattle.easy_rules.specs.Easy.{shadow}
use Rattle.easy_laws.specs.EngineLaws.{earliest}
use Rattle.easy_engine.specs.Survey.{Lacks}
use Rattle.easy_engine.proofs.shadow.Given as goal

abbrev pub invariant-loop-end : goal.invariant-loop-end
invariant-loop-end l =
    (k : Lacks l.held l.ends l.running l.spare l.nodes l.latest) → earliest k.of.model l.nodes l.best (drop l.end-index k.of.jobs) ≡ shadow k.of.model l.nodes
