-- `earliest::survey` meets its contract. The invariant: the lists have the jobs of the first slots that hold nodes.
-- Assumes nothing.
use Prim.Native.Nat.{◌≤◌}
use lib.ListN.{take}
use Rattle.earliest.specs.Survey.{Passed}
use Rattle.earliest.proofs.survey.Given as goal

abbrev pub invariant-loop-j : goal.invariant-loop-j
invariant-loop-j l =
    (l.running ≤ l.j-index) × Passed l.fn.d (take l.j-index l.fn.d.jobs) l.held l.ends l.running l.spare
