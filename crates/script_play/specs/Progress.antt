-- What holds of a script that is being played, and an upper bound on what there is still to play.
-- Assumes nothing.
use Rattle.std.specs.Prelude.{◌≡◌, Bool, true, false, List, ℕ, suc, ◌+◌, ◌-◌, ◌*◌, ◌≤◌, ltb, length}
use Rattle.std.proofs.Common.{sym, arith}
use borrow.Author.Tests.{lt-ltb, le-ltb}
use Rattle.scheduler.specs.Limits.{longest_wait}
use Rattle.guarantees.specs.Premise.{Premise, opened_premise}
use Rattle.script_play.specs.declared.Play.{Play}
use Rattle.script_play.specs.declared.Stage.TheVariants.{First, Playing, Over}
use Rattle.script_play.specs.declared.Stage.{Stage}
use Rattle.script_play.specs.Pieces.{beginning}

-- what holds of a script that is being played
pub record InPlay (s : List ℕ) (p : Play) : Type 0 where
  pub premise : Premise p.scheduler
  pub inside : p.at ≤ length s
  pub few : p.steps ≤ longest_wait

pub begin_ready : (s : List ℕ) → InPlay s beginning
begin_ready s = record { premise = opened_premise _; inside = omega arith; few = omega arith }

-- an upper bound on what there is still to play: more for each byte than the steps of a wait
abbrev pub weight_by : Stage → List ℕ → Play → ℕ
weight_by First s p = suc (length s * suc longest_wait)
weight_by Playing s p = suc ((length s - p.at) * suc longest_wait + p.steps)
weight_by Over s p = 0

abbrev pub weight : List ℕ → Play → ℕ
weight s p = weight_by p.stage s p

-- it goes on until it is over
abbrev pub goes_on_of : Stage → Bool
goes_on_of First = true
goes_on_of Playing = true
goes_on_of Over = false

pub goes_on : (g : Stage) (s : List ℕ) (p : Play) → goes_on_of g ≡ ltb 0 (weight_by g s p)
goes_on First s p = sym (lt-ltb 0 (weight_by First s p) (omega arith))
goes_on Playing s p = sym (lt-ltb 0 (weight_by Playing s p) (omega arith))
goes_on Over s p = sym (le-ltb 0 0 (omega arith))
