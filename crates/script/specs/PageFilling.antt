-- The pages of a script.
-- Assumes nothing.
use Rattle.std.specs.Prelude.{◌≡◌, List, ℕ}
use Rattle.std.proofs.Common.{sym, ap, subst}
use Rattle.paging.specs.PageFilling.{Filled, Pages, pages_left}
use Rattle.script_rules.specs.Printout.{printout}
use Rattle.script_play.specs.declared.Play.{Play}
use Rattle.script_play.specs.declared.Stage.{Stage}
use Rattle.script_play.specs.declared.Stage.TheVariants.{Playing}
use Rattle.script_play.specs.Pieces.{piece_by, piece_of, going, beginning}
use Rattle.script_play.proofs.Progress.{script_player}

-- From the beginning until the script is over, they are its printout.
pub pages_whole : {s out : List ℕ} → Pages (script_player s) beginning out → out ≡ printout s
pages_whole g = pages_left g

-- by the stage
pub stage_as : (s : List ℕ) (p : Play) (g : Stage) → p.stage ≡ g → piece_by g s p ≡ piece_of s p
stage_as s p g e = ap (λ (x : Stage). piece_by x s p) (sym e)

pub filled_as : {s : List ℕ} {p q : Play} {page : List ℕ} {end : ℕ} → p.stage ≡ Playing
    → Filled (script_player s) (going p.at p.steps p.scheduler) page end q → Filled (script_player s) p page end q
filled_as {s} {p} {q} {page} {end} e f = subst (λ (x : Play). Filled (script_player s) x page end q)
    (λ i. record { stage = sym e i; at = p.at; steps = p.steps; scheduler = p.scheduler }) f
