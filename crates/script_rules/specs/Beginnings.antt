-- What a text prints if its first line opens a scheduler, by how the text begins.
-- Assumes nothing.
use Rattle.std.specs.Prelude.{◌≡◌, List, [], ℕ, ◌+◌, ◌-◌, ltb, length, take, drop}
use Rattle.std.proofs.Common.{ap, ◌∙◌}
use Rattle.std.proofs.Math.Option.{Option}
use native.Mathlib.Omega.{arith}
use borrow.Author.Tests.{ltb-true, ltb-false}
use Rattle.lists.specs.Tests.{case}
use Rattle.text.specs.declared.Begins.{Begins}
use Rattle.text.specs.declared.Begins.TheVariants as begins
use Rattle.text.specs.Lines.{line_at, begins_of}
use Rattle.scheduler.specs.declared.Opening.{Opening}
use Rattle.scheduler.specs.Model.{Model}
use Rattle.desk_lines.specs.Lines.{Line, lines_of}
use Rattle.desk_lines.specs.LineLaws.{lines_done, lines_from}
use Rattle.desk_lines.specs.DeskLine.{closed_only}
use Rattle.script_rules.specs.Printout.{malformed, opened_by, from_first_of, printout_by}

module _ (opens : List ℕ → Option Opening) (plays : Model → List Line → List ℕ) where
  -- nothing, its refusal, or what its first line and those after it give
  abbrev pub begun : List ℕ → Begins → List ℕ
  begun s begins.Nothing = []
  begun s begins.Malformed = malformed
  begun s (begins.Line e) = opened_by plays (opens (take e s)) (lines_of (drop (e + 1) s))

  -- of a first line that must be closed
  abbrev closed : Line → Option Opening
  closed l = closed_only l.closed (opens l.bytes)

  pub printout_begins : (longest : ℕ) (s : List ℕ) → printout_by longest closed plays s ≡ begun s (begins_of longest s)
  unfolding begins_of
  printout_begins longest s =
      let whole : (line_at s 0).end - 0 ≡ (line_at s 0).end = omega arith in
      case (ltb longest (length s))
      (λ q. rw q)
      (λ q. rw q (case (ltb (length s) 1)
      (λ r. rw r (ap (from_first_of closed plays) (lines_done s 0 (omega (arith, ltb-true (length s) 1 r)))))
      (λ r. rw r (ap (from_first_of closed plays) (lines_from s 0 (omega (arith, ltb-false (length s) 1 r)))
      ∙ case (line_at s 0).closed (λ c. rw (c, whole)) (λ c. rw c)))))
