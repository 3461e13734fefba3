-- The piece of a first line, of anything that is played over a scheduler which that line opens.
-- Assumes nothing.
use Rattle.std.specs.Prelude.{◌≡◌, refl, true, cond, List, [], ◌++◌, ℕ, ◌+◌, ◌<◌, length, take, drop}
use Rattle.std.proofs.Common.{sym, ap, ◌∙◌, append-nil}
use Rattle.std.proofs.Math.Option.{Option, none, some}
use Rattle.lists.specs.Tests.{case}
use Rattle.text.specs.declared.Begins.{Begins}
use Rattle.text.specs.declared.Begins.TheVariants as begins
use Rattle.text.specs.LineLaws.{Inside}
use Rattle.paging.specs.Players.{Piece, piece}
use Rattle.scheduler.specs.declared.Opening.{Opening}
use Rattle.scheduler.specs.declared.Scheduler.{Scheduler}
use Rattle.scheduler.specs.Model.{Model}
use Rattle.scheduler.specs.Opening.{opening, opening_refusal, opened}
use Rattle.scheduler.specs.Answers.{accepts, code}
use Rattle.desk_lines.specs.Lines.{Line, lines_of}
use Rattle.script_rules.specs.Writing.{no_row}
use Rattle.script_rules.specs.Printout.{malformed, opened_by}
use Rattle.script_rules.specs.Beginnings.{begun}

-- it stops there, or goes on from the next line with the scheduler opened
module _ {P : Type 0} (stops : P) (starts : (next : ℕ) → Scheduler → P) where
  abbrev pub opening_piece : ℕ → Option Opening → Piece P
  opening_piece next none = piece malformed stops
  opening_piece next (some o) =
      cond (accepts (opening_refusal o)) (piece [] (starts next (opened o).scheduler)) (piece (no_row (code (opening_refusal o))) stops)

  -- by how the text begins, and what its first line opens
  abbrev pub first_by_of : (List ℕ → Option Opening) → Begins → List ℕ → Piece P
  first_by_of opens begins.Nothing s = piece [] stops
  first_by_of opens begins.Malformed s = piece malformed stops
  first_by_of opens (begins.Line e) s = opening_piece (e + 1) (opens (take e s))

  module _ (opens : List ℕ → Option Opening) (s : List ℕ) where
    -- it is the first part of what the text prints
    module _ (plays : Model → List Line → List ℕ) (left : P → List ℕ) (none_left : left stops ≡ [])
        (goes_on : (e : ℕ) (o : Opening) → opens (take e s) ≡ some o → accepts (opening_refusal o) ≡ true
        → left (starts (e + 1) (opened o).scheduler) ≡ plays (opening o) (lines_of (drop (e + 1) s))) where
      stops_left : (t : List ℕ) → t ≡ t ++ left stops
      stops_left t = sym (append-nil t) ∙ ap (λ (x : List ℕ). t ++ x) (sym none_left)

      by_opening : (e : ℕ) (q : Option Opening) → opens (take e s) ≡ q
          → opened_by plays q (lines_of (drop (e + 1) s)) ≡ (opening_piece (e + 1) q).text ++ left (opening_piece (e + 1) q).play
      by_opening e none f = stops_left malformed
      by_opening e (some o) f =
          case (accepts (opening_refusal o)) (λ a. rw a (sym (goes_on e o f a))) (λ a. rw a (stops_left (no_row (code (opening_refusal o)))))

      pub first_left : (b : Begins) → begun opens plays s b ≡ (first_by_of opens b s).text ++ left (first_by_of opens b s).play
      first_left begins.Nothing = stops_left []
      first_left begins.Malformed = stops_left malformed
      first_left (begins.Line e) = by_opening e (opens (take e s)) refl

    -- what holds of where it stops, and of where it goes on, holds of the play after it
    module _ (Q : P → Type 0) (ends : Q stops)
        (begun : (e : ℕ) → e < length s → (o : Opening) → opens (take e s) ≡ some o → accepts (opening_refusal o) ≡ true → Q (starts (e + 1) (opened o).scheduler)) where
      of_opening : (e : ℕ) → e < length s → (q : Option Opening) → opens (take e s) ≡ q → Q (opening_piece (e + 1) q).play
      of_opening e h none f = ends
      of_opening e h (some o) f = case (accepts (opening_refusal o)) (λ a. rw a (begun e h o f a)) (λ a. rw a ends)

      pub first_holds : (b : Begins) → Inside s b → Q (first_by_of opens b s).play
      first_holds begins.Nothing h = ends
      first_holds begins.Malformed h = ends
      first_holds (begins.Line e) h = of_opening e h (opens (take e s)) refl
