-- What comes next of a script that is being played, a step of a wait or the next line: the piece that the definitions give.
-- Assumes nothing.
use Rattle.std.specs.Prelude.{◌≡◌, List, [], ℕ, ◌+◌, ◌-◌, ◌≤◌, ◌<◌, length, take, drop, Some, None}
use Rattle.std.proofs.Math.Path.{sym, ap}
use Rattle.std.proofs.Common.{subst, ◌∙◌, arith, le-leb, ne_eqb}
use Rattle.std.proofs.Math.Bool.{true, false}
use Rattle.std.proofs.lemmas.Bool.{lt-leb}
use Rattle.text.specs.declared.Line.{Line}
use Rattle.text.specs.Lines.{line_at}
use Rattle.paging.specs.Players.{Piece, piece}
use Rattle.scheduler.specs.declared.Request.TheVariants as request
use Rattle.scheduler.specs.declared.Scheduler.{Scheduler}
use Rattle.script_rules.specs.Reading.{command_in}
use Rattle.script_rules.specs.Printout.{malformed}
use Rattle.script_reading.specs.declared.Asked.{Asked}
use Rattle.script_reading.specs.declared.Asked.TheVariants as later
use Rattle.script_reading.specs.Meaning.{asks}
use Rattle.script_play.specs.declared.Play.{Play}
use Rattle.script_play.specs.Pieces.{over, going, command_piece, later_piece, piece_of}
use Rattle.std.specs.declared.option.Option as rust
use Rattle.script_turns.specs.declared.Next.{Next}

-- a turn on a scheduler, with `steps` left after it
abbrev pub turn_piece : rust.Option Asked → ℕ → ℕ → Scheduler → Piece Play
turn_piece (Some a) at steps d = command_piece at steps d (asks a)
turn_piece None at steps d = piece [] (over (going at steps d))

-- it is the next one of a script that stands at a place with `steps` to go, on every scheduler
pub record Comes (s : List ℕ) (at steps : ℕ) (n : Next) : Type 0 where
  pub piece_is : (d : Scheduler) → turn_piece n.turn n.at n.steps d ≡ piece_of s (going at steps d)

module _ (s : List ℕ) (at : ℕ) where
  pub comes_step : (steps : ℕ) → 0 < steps → Comes s at steps (record { turn = Some (later.Call request.Tick); at = at; steps = steps - 1 })
  unfolding later_piece
  comes_step steps h = record { piece_is = λ d. rw (ne_eqb steps 0 (λ q. omega arith)) }

  -- where no step is left
  pub comes_as : (steps : ℕ) (n : Next) → steps ≡ 0 → Comes s at 0 n → Comes s at steps n
  comes_as steps n z c = subst (λ (k : ℕ). Comes s at k n) (sym z) c

  pub comes_over : length s ≤ at → Comes s at 0 (record { turn = None; at = at; steps = 0 })
  unfolding later_piece
  comes_over h = record { piece_is = λ d. rw (le-leb (length s) at h) }

  module _ (some_left : at < length s) (l : Line) (e : l ≡ line_at s at) where
    pub comes_closed : l.closed ≡ true → (a : Asked) → asks a ≡ command_in (take (l.end - at) (drop at s))
        → Comes s at 0 (record { turn = Some a; at = l.end + 1; steps = 0 })
    unfolding later_piece
    comes_closed c a g =
        let x : (line_at s at).closed ≡ true = sym (ap (λ (y : Line). y.closed) e) ∙ c in
        record {
          piece_is = λ d.
              rw (lt-leb (length s) at some_left, x)
              (ap (command_piece (l.end + 1) 0 d) g ∙ ap (λ (y : Line). command_piece (y.end + 1) 0 d (command_in (take (y.end - at) (drop at s)))) e);
        }

    pub comes_unclosed : l.closed ≡ false → Comes s at 0 (record { turn = Some later.Malformed; at = l.end; steps = 0 })
    unfolding later_piece
    comes_unclosed c =
        let x : (line_at s at).closed ≡ false = sym (ap (λ (y : Line). y.closed) e) ∙ c in
        record { piece_is = λ d. rw (lt-leb (length s) at some_left, x) (ap (λ (y : Line). piece malformed (going y.end 0 d)) e) }
