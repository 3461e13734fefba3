-- What one call of a script prints, and where the script stands after it: a line, or one single step of a wait.
-- Assumes nothing.
use Rattle.std.specs.Prelude.{cond, List, [], ℕ, ◌-◌, eqb, leb, length}
use Rattle.std.proofs.Math.Option.{Option, none, some}
use Rattle.text.specs.Lines.{begins_of}
use Rattle.paging.specs.Players.{Piece, piece}
use Rattle.scheduler.specs.declared.Kind.TheVariants.{Conservative}
use Rattle.scheduler.specs.declared.Scheduler.{Scheduler}
use Rattle.scheduler.specs.Settings.{refused_settings}
use Rattle.scheduler.specs.Model.{view}
use Rattle.scheduler.specs.Opening.{opened}
use Rattle.scheduler.specs.Answers.{accepts, code, outcome}
use Rattle.scheduler.specs.Refusals.{wait_refusal}
use Rattle.history.specs.Calls.{Call, Command, ask, wait, tick}
use Rattle.guarantees.specs.Rules.{call}
use Rattle.desk_lines.specs.LineLaws.{line_of, past}
use Rattle.script_rules.specs.Reading.{command_of}
use Rattle.desk_lines.specs.DeskLine.{opening_in}
use Rattle.script_rules.specs.Writing.{no_row}
use Rattle.script_rules.specs.Printout.{malformed, printed, longest_script}
use Rattle.script_play.specs.FirstPieces.{first_by_of}
use Rattle.script_play.specs.declared.Play.{Play}
use Rattle.script_play.specs.declared.Stage.TheVariants.{First, Playing, Over}
use Rattle.script_play.specs.declared.Stage.{Stage}

abbrev pub over : Play → Play
over p = record { stage = Over; at = p.at; steps = p.steps; scheduler = p.scheduler }

abbrev pub going : ℕ → ℕ → Scheduler → Play
going at steps d = record { stage = Playing; at = at; steps = steps; scheduler = d }

-- the first line: it opens the scheduler, or the script is over
abbrev pub starts : ℕ → Scheduler → Play
starts next d = going next 0 d

abbrev pub first_piece : List ℕ → Play → Piece Play
first_piece s p = first_by_of (over p) starts opening_in (begins_of longest_script s) s

-- one call
abbrev pub call_piece : ℕ → ℕ → Scheduler → Call → Piece Play
call_piece at steps d c = piece (printed (view d) c) (going at steps (outcome (call (view d) c)).scheduler)

-- what is asked with `steps` still to go after it; a wait that is not refused is as many steps, which come next
abbrev pub command_piece : ℕ → ℕ → Scheduler → Option Command → Piece Play
command_piece next steps d none = piece malformed (going next steps d)
command_piece next steps d (some (ask c)) = call_piece next steps d c
command_piece next steps d (some (wait n)) =
    cond
    (accepts (wait_refusal (view d) n))
    (piece [] (going next n d))
    (piece (no_row (code (wait_refusal (view d) n))) (going next steps d))

-- with n steps of a wait still to go, a step; with none, the next line
abbrev pub later_by : ℕ → List ℕ → Play → Piece Play
later_by n s p =
    cond
    (eqb n 0)
    (cond (leb (length s) p.at) (piece [] (over p)) (command_piece (past s p.at) 0 p.scheduler (command_of (line_of s p.at))))
    (call_piece p.at (n - 1) p.scheduler tick)

unfoldable pub later_piece : List ℕ → Play → Piece Play
later_piece s p = later_by p.steps s p

abbrev pub piece_by : Stage → List ℕ → Play → Piece Play
piece_by First s p = first_piece s p
piece_by Playing s p = later_piece s p
piece_by Over s p = piece [] p

abbrev pub piece_of : List ℕ → Play → Piece Play
piece_of s p = piece_by p.stage s p

-- a script that has not begun: its scheduler is not asked anything before an opening
abbrev pub beginning : Play
beginning = record { stage = First; at = 0; steps = 0; scheduler = (opened (record { settings = refused_settings Conservative; minute = 0; ticket = 1 })).scheduler }
