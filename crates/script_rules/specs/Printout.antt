-- The printout of a script, for every input. Document 01, "The day sheet and its printout".
-- Assumes nothing.
use Rattle.std.specs.Prelude.{cond, List, [], ◌∷◌, ◌++◌, ℕ, ltb, length}
use Rattle.std.proofs.Math.Option.{Option, none, some}
use Rattle.scheduler.specs.declared.Opening.{Opening}
use Rattle.scheduler.specs.declared.Refusal.TheVariants as refusal
use Rattle.scheduler.specs.Model.{Model}
use Rattle.scheduler.specs.Opening.{opening, opening_refusal}
use Rattle.scheduler.specs.Answers.{accepts, code}
use Rattle.history.specs.Calls.{Call, Command, after, calls_of}
use Rattle.guarantees.specs.Rules.{call}
use Rattle.desk_lines.specs.Lines.{Line, lines_of}
use Rattle.script_rules.specs.Reading.{command_of}
use Rattle.desk_lines.specs.DeskLine.{opening_of}
use Rattle.script_rules.specs.Writing.{text_of, no_row}

-- 9: "the line lacks the form above, or is a second `desk` line"
abbrev pub malformed : List ℕ
malformed = no_row (code refusal.Malformed)

-- what one call prints
abbrev pub printed : Model → Call → List ℕ
printed m c = let r = call m c in text_of m.settings.kind r.model.clock r.reply

unfoldable pub printed_all : Model → List Call → List ℕ
printed_all m [] = []
printed_all m (c ∷ cs) = printed m c ++ printed_all (call m c).model cs

-- the later lines, from a model on: "later ones print it and go on"
abbrev pub called_by : Model → Option Command → List Call
called_by m none = []
called_by m (some q) = calls_of m q

abbrev pub printed_by : Model → Option Command → List ℕ
printed_by m none = malformed
printed_by m (some q) = printed_all m (calls_of m q)

unfoldable pub played : Model → List Line → List ℕ
played m [] = []
played m (l ∷ ls) = printed_by m (command_of l) ++ played (after call m (called_by m (command_of l))) ls

-- ## Texts whose first line opens a scheduler, which plays the later ones

-- "A refused first line prints `no` and its number and stops"
abbrev pub opened_by : (plays : Model → List Line → List ℕ) → Option Opening → List Line → List ℕ
opened_by plays none ls = malformed
opened_by plays (some o) ls = cond (accepts (opening_refusal o)) (plays (opening o) ls) (no_row (code (opening_refusal o)))

abbrev pub from_first_of : (opens : Line → Option Opening) (plays : Model → List Line → List ℕ) → List Line → List ℕ
from_first_of opens plays [] = []
from_first_of opens plays (l ∷ ls) = opened_by plays (opens l) ls

-- of at most this many bytes: "a longer one prints only `no 9`, an empty one nothing"
abbrev pub printout_by : (longest : ℕ) (opens : Line → Option Opening) (plays : Model → List Line → List ℕ) → List ℕ → List ℕ
printout_by longest opens plays s = cond (ltb longest (length s)) malformed (from_first_of opens plays (lines_of s))

-- "A sheet has at most 65,536 bytes"
abbrev pub longest_script : ℕ
longest_script = 65536

unfoldable pub printout : List ℕ → List ℕ
printout s = printout_by longest_script opening_of played s
