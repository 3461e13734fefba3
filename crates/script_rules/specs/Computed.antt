-- Document 02, No. 7, computed from the definitions: "Intake gives a least and a most, on the sheet in that order; the desk plans with the most. An
-- order with one number has least 0."
-- Assumes nothing.
use Rattle.std.specs.Prelude.{◌≡◌, refl}
use mathlib.Core.List.{List, [], ◌∷◌, flat_map}
use Rattle.std.proofs.Math.Option.{some}
use Prim.Native.String.{String}
use Rattle.spans.specs.Spans as spans
use Rattle.scheduler.specs.declared.Tenant.TheVariants.{A, B}
use Rattle.scheduler.specs.Answers.{verdict}
use Rattle.scheduler.specs.Settings as times
use Rattle.scheduler.specs.Refusals as refusals
use Rattle.scheduler.specs.Opening as opening
use Rattle.history.specs.Calls.{ask, submit}
use Rattle.conservative_rules.specs.Conservative as conservative
use Rattle.text.specs.Letters as letters
use Rattle.text.specs.Fields.{fields_of}
use Rattle.text.specs.Numbers as numbers
use Rattle.text.specs.Quoted.{fields, text_of}
use Rattle.text.specs.Words.{is_word}
use Rattle.desk_lines.specs.Lines.{lines_of}
use Rattle.desk_lines.specs.DeskLine as desk
use Rattle.script_rules.specs.Reading.{command_in}
use Rattle.script_rules.specs.Writing as writing
use Rattle.script_rules.specs.Printout as script

-- a job from 10 to 20 minutes cannot be ended in minute 9, and can in minute 10; the next is planned after its 20
abbrev sheet : List String
sheet = "desk promise 10 0 1 0 63 1" ∷ "in 6 10 20 A" ∷ "in 8 5 B" ∷ "wait 9" ∷ "end 1" ∷ "wait 1" ∷ "end 1" ∷ "end 2" ∷ "in 6 20 10 A" ∷ []

abbrev sheet_prints : List String
sheet_prints = "took 1 0" ∷ "start 1 0" ∷ "took 2 20" ∷ "no 20" ∷ "over 1 10" ∷ "start 2 10" ∷ "over 2 10" ∷ "no 19" ∷ []

pub least_before_most :
    (command_in (fields "in 6 10 20 A") ≡ some (ask (submit (record { nodes = 6; estimate = 20; tenant = A; least = 10 }))))
    × (command_in (fields "in 8 5 B") ≡ some (ask (submit (record { nodes = 8; estimate = 5; tenant = B; least = 0 }))))
    × (script.printout (text_of sheet) ≡ text_of sheet_prints)
unfolding
    flat_map
    fields_of
    is_word
    numbers.digits_from
    numbers.number_of
    letters.capital_of
    numbers.decimal_by
    numbers.decimal_of
    lines_of
    desk.has_form
    desk.kind_of
    desk.opening_in
    command_in
    writing.row
    writing.no_row
    writing.rows_of
    writing.taken
    writing.text_of
    script.printed_all
    script.played
    script.printout
    opening.opening
    opening.opening_refusal
    verdict
    times.longest
    times.cleanup
    times.run_time
    times.hold_time
    times.end_of
    times.unit
    times.until
    refusals.depart_refusal
    refusals.tick_refusal
    refusals.wait_refusal
    spans.takes
    spans.last_end
    spans.fits
    spans.earliest
    spans.changes
    spans.points
    spans.profile
    conservative.planned
    conservative.submit_refusal
    conservative.submitted
    conservative.advanced
    conservative.pass
    conservative.passes
    conservative.compressed
    conservative.departed
    conservative.ticked
    conservative.call
least_before_most = (refl, refl, refl)
