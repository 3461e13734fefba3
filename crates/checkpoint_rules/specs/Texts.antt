-- A scheduler written out, and what its lines say. Document 01: "Where a later request puts a desk into text, the lines are the `desk` line with
-- clock and next ticket (there up to 1,000,000), then one for each live record: ticket, nodes, estimate, state (`w` waiting, `r` running, `c`
-- clearing), start, promise, then the values that requests have added to records, in the order added, 0 where a record has none": the end (document
-- 02, No. 3), the house (No. 4), the least (No. 7), and intake minute, r and forecast (No. 11).
-- Assumes nothing.
use Rattle.std.specs.Prelude.{Bool, true, false, cond, ℕ, eqb, length}
use mathlib.Core.List.{List, [], ◌∷◌, ◌++◌, flat_map}
use Rattle.std.proofs.Math.Option.{Option, none, some}
use Rattle.text.specs.Fields.{fields_of, field_of}
use Rattle.text.specs.Numbers.{decimal_of}
use Rattle.text.specs.Words.{is_word}
use Rattle.scheduler.specs.declared.Kind.{Kind}
use Rattle.scheduler.specs.declared.Kind.TheVariants.{Conservative, Easy}
use Rattle.scheduler.specs.declared.State.{State}
use Rattle.scheduler.specs.declared.State.TheVariants.{Unused, Waiting, Running, Cleanup}
use Rattle.scheduler.specs.declared.Job.{Job}
use Rattle.scheduler.specs.declared.Opening.{Opening}
use Rattle.scheduler.specs.declared.Refusal.{Refusal}
use Rattle.scheduler.specs.declared.Refusal.TheVariants as refusal
use Rattle.scheduler.specs.Tenants.{letter_of, tenant_of}
use Rattle.scheduler.specs.Settings.{refused_settings}
use Rattle.scheduler.specs.Model.{Model, empty}
use Rattle.desk_lines.specs.Lines.{Line, lines_of}
use Rattle.desk_lines.specs.DeskLine.{desk_word, promise_word, loose_word, and_field, number_at, letter_at, with_number, closed_only, opening_of}
use Rattle.checkpoint_rules.specs.Acceptance.{accepted}

-- ## Written out

-- fields parted by one tab, and the line's end
abbrev pub bytes_of : List ℕ → List (List ℕ) → List ℕ
bytes_of f fs = f ++ flat_map and_field fs

abbrev pub line_text : List ℕ → List (List ℕ) → List ℕ
line_text f fs = bytes_of f fs ++ (10 ∷ [])

abbrev pub kind_word : Kind → List ℕ
kind_word Conservative = promise_word
kind_word Easy = loose_word

-- "(`w` waiting, `r` running, `c` clearing)"
abbrev pub state_word : State → List ℕ
state_word Unused = []
state_word Waiting = 119 ∷ []
state_word Running = 114 ∷ []
state_word Cleanup = 99 ∷ []

abbrev pub desk_fields : Model → List (List ℕ)
desk_fields m =
    kind_word m.settings.kind
    ∷ decimal_of m.settings.nodes
    ∷ decimal_of m.clock
    ∷ decimal_of m.next
    ∷ decimal_of m.settings.cleanup
    ∷ decimal_of m.settings.quota_a
    ∷ decimal_of m.settings.quota_b
    ∷ []

abbrev pub job_fields : Job → List (List ℕ)
job_fields j =
    decimal_of j.nodes
    ∷ decimal_of j.estimate
    ∷ state_word j.state
    ∷ decimal_of j.start
    ∷ decimal_of j.promise
    ∷ decimal_of j.end
    ∷ (letter_of j.tenant ∷ [])
    ∷ decimal_of j.least
    ∷ decimal_of j.submitted
    ∷ decimal_of j.rank
    ∷ decimal_of j.forecast
    ∷ []

unfoldable pub desk_line : Model → List ℕ
desk_line m = line_text desk_word (desk_fields m)

unfoldable pub job_line : Job → List ℕ
job_line j = line_text (decimal_of j.ticket) (job_fields j)

unfoldable pub desk_text : Model → List ℕ
desk_text m = desk_line m ++ flat_map job_line m.jobs

-- ## Read back

unfoldable pub state_of : List ℕ → Option State
state_of s = cond (is_word (119 ∷ []) s) (some Waiting) (cond (is_word (114 ∷ []) s) (some Running) (cond (is_word (99 ∷ []) s) (some Cleanup) none))

abbrev pub with_state : {A : Type 0} → Option State → (State → Option A) → Option A
with_state (some x) f = f x
with_state none f = none

-- the record that a line of twelve fields gives
unfoldable pub job_in : List ℕ → Option Job
job_in s =
    cond
    (eqb (length (fields_of s)) 12)
    (with_number (number_at s 0) (λ ticket. with_number (number_at s 1) (λ nodes. with_number (number_at s 2) (λ estimate.
    with_state (state_of (field_of s 3)) (λ state. with_number (number_at s 4) (λ start. with_number (number_at s 5) (λ promise.
    with_number (number_at s 6) (λ end. with_number (letter_at s 7) (λ house. with_number (number_at s 8) (λ least.
    with_number (number_at s 9) (λ submitted. with_number (number_at s 10) (λ rank. with_number (number_at s 11) (λ forecast.
    some (record {
      ticket = ticket;
      nodes = nodes;
      estimate = estimate;
      state = state;
      tenant = tenant_of house;
      least = least;
      rank = rank;
      start = start;
      promise = promise;
      end = end;
      submitted = submitted;
      forecast = forecast;
    }))))))))))))))
    none

abbrev pub job_of : Line → Option Job
job_of l = closed_only l.closed (job_in l.bytes)

abbrev pub both : {A B C : Type 0} → (A → B → C) → Option A → Option B → Option C
both f none b = none
both f (some a) none = none
both f (some a) (some b) = some (f a b)

unfoldable pub jobs_of : List Line → Option (List Job)
jobs_of [] = some []
jobs_of (l ∷ ls) = both (λ (j : Job) (js : List Job). j ∷ js) (job_of l) (jobs_of ls)

abbrev pub model_with : Opening → List Job → Model
model_with o js = record { settings = o.settings; clock = o.minute; next = o.ticket; jobs = js }

-- the model that the lines of a text give, if each has the form. 22: "a line lacks the form or is unclosed, or there is none"
abbrev pub model_of : List Line → Option Model
model_of [] = none
model_of (l ∷ ls) = both model_with (opening_of l) (jobs_of ls)

pub record Restored : Type 0 where
  pub refusal : Refusal
  pub model : Model

-- "a refused reading of a text does the same with the Promise kind"
abbrev pub not_restored : Refusal → Restored
not_restored r = record { refusal = r; model = empty (refused_settings Conservative) 0 1 }

-- "Checks: 22 .. 23, one of these conditions is broken; 22 first."
abbrev pub restored_from : Option Model → Restored
restored_from none = not_restored refusal.TextMalformed
restored_from (some m) = cond (accepted m) (record { refusal = refusal.None; model = m }) (not_restored refusal.TextRejected)

unfoldable pub restored : List ℕ → Restored
restored t = restored_from (model_of (lines_of t))
