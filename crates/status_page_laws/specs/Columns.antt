-- In every valid model no number of a status page is wider than its columns, and all that stands in them is plain text.
-- Assumes nothing.
use Rattle.std.specs.Prelude.{◌≡◌, refl, Bool, true, false, List, [], ◌∷◌, ℕ, ◌≤◌, length}
use Rattle.std.proofs.Common.{arith, rules}
use Rattle.lists.specs.Tests.{true_false}
use Rattle.lists.specs.Lists.{sum, All, In, all_of, all_in}
use Rattle.text.specs.Numbers.{decimal_of}
use Rattle.text.specs.NumberLaws.{decimal_five, decimal_seven, decimal_digits}
use Rattle.text.specs.RightSet.{space}
use Rattle.scheduler.specs.declared.Kind.{Kind}
use Rattle.scheduler.specs.declared.Kind.TheVariants.{Conservative, Easy}
use Rattle.scheduler.specs.declared.State.{State}
use Rattle.scheduler.specs.declared.State.TheVariants.{Unused, Waiting, Running, Cleanup}
use Rattle.scheduler.specs.declared.Tenant.{Tenant}
use Rattle.scheduler.specs.declared.Tenant.TheVariants.{Nobody, A, B}
use Rattle.scheduler.specs.declared.Job.{Job}
use Rattle.scheduler.specs.declared.Settings.{Settings}
use Rattle.scheduler.specs.Limits.{horizon}
use Rattle.scheduler.specs.Tenants.{known, letter_of}
use Rattle.scheduler.specs.Jobs.{is_waiting}
use Rattle.scheduler.specs.Settings.{run_time}
use Rattle.scheduler.specs.Times.{hold_is, hold_le}
use Rattle.scheduler.specs.Model.{Model}
use Rattle.jobs.specs.Soundness.{Sound}
use Rattle.jobs.specs.Slots.{sound_low}
use Rattle.guarantees.specs.Premise.{ValidBy, Valid, valid_sound}
use Rattle.status_page_rules.specs.StatusPage.{page_columns, Column, column, number, heading, state_word, promised, start_text, job_columns_of}

-- a space or a visible character of ASCII; byte 10 is none
abbrev pub Plain : ℕ → Type 0
Plain b = (space ≤ b) × (b ≤ 126)

-- the text is no wider than its columns
pub record Fits (c : Column) : Type 0 where
  pub within : length c.text ≤ c.width
  pub plain : All Plain c.text

-- the columns that a line takes
abbrev pub widths : List Column → ℕ
widths cs = sum (λ (c : Column). c.width) cs

pub record Fitting (cs : List Column) : Type 0 where
  pub wide : widths cs ≤ page_columns
  pub each : All Fits cs

-- ## What stands in the columns

number_plain : (v : ℕ) → All Plain (decimal_of v)
number_plain v = all_of Plain (decimal_of v) (λ b i. let d = all_in (λ (x : ℕ). (48 ≤ x) × (x ≤ 57)) (decimal_digits v) i in (omega arith, omega arith))

number_fits : (w v : ℕ) → length (decimal_of v) ≤ w → Fits (number w v)
number_fits w v h = record { within = h; plain = number_plain v }

-- a minute of the clock
minute_fits : (t : ℕ) → t ≤ horizon → Fits (number 8 t)
minute_fits t h = number_fits 8 t (omega (arith, decimal_seven t (omega arith)))

promised_fits : (k : Kind) (t : ℕ) → t ≤ horizon → Fits (column 8 (promised k t))
promised_fits Conservative t h = minute_fits t h
promised_fits Easy t h = record { within = omega arith; plain = ((omega arith, omega arith), tt) }

start_fits : (k : Kind) (w : Bool) (t : ℕ) → t ≤ horizon → Fits (column 8 (start_text k w t))
start_fits k true t h = promised_fits k t h
start_fits k false t h = minute_fits t h

state_fits : (s : State) → Fits (column 10 (state_word s))
state_fits Unused = record { within = omega arith; plain = tt }
state_fits Waiting = record { within = omega arith; plain = search rules }
state_fits Running = record { within = omega arith; plain = search rules }
state_fits Cleanup = record { within = omega arith; plain = search rules }

letter_fits : (t : Tenant) → known t ≡ true → Fits (column 2 (letter_of t ∷ []))
letter_fits Nobody k = true_false false k refl
letter_fits A k = record { within = omega arith; plain = ((omega arith, omega arith), tt) }
letter_fits B k = record { within = omega arith; plain = ((omega arith, omega arith), tt) }

run_low : (S : Settings) (e : ℕ) → run_time S e ≤ 99999
run_low S e = omega (arith, hold_is S e, hold_le S e)

-- a promise is a minute of the clock, of either kind
promise_low : (k : Kind) (m : Model) → ValidBy k m → (j : Job) → In j m.jobs → j.promise ≤ horizon
promise_low Conservative m v j i = v.promise_to j i
promise_low Easy m v j i = omega (arith, v.ready.promises j i)

-- ## The lines

pub heading_fitting : (m : Model) → Sound m → Fitting (heading m.settings.nodes m.clock m.next)
unfolding heading
heading_fitting m s = record {
  wide = omega arith;
  each = (
    minute_fits m.settings.nodes (omega (arith, s.nodes_to)),
    (minute_fits m.clock s.clock_to, (minute_fits m.next (omega (arith, s.next_to)), tt)),
  );
}

pub job_fitting : (m : Model) → Valid m → (j : Job) → In j m.jobs → Fitting (job_columns_of m.settings j)
unfolding job_columns_of
job_fitting m v j i =
    let s = valid_sound m v in
    let f = s.each j i in
    let S = m.settings in
    let k = S.kind in
    record {
      wide = omega arith;
      each =
          let state = state_fits j.state in
          let held = number_fits 6 (run_time S j.estimate) (omega (arith, decimal_five (run_time S j.estimate) (run_low S j.estimate))) in
          let promise = promised_fits k j.promise (promise_low k m v j i) in
          let start = start_fits k (is_waiting j) j.start (sound_low m s j i).0 in
          let nodes = number_fits 5 j.nodes (decimal_five j.nodes (omega (arith, f.nodes_to, s.nodes_to))) in
          let house = letter_fits j.tenant f.tenant_is in
          let ticket = number_fits 7 j.ticket (decimal_seven j.ticket (omega (arith, s.below j i, s.next_to))) in
          (ticket, (house, (nodes, (start, (promise, (held, (state, tt)))))));
    }

-- a line of spaces
pub none_fitting : Fitting []
none_fitting = record { wide = omega arith; each = tt }
