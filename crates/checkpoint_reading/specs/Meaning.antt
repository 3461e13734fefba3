-- What the readers of a record's line answer, in the words of its definition.
-- Assumes nothing.
use Rattle.std.specs.Prelude.{◌≡◌, Some, None, Result, Ok, Err, Bool, cond, ◌||◌, List, [], ◌∷◌, ℕ, ltb, length, get_or}
use Rattle.std.proofs.Common.{◌∙◌, arith}
use Rattle.std.proofs.Math.Option.{Option, none, some}
use Rattle.std.specs.declared.option.Option as rust
use Rattle.lists.specs.Tests.{case}
use Rattle.text.specs.declared.Numbers.{Numbers}
use Rattle.text.specs.Numbers.{numbers_from}
use Rattle.text.specs.Fields.{fields_of, field_of}
use Rattle.text.specs.Words.{is_word}
use Rattle.scheduler.specs.declared.State.{State}
use Rattle.scheduler.specs.declared.Job.{Job}
use Rattle.scheduler.specs.States.{live?}
use Rattle.scheduler.specs.Limits.{max_nodes, longest_estimate}
use Rattle.scheduler.specs.Tenants.{tenant_of}
use Rattle.desk_lines.specs.DeskLine.{letter_at, with_number}
use Rattle.checkpoint_rules.specs.Texts.{state_of, with_state, job_in}
use Rattle.script_reading.specs.Meaning.{with_numbers, when_read, with_read}
use Rattle.checkpoint_reading.specs.declared.Fault.{Fault}
use Rattle.checkpoint_reading.specs.declared.Fault.TheVariants as fault

-- a state, if there is one
abbrev pub state_from : Option State → rust.Option State
state_from none = None
state_from (some s) = Some s

abbrev pub on_state : {A : Type 0} → rust.Option State → (State → Option A) → Option A
on_state (Some s) f = cond (live? s) (f s) none
on_state None f = none

pub state_said : {A : Type 0} (s : List ℕ) (f : State → Option A) → on_state (state_from (state_of s)) f ≡ with_state (state_of s) f
unfolding state_of
state_said s f =
    case (is_word (119 ∷ []) s) (λ e. rw e) (λ e.
    rw e (case (is_word (114 ∷ []) s) (λ g. rw g) (λ g. rw g (case (is_word (99 ∷ []) s) (λ h. rw h) (λ h. rw h)))))

-- above all limits
abbrev pub beyond : (nodes estimate least : ℕ) → Bool
beyond n e l = ltb max_nodes n || ltb longest_estimate e || ltb longest_estimate l

abbrev pub given_by : Option Job → Result Job Fault
given_by none = Err fault.Malformed
given_by (some j) = cond (beyond j.nodes j.estimate j.least) (Err fault.Unacceptable) (Ok j)

-- the record of the numbers of a line
abbrev pub record_of_for : List ℕ → State → List ℕ → ℕ → List ℕ → Job
record_of_for a s b house k = record {
  ticket = get_or a 0 0;
  nodes = get_or a 1 0;
  estimate = get_or a 2 0;
  state = s;
  tenant = tenant_of house;
  least = get_or k 0 0;
  start = get_or b 0 0;
  promise = get_or b 1 0;
  end = get_or b 2 0;
  submitted = get_or k 1 0;
  rank = get_or k 2 0;
  forecast = get_or k 3 0;
}

unfoldable pub record_from : Numbers → rust.Option State → Numbers → rust.Option ℕ → Numbers → Option Job
record_from first state times house kept =
    when_read 3 first (λ a. on_state state (λ s. when_read 3 times (λ b. with_number house (λ h. when_read 4 kept (λ k. some (record_of_for a s b h k))))))

-- what is read of a line of twelve fields is what it says
pub record_said : (s : List ℕ) {first times kept : Numbers} {state : rust.Option State} {house : rust.Option ℕ} → first ≡ numbers_from s 0 → state ≡ state_from (state_of (field_of s 3))
    → times ≡ numbers_from s 4 → house ≡ letter_at s 7 → kept ≡ numbers_from s 8 → length (fields_of s) ≡ 12
    → record_from first state times house kept ≡ job_in s
unfolding record_from job_in
record_said s {first} {times} {kept} {state} {house} a e b h k n =
    (λ i. when_read 3 first (λ x. on_state (e i) (λ y. when_read 3 times (λ z. with_number (h i) (λ t. when_read 4 kept (λ u. some (record_of_for x y z t u)))))))
    ∙ with_read s 3 0 (λ x. on_state (state_from (state_of (field_of s 3))) (λ y. when_read 3 times (λ z. with_number (letter_at s 7) (λ t.
    when_read 4 kept (λ u. some (record_of_for x y z t u)))))) (omega arith) a
    ∙ (λ i. with_numbers s 0 3 (λ x. state_said (field_of s 3) (λ y. when_read 3 times (λ z. with_number (letter_at s 7) (λ t.
    when_read 4 kept (λ u. some (record_of_for x y z t u))))) i))
    ∙ (λ i. with_numbers s 0 3 (λ x. with_state (state_of (field_of s 3)) (λ y. with_read s 3 4 (λ z. with_number (letter_at s 7) (λ t.
    when_read 4 kept (λ u. some (record_of_for x y z t u)))) (omega arith) b i)))
    ∙ (λ i. with_numbers s 0 3 (λ x. with_state (state_of (field_of s 3)) (λ y. with_numbers s 4 3 (λ z. with_number (letter_at s 7) (λ t.
    with_read s 4 8 (λ u. some (record_of_for x y z t u)) (omega arith) k i)))))
    ∙ rw n
