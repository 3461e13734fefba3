-- `checkpoint_reading::record` meets its contract.
-- Assumes nothing.
use Rattle.std.specs.Prelude.{◌≡◌, refl, false, not, ◌||◌, ℕ, ◌≤◌, ltb, get_or, Some, None}
use Rattle.std.specs.declared.option.Option as rust
use Rattle.std.proofs.Math.Option.{Option, none}
use mathlib.Core.Path.{sym, ◌∙◌}
use native.Mathlib.Omega.{arith}
use denote.Enum.Bare.{sameb}
use borrow.Author.Tests.{le-leb, lt-leb, ltb-false}
use Rattle.lists.specs.Tests.{neither}
use Rattle.scheduler.specs.declared.Job.{Job}
use Rattle.scheduler.specs.declared.State.{State}
use Rattle.scheduler.specs.declared.State.TheVariants.{Unused, Waiting, Running, Cleanup}
use Rattle.scheduler.specs.States.{live?}
use Rattle.scheduler.specs.contracts.State.{the_type}
use Rattle.scheduler.specs.Limits.{max_nodes, longest_estimate}
use Rattle.script_reading.specs.LineReading.{with_nothing}
use Rattle.checkpoint_reading.specs.Meaning.{on_state, beyond, record_from}
use Rattle.checkpoint_reading.proofs.record.Goals.{then-first-lt3-via-then-first-lt3, then-first-lt3-via-else-first-lt3+then-times-lt3, then-first-lt3-via-else-first-lt3+else-times-lt3+then-kept-lt4}
use Rattle.checkpoint_reading.proofs.record.Goals.{Else-is_beyond}
use Rattle.checkpoint_reading.proofs.record.Goals as goal

no_state : (o : rust.Option State) (f : State → Option Job) → ((s : State) → f s ≡ none) → on_state o f ≡ none
no_state (Some Unused) f h = refl
no_state (Some Waiting) f h = h Waiting
no_state (Some Running) f h = h Running
no_state (Some Cleanup) f h = h Cleanup
no_state None f h = refl

-- a state is live unless it is the unused one
live_said : (s : State) → live? s ≡ not (sameb the_type s Unused)
live_said Unused = refl
live_said Waiting = refl
live_said Running = refl
live_said Cleanup = refl

-- what is not beyond the limits has 16 bits
low : (nodes estimate least : ℕ) → beyond nodes estimate least ≡ false → (nodes ≤ 65535) × (estimate ≤ 65535) × (least ≤ 65535)
low n e l q =
    let a = neither (ltb max_nodes n || ltb longest_estimate e) (ltb longest_estimate l) q in
    let b = neither (ltb max_nodes n) (ltb longest_estimate e) a.0 in
    (omega (arith, ltb-false max_nodes n b.0), omega (arith, ltb-false longest_estimate e b.1), omega (arith, ltb-false longest_estimate l a.1))

within : (c : Else-is_beyond) → let a = c.args in
    (get_or a.first.values 1 0 ≤ 65535) × (get_or a.first.values 2 0 ≤ 65535) × (get_or a.kept.values 0 0 ≤ 65535)
within c =
    let a = c.args in
    low (get_or a.first.values 1 0) (get_or a.first.values 2 0) (get_or a.kept.values 0 0) (sym c.is_beyond.ensures ∙ c.if-is_beyond.false)

pub returns-then-first-lt3 : goal.returns-then-first-lt3
unfolding record_from
returns-then-first-lt3 c =
    let a = c.args in
    elim c.then-first-lt3.branch [
      | then-first-lt3-via-then-first-lt3 w ↦ rw (lt-leb 3 _ w.if-first-lt3.true)
      | then-first-lt3-via-else-first-lt3+then-times-lt3 w ↦
          rw (le-leb 3 _ w.if-first-lt3.false, lt-leb 3 _ w.if-times-lt3.true, no_state a.state (λ s. none) (λ s. refl))
      | then-first-lt3-via-else-first-lt3+else-times-lt3+then-kept-lt4 w ↦
          rw (le-leb 3 _ w.if-first-lt3.false, le-leb 3 _ w.if-times-lt3.false, lt-leb 4 _ w.if-kept-lt4.true, with_nothing {A = Job} a.house (λ h. none) (λ h. refl), no_state a.state (λ s. none) (λ s. refl))
    ]

pub returns-in_default : goal.returns-in_default
unfolding record_from
returns-in_default c = rw (le-leb 3 _ c.if-first-lt3.false, c.in_default.is)

pub returns-then-eq : goal.returns-then-eq
unfolding record_from
returns-then-eq c = rw (le-leb 3 _ c.if-first-lt3.false, c.in-Some.is, live_said c.in-Some.state, sym c.eq.ensures ∙ c.if-eq.true)

pub returns-in_default-house : goal.returns-in_default-house
unfolding record_from
returns-in_default-house c = rw (le-leb 3 _ c.if-first-lt3.false, c.in-Some.is, live_said c.in-Some.state, sym c.eq.ensures ∙ c.if-eq.false, le-leb 3 _ c.if-times-lt3.false, c.in_default-house.is)

pub returns-then-is_beyond : goal.returns-then-is_beyond
unfolding record_from
returns-then-is_beyond c =
    rw (le-leb 3 _ c.if-first-lt3.false, c.in-Some.is, live_said c.in-Some.state, sym c.eq.ensures ∙ c.if-eq.false, le-leb 3 _ c.if-times-lt3.false, c.in-Some-house.is, le-leb 4 _ c.if-kept-lt4.false, sym c.is_beyond.ensures ∙ c.if-is_beyond.true)

pub returns : goal.returns
unfolding record_from
returns c =
    rw (le-leb 3 _ c.if-first-lt3.false, c.in-Some.is, live_said c.in-Some.state, sym c.eq.ensures ∙ c.if-eq.false, le-leb 3 _ c.if-times-lt3.false, c.in-Some-house.is, le-leb 4 _ c.if-kept-lt4.false, sym c.is_beyond.ensures ∙ c.if-is_beyond.false, c.of_letter.ensures)
