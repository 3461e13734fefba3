-- Calls by value and on a lent scheduler, as they were made one after another. Document 01: "Each call, taken or refused, gets the desk that the last
-- one handed back, or left where it was lent"; "A call on a lent desk counts as its by-value one, a `wait` as its steps or as one refused call"; "A
-- profile leaves the desk as it is, and the points lent to it are no part of the desk".
-- Assumes nothing.
use Rattle.std.specs.Prelude.{◌≡◌, false, List, ℕ}
use Rattle.spans.specs.declared.Point.{Point}
use Rattle.scheduler.specs.declared.Amendment.{Amendment}
use Rattle.scheduler.specs.declared.Answer.{Answer}
use Rattle.scheduler.specs.declared.Outcome.{Outcome}
use Rattle.scheduler.specs.declared.Refusal.{Refusal}
use Rattle.scheduler.specs.declared.Refusal.TheVariants as refusal
use Rattle.scheduler.specs.declared.Scheduler.{Scheduler}
use Rattle.scheduler.specs.Model.{Model, store, view}
use Rattle.scheduler.specs.Answers.{accepts, refused_answer}
use Rattle.scheduler.specs.Refusals.{wait_refusal}
use Rattle.scheduler.specs.Opening.{opened}
use Rattle.history.specs.Calls.{Call, unchanged, after}
use Rattle.guarantees.specs.Rules.{call}
use Rattle.migration_rules.specs.Migration.{changed}
use Rattle.guarantees.specs.Chain.{gives}
use Rattle.guarantees.specs.Statement.{Start, opens, reads, changes, start_of}
use Rattle.restoring.specs.Restoring.{restoring}
use Rattle.calls.specs.declared.Shown.{Shown}
use Rattle.calls.specs.declared.Listing.{Listing}
use Rattle.calls.specs.ProfileCall.{profile_outcome}
use Rattle.calls.specs.IndexCall.{index_outcome}
use Rattle.spans.specs.declared.Block.{Block}
use Rattle.scheduler.specs.declared.Earliest.{Earliest}
use Rattle.easy_rules.specs.EarliestStart.{earliest_start}
use Rattle.scheduler.specs.declared.Inquiry.{Inquiry}
use Rattle.scheduler.specs.declared.Longest.{Longest}
use Rattle.calls.specs.LongestCall.{longest_of}
use Rattle.calls.specs.ListCall.{Shows}
use Rattle.amend_rules.specs.Steps.{Step}
use Rattle.amend_laws.specs.Steps.{MadeStep}
use Rattle.calls.specs.AmendCall.{amends}
use Rattle.advance_rules.specs.Advance.{advance_calls, advance_answers}
use Rattle.advancing.specs.declared.Advanced.{Advanced}
use Rattle.advancing.specs.declared.AdvanceOutcome.{AdvanceOutcome}
use Rattle.advancing.specs.Advances.{advances}
use Rattle.lent_calls.specs.CallContract.{Leaves, LeavesAmended}
use Rattle.lent_calls.specs.AdvanceContract.{LeavesAdvanced}
use Rattle.lent_calls.specs.ProfileContract.{ShowsPoints}
use Rattle.lent_calls.specs.IndexContract.{ShowsBlocks}

-- a call on d, made as its contract says, by value or on what is lent: what it answers, and the scheduler after it
pub data Made (d : Scheduler) : Call → Answer → Scheduler → Type 0 where
  by_value : {c : Call} {o : Outcome} → o ≡ gives d c → Made d c o.answer o.scheduler
  on_lent : {c : Call} {a : Answer} {e : Scheduler} → Leaves d c a e → Made d c a e
  -- a profile counts as a call that leaves the scheduler as it is, by the refusal that it answers
  profile_by_value : (room : ℕ) {p : Listing Point 129} → p ≡ profile_outcome (view d) room
      → Made d (unchanged p.answer.refusal) (refused_answer p.answer.refusal) d
  profile_on_lent : {lent after : List Point} {s : Shown} → ShowsPoints d lent s after → Made d (unchanged s.refusal) (refused_answer s.refusal) d
  -- and so does the index
  index_by_value : (room : ℕ) {p : Listing Block 9} → p ≡ index_outcome (view d) room
      → Made d (unchanged p.answer.refusal) (refused_answer p.answer.refusal) d
  index_on_lent : {lent after : List Block} {s : Shown} → ShowsBlocks d lent s after → Made d (unchanged s.refusal) (refused_answer s.refusal) d
  -- and the question for an earliest start, by value or on what is lent
  earliest_asked : {e : Earliest} (ticket : ℕ) → e ≡ earliest_start (view d) ticket → Made d (unchanged e.refusal) (refused_answer e.refusal) d
  -- and that for a longest estimate
  longest_asked : {l : Longest} (q : Inquiry) → l ≡ longest_of (view d) q → Made d (unchanged l.refusal) (refused_answer l.refusal) d
  -- and a call for a text, by value or on what is lent: the status page (`ShowsPage`), the lines (`ShowsText`) or why jobs wait (`ShowsWhy` in `calls/specs/TextCall.antt`)
  text_shown : {text : Model → List ℕ} {lent after : List ℕ} {s : Shown} → Shows text d lent s after
      → Made d (unchanged s.refusal) (refused_answer s.refusal) d
  -- and a wait that is refused; one that is not refused is as many ticks
  wait_refused : {r : Refusal} (minutes : ℕ) → r ≡ wait_refusal (view d) minutes → accepts r ≡ false → Made d (unchanged r) (refused_answer r) d

-- the scheduler that a list of calls starts with: the one that `Scheduler::open` or `calls::restore` hands back, or `restore` leaves, a refused one too;
-- or the one that `migrate` hands back or leaves after the calls before (`migrated_starts`)
abbrev pub started : Start → Scheduler
started (opens o) = (opened o).scheduler
started (reads t) = (restoring t).scheduler
started (changes s cs) = store (changed (after call (start_of s) cs))

-- the order b given to d, by value or on what is lent: what it was answered, and the scheduler after it
pub data Amended (d : Scheduler) (b : Amendment) : Answer → Scheduler → Type 0 where
  by_value : {o : Outcome} → o ≡ amends d b → Amended d b o.answer o.scheduler
  on_lent : {a : Answer} {e : Scheduler} → LeavesAmended d b a e → Amended d b a e

-- a call or a corrected order, as it was made
abbrev pub MadeMixed : Scheduler → Step → Answer → Scheduler → Type 0
MadeMixed = MadeStep Made Amended

-- so many minutes on d, by value or on what is lent: the calls that they count as, by how many have passed, the answers to these, and the scheduler after
-- them
pub data Advances (d : Scheduler) : List Call → List Answer → Scheduler → Type 0 where
  by_value : (n : ℕ) {o : AdvanceOutcome} → o ≡ advances d n
      → Advances d (advance_calls o.answer.minutes (wait_refusal (view d) n)) (advance_answers (refused_answer refusal.None) o.answer.minutes o.answer.answer)
      o.scheduler
  on_lent : (n : ℕ) {a : Advanced} {e : Scheduler} → LeavesAdvanced d n a e
      → Advances d (advance_calls a.minutes (wait_refusal (view d) n)) (advance_answers (refused_answer refusal.None) a.minutes a.answer) e
