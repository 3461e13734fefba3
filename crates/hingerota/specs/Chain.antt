-- A host's calls on the desk that it lends, as they were made one after another, and how it comes by the desk that they start with.
-- Assumes nothing.
use Rattle.std.specs.Prelude.{◌≡◌, false, List, ℕ, eqb, length}
use Rattle.scheduler.specs.declared.Amendment as scheduler-amendment
use Rattle.scheduler.specs.Model.{Model, store, view}
use Rattle.scheduler.specs.Answers.{Reply, reply_of, no_tickets}
use Rattle.easy_rules.specs.EarliestStart.{earliest_start}
use Rattle.history.specs.Calls.{Call, unchanged, after}
use Rattle.guarantees.specs.Rules.{call}
use Rattle.migration_rules.specs.Migration.{changed}
use Rattle.guarantees.specs.Statement as start
use Rattle.guarantees.specs.Statement.{book_of, Start, start_of}
use Rattle.amend_rules.specs.Steps.{Step}
use Rattle.amend_laws.specs.Steps.{MadeStep}
use Rattle.advance_rules.specs.Advance.{advance_calls, advance_answers}
use Rattle.calls.specs.ListCall.{list_refusal}
use Rattle.calls.specs.ProfileCall.{points_of}
use Rattle.calls.specs.IndexCall.{blocks_of}
use Rattle.calls.specs.LongestCall.{longest_of}
use Rattle.hingerota.specs.declared.Opening as host-opening
use Rattle.hingerota.specs.declared.Desk.{Desk}
use Rattle.hingerota.specs.declared.Amendment.{Amendment}
use Rattle.hingerota.specs.declared.Answer.{Answer}
use Rattle.hingerota.specs.declared.Advanced.{Advanced}
use Rattle.hingerota.specs.declared.Point.{Point}
use Rattle.hingerota.specs.declared.Block.{Block}
use Rattle.hingerota.specs.declared.Earliest.{Earliest}
use Rattle.hingerota.specs.declared.Inquiry.{Inquiry}
use Rattle.hingerota.specs.declared.Longest.{Longest}
use Rattle.hingerota.specs.declared.Shown.{Shown}
use Rattle.hingerota.specs.Mirror.{mirror, mirror_tickets, read, read_answer_of}
use Rattle.hingerota.specs.DeskPremise.{opens, promise_opening, loose_opening, restores, amendment_of}
use Rattle.hingerota.specs.CallContract.{HostLeaves, HostLeavesAmended}
use Rattle.hingerota.specs.AdvanceContract.{HostLeavesAdvanced}
use Rattle.hingerota.specs.ProfileContract.{HostShowsPoints}
use Rattle.hingerota.specs.IndexContract.{HostShowsBlocks}
use Rattle.hingerota.specs.EarliestContract.{earliest_on}
use Rattle.hingerota.specs.LongestContract.{asked_by, longest_on}
use Rattle.hingerota.specs.TextContract.{HostShowsBytes}
use Rattle.hingerota.specs.Waits.{wait_refusal_on, wait_number}

-- the reply that an answer in numbers says
abbrev pub host_reply : Answer → Reply
host_reply a = reply_of (read_answer_of a)

-- the answer that has this refusal and nothing else
abbrev pub refused_by : ℕ → Answer
refused_by n = record { refusal = n; ticket = 0; promise = 0; reads = 0; head = 0; forecast = 0; ended = mirror_tickets no_tickets; started = mirror_tickets no_tickets }

-- a call on the lent desk d, made as its contract says: what it answers, and the desk after it
pub data HostMade (d : Desk) : Call → Answer → Desk → Type 0 where
  on_lent : {c : Call} {a : Answer} {e : Desk} → HostLeaves d c a e → HostMade d c a e
  -- a profile counts as a call that leaves the desk as it is, by the refusal that it answers
  profile_on_lent : {lent after : List Point} {s : Shown} → HostShowsPoints d lent s after
      → HostMade d (unchanged (list_refusal points_of (view (read d)) (length lent))) (refused_by s.refusal) d
  -- and so does the index
  index_on_lent : {lent after : List Block} {s : Shown} → HostShowsBlocks d lent s after
      → HostMade d (unchanged (list_refusal blocks_of (view (read d)) (length lent))) (refused_by s.refusal) d
  -- and the question for an earliest start
  earliest_asked : {e : Earliest} (ticket : ℕ) → e ≡ earliest_on d ticket
      → HostMade d (unchanged (earliest_start (view (read d)) ticket).refusal) (refused_by e.refusal) d
  -- and that for a longest estimate
  longest_asked : {l : Longest} (q : Inquiry) → l ≡ longest_on d q
      → HostMade d (unchanged (longest_of (view (read d)) (asked_by q)).refusal) (refused_by l.refusal) d
  -- and a call for a text: the status page (`HostShowsPage`), the lines (`HostShowsText`) or why jobs wait (`HostShowsWhy` in `TextContract.antt`)
  text_on_lent : {text : Model → List ℕ} {lent after : List ℕ} {s : Shown} → HostShowsBytes text d lent s after
      → HostMade d (unchanged (list_refusal text (view (read d)) (length lent))) (refused_by s.refusal) d
  -- and a wait that is refused; one that is not refused is as many ticks
  wait_refused : {n : ℕ} (minutes : ℕ) → n ≡ wait_number d minutes → eqb n 0 ≡ false → HostMade d (unchanged (wait_refusal_on d minutes)) (refused_by n) d

-- how a host comes by the desk that a list of calls starts with: `hingerota_open_promise`, `hingerota_open_loose` or `hingerota_restore`, a refused
-- one too; or `hingerota_migrate` after the calls of a list with another start (`migrated_starts`)
pub data HostStart : Type 0 where
  opens_promise : host-opening.Opening → HostStart
  opens_loose : host-opening.Opening → HostStart
  restores_text : (text : List ℕ) → HostStart
  changes_desk : HostStart → (before : List Call) → HostStart

abbrev pub start_by : HostStart → Start
start_by (opens_promise o) = start.opens (promise_opening o)
start_by (opens_loose o) = start.opens (loose_opening o)
start_by (restores_text t) = start.reads t
start_by (changes_desk s cs) = start.changes (start_by s) cs

-- the desk that it hands back
abbrev pub desk_by : HostStart → Desk
desk_by (opens_promise o) = (opens (promise_opening o)).desk
desk_by (opens_loose o) = (opens (loose_opening o)).desk
desk_by (restores_text t) = (restores t).desk
desk_by (changes_desk s cs) = mirror (store (changed (after call (start_of (start_by s)) cs)))

-- the order b given to the desk d, lent: what it was answered, and the desk after it
abbrev pub HostAmended : Desk → scheduler-amendment.Amendment → Answer → Desk → Type 0
HostAmended d b a e = (x : Amendment) × (b ≡ amendment_of x) × HostLeavesAmended d x a e

-- a call or a corrected order of a host, as it was made
abbrev pub HostMadeStep : Desk → Step → Answer → Desk → Type 0
HostMadeStep = MadeStep HostMade HostAmended

-- so many minutes on the desk d, lent: the calls that they count as, by how many have passed, the answers to these, and the desk after them
pub data HostAdvances (d : Desk) : List Call → List Answer → Desk → Type 0 where
  on_lent : (n : ℕ) {a : Advanced} {e : Desk} → HostLeavesAdvanced d n a e
      → HostAdvances d (advance_calls a.minutes (wait_refusal_on d n)) (advance_answers (refused_by 0) a.minutes a.answer) e
