-- What a host program has to keep (document 01: "a desk came from an opening or from a call here"), and what calls give to it.
-- Assumes nothing.
use Rattle.std.specs.Prelude.{◌≡◌, List, [], ◌∷◌, map, ℕ, ◌≤◌}
use Rattle.std.proofs.Common.{sym, ap, subst, ◌∙◌, arith}
use Rattle.lists.specs.Tests.{case}
use Rattle.lists.specs.Lists.{All}
use Rattle.scheduler.specs.declared.Kind.{Kind}
use Rattle.scheduler.specs.declared.Kind.TheVariants.{Conservative, Easy}
use Rattle.scheduler.specs.declared.State.{State}
use Rattle.scheduler.specs.declared.State.TheVariants.{Unused, Waiting, Running, Cleanup}
use Rattle.scheduler.specs.declared.Job.{Job}
use Rattle.scheduler.specs.declared.Opening.{Opening}
use Rattle.scheduler.specs.declared.Scheduler.{Scheduler}
use Rattle.scheduler.specs.declared.Outcome as scheduler-outcome
use Rattle.scheduler.specs.declared.Amendment as scheduler-amendment
use Rattle.scheduler.specs.Limits.{longest_estimate}
use Rattle.scheduler.specs.Model.{view}
use Rattle.scheduler.specs.Opening.{opening_refusal, opening, opened}
use Rattle.scheduler.specs.Answers.{accepts, outcome}
use Rattle.history.specs.Calls.{Call}
use Rattle.guarantees.specs.Rules.{call}
use Rattle.guarantees.specs.Premise.{Premise}
use Rattle.restoring.specs.Restoring.{restoring}
use Rattle.calls.specs.AmendCall.{amends}
use Rattle.hingerota.specs.declared.Opening as host-opening
use Rattle.hingerota.specs.declared.Desk.{Desk}
use Rattle.hingerota.specs.declared.Amendment.{Amendment}
use Rattle.hingerota.specs.declared.Record.{Record}
use Rattle.hingerota.specs.declared.Outcome.{Outcome}
use Rattle.hingerota.specs.declared.Opened.{Opened}
use Rattle.hingerota.specs.Mirror.{kind_number, state_number, mirror_job, mirror, read, mirror_outcome, mirror_opened}

-- the desk is the mirror of a scheduler that meets the premise, with the longest estimate that every desk is read with
pub record Handed (d : Desk) : Type 0 where
  pub mirrored : d ≡ mirror (read d)
  pub premise : Premise (read d)

-- what an opening, a reading of lines and a call give to a host
abbrev pub opens : Opening → Opened
opens o = mirror_opened (opened o)

abbrev pub restores : List ℕ → Opened
restores t = mirror_opened (restoring t)

abbrev pub gives : Desk → Call → Outcome
gives d c = mirror_outcome (outcome (call (view (read d)) c))

-- what a host's corrected order asks (document 02, No. 13), and what that gives
abbrev pub amendment_of : Amendment → scheduler-amendment.Amendment
amendment_of b = record { ticket = b.ticket; nodes = b.nodes; estimate = b.estimate; least = b.least }

abbrev pub amends_on : Desk → Amendment → Outcome
amends_on d b = mirror_outcome (amends (read d) (amendment_of b))

-- what a host's opening asks, of a kind; document 02, No. 6: "longest estimate (elsewhere 10,080)"
abbrev pub opening_of : Kind → host-opening.Opening → Opening
opening_of k o = record {
  settings = record {
    kind = k;
    nodes = o.nodes;
    cleanup = o.cleanup;
    quota_a = o.quota_a;
    quota_b = o.quota_b;
    longest = longest_estimate;
  };
  minute = o.minute;
  ticket = o.ticket;
}

abbrev pub promise_opening : host-opening.Opening → Opening
promise_opening o = opening_of Conservative o

abbrev pub loose_opening : host-opening.Opening → Opening
loose_opening o = opening_of Easy o

-- an opening with this longest estimate hands it back, refused or not
pub opening_longest : (o : Opening) → o.settings.longest ≡ longest_estimate → (opening o).settings.longest ≡ longest_estimate
unfolding opening
opening_longest o e = case (accepts (opening_refusal o)) (λ a. rw a e) (λ a. rw a)

-- ## No other number stands for a kind or a state

kind_low : (k : Kind) → kind_number k ≤ 1
kind_low Conservative = omega arith
kind_low Easy = omega arith

state_low : (s : State) → state_number s ≤ 3
state_low Unused = omega arith
state_low Waiting = omega arith
state_low Running = omega arith
state_low Cleanup = omega arith

states_low : (js : List Job) → All (λ (r : Record). r.state ≤ 3) (map mirror_job js)
states_low [] = tt
states_low (j ∷ js) = (state_low j.state, states_low js)

pub handed_kind : (d : Desk) → Handed d → d.kind ≤ 1
unfolding mirror
handed_kind d h = subst (λ (e : Desk). e.kind ≤ 1) (sym h.mirrored) (kind_low (read d).settings.kind)

pub handed_states : (d : Desk) → Handed d → All (λ (r : Record). r.state ≤ 3) d.jobs
unfolding mirror
handed_states d h = subst (λ (e : Desk). All (λ (r : Record). r.state ≤ 3) e.jobs) (sym h.mirrored) (states_low (read d).jobs)

-- ## As a call has them, from what it read of the desk

pub read_premise : (d : Desk) (s : Scheduler) → s ≡ read d → Handed d → Premise s
read_premise d s e h = subst Premise (sym e) h.premise

pub call_given : (d : Desk) (c : Call) (s : Scheduler) (o : scheduler-outcome.Outcome) (r : Outcome) → s ≡ read d → o ≡ outcome (call (view s) c)
    → r ≡ mirror_outcome o → r ≡ gives d c
call_given d c s o r e f g = g ∙ ap mirror_outcome (f ∙ ap (λ (x : Scheduler). outcome (call (view x) c)) e)

pub amend_given : (d : Desk) (b : Amendment) (s : Scheduler) (o : scheduler-outcome.Outcome) (r : Outcome) → s ≡ read d → o ≡ amends s (amendment_of b)
    → r ≡ mirror_outcome o → r ≡ amends_on d b
amend_given d b s o r e f g = g ∙ ap mirror_outcome (f ∙ ap (λ (x : Scheduler). amends x (amendment_of b)) e)
