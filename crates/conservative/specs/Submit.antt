-- What the code of a submission computes on a stored model is the definition's submission.
-- Assumes nothing.
use Rattle.std.specs.Prelude.{◌≡◌, Bool, true, false, cond, ℕ, ◌+◌, ◌-◌, ◌≤◌, ◌<◌, eqb, ltb, length, set}
use Rattle.std.proofs.Math.Path.{refl}
use Rattle.std.proofs.Common.{sym, ap, ◌∙◌}
use mathlib.Core.List.{[], ◌∷◌}
use native.Mathlib.Omega.{arith}
use borrow.Author.Tests.{lt-ltb, le-ltb}
use Rattle.scheduler.specs.declared.Submission.{Submission}
use Rattle.scheduler.specs.declared.State.TheVariants.{Waiting}
use Rattle.scheduler.specs.declared.Refusal.TheVariants as refusal
use Rattle.scheduler.specs.declared.Scheduler.{Scheduler}
use Rattle.scheduler.specs.declared.Outcome.{Outcome}
use Rattle.scheduler.specs.Limits.{max_nodes, longest_estimate, last_ticket}
use Rattle.scheduler.specs.Jobs.{fresh}
use Rattle.scheduler.specs.Settings.{horizon, slots, quota, hold_time}
use Rattle.scheduler.specs.Times.{longest_le, hold_pos, hold_le}
use Rattle.scheduler.specs.Table.{with_jobs, live_of, tickets, one_if}
use Rattle.scheduler.specs.Model.{Model, view}
use Rattle.scheduler.specs.Answers.{answer, outcome, refuse, verdict, accepts, refused_outcome}
use Rattle.history.specs.Calls.{submit}
use Rattle.conservative_rules.specs.Conservative.{spans, call, new_job, placed, planned, submit_refusal, reads_for, submitted}
use Rattle.lists.specs.Least.{least_to}
use Rattle.spans.specs.Spans.{free, last_end, fits, earliest}
use Rattle.jobs.specs.Soundness.{Sound, Fit, fit_room, submit_fit}
use Rattle.jobs.specs.Premise.{Holds, holds_as, refused_held}
use Rattle.job_table.specs.Parts.{refusal_by, shared_refusal}
use Rattle.job_table.specs.Submitting.{Tells, tests_more, judged_alike, with_next, enters}
use Rattle.conservative_laws.specs.Validity.{Valid}
use Rattle.conservative_plan.specs.PlannedSlots.{Planned, valid_planned, last_slots}
use Rattle.conservative_plan.specs.EarliestStart.{start_for, Askable}

unfoldable pub accepted : Scheduler → Submission → ℕ → (start reads : ℕ) → Outcome
accepted d o slot s reads = record {
  answer = record {
    refusal = refusal.None;
    ticket = d.next;
    promise = s;
    reads = reads;
    ended = tickets [];
    started = tickets (one_if (eqb s d.clock) d.next);
    head = 0;
    forecast = 0;
  };
  scheduler = with_next (with_jobs d (set d.jobs slot (placed d.clock s (fresh d.next o Waiting s s)))) (d.next + 1);
}

-- ## What the call gives

module _ (m : Model) (o : Submission) (v : Sound m) where
  past : Bool
  past = ltb (horizon m.settings) (planned m o + hold_time m.settings o.estimate)

  refusal_is : submit_refusal m o (planned m o) ≡ cond (accepts (shared_refusal m o)) (verdict ((past, refusal.PastHorizon) ∷ [])) (shared_refusal m o)
  unfolding past submit_refusal
  refusal_is = tests_more m.settings (live_of o.tenant m.jobs) m.next o ((past, refusal.PastHorizon) ∷ [])

  -- refused by one of the tests that both kinds share
  pub submit_checked : accepts (shared_refusal m o) ≡ false → call m (submit o) ≡ refuse m (shared_refusal m o)
  unfolding call
  submit_checked a = rw (refusal_is, a) (rw a)

  pub submit_past : accepts (shared_refusal m o) ≡ true → horizon m.settings < planned m o + hold_time m.settings o.estimate
      → call m (submit o) ≡ refuse m refusal.PastHorizon
  unfolding call past verdict
  submit_past a h = rw (refusal_is, a, lt-ltb (horizon m.settings) (planned m o + hold_time m.settings o.estimate) h)

  pub submit_taken : accepts (shared_refusal m o) ≡ true → planned m o + hold_time m.settings o.estimate ≤ horizon m.settings
      → call m (submit o) ≡ submitted m o (planned m o)
  unfolding call past verdict
  submit_taken a h = rw (refusal_is, a, le-ltb (horizon m.settings) (planned m o + hold_time m.settings o.estimate) h)

  -- a minute of the clock is found
  pub planned_within : planned m o ≤ horizon m.settings
  unfolding planned earliest
  planned_within =
      let xs = spans m.settings m.jobs in
      omega (
        arith,
        least_to (fits (free m.settings.nodes xs) o.nodes (hold_time m.settings o.estimate)) (last_end xs - m.clock) m.clock,
        last_slots m.settings (horizon m.settings) m.jobs (λ j i. (v.each j i).ends),
        v.clock_to,
      )

  -- what the tests that both kinds share say
  module _ (a : accepts (shared_refusal m o) ≡ true) where
    pub submit_fits : Fit m o
    unfolding refusal_by
    submit_fits = (submit_fit m o [] a).0

    pub submit_room : length m.jobs < slots m.settings
    submit_room = fit_room m o v submit_fits

-- ## What the code computes, on a scheduler that holds a valid model

module _ (d : Scheduler) (o : Submission) (h : Holds Valid d) where
  abbrev m : Model
  m = view d

  pub planned_low : planned m o ≤ horizon m.settings
  planned_low = planned_within m o h.holds.sound

  pub shared_held : (live places : ℕ) → places ≡ quota d.settings o.tenant → Tells places (live_of o.tenant m.jobs) live
      → refusal_by d.settings live d.next o ≡ shared_refusal m o
  unfolding view
  shared_held live places e q = judged_alike d.settings (live_of o.tenant m.jobs) live d.next o (rw e at q)

  module _ (a : accepts (shared_refusal m o) ≡ true) where
    pub fit_held : Fit m o
    fit_held = submit_fits m o h.holds.sound a

    room : length m.jobs < slots m.settings
    room = submit_room m o h.holds.sound a

    pub room_held : (slot : ℕ) → slot ≡ length m.jobs
        → (slot < slots m.settings) × (d.next ≤ last_ticket) × (o.nodes ≤ max_nodes) × (o.estimate ≤ longest_estimate) × (o.least ≤ o.estimate)
    unfolding view
    room_held slot q = (
      omega (arith, room),
      fit_held.ticket_left,
      omega (arith, fit_held.nodes_to, h.holds.sound.nodes_to),
      omega (arith, fit_held.estimate_to, longest_le m.settings),
      fit_held.least_to,
    )

    pub askable : Askable d o.nodes (hold_time m.settings o.estimate)
    askable = record {
      planned = holds_as Valid Planned d valid_planned h;
      nodes_to = fit_held.nodes_to;
      hold_from =
          hold_pos m.settings o.estimate fit_held.estimate_from;
      hold_to = hold_le m.settings o.estimate;
    }

    pub start_held : start_for m o.nodes (hold_time m.settings o.estimate) ≡ planned m o
    unfolding planned
    start_held = refl

    accepted_held : (slot s : ℕ) → slot ≡ length m.jobs → accepted d o slot s (reads_for m o s) ≡ outcome (submitted m o s)
    unfolding accepted submitted view
    accepted_held slot s q = λ i. record {
      answer = answer (submitted m o s).reply;
      scheduler =
          enters d slot q h.stored room (new_job m o s) i;
    }

    pub taken_held : (slot : ℕ) → slot ≡ length m.jobs → planned m o + hold_time m.settings o.estimate ≤ horizon m.settings
        → accepted d o slot (planned m o) (reads_for m o (planned m o)) ≡ outcome (call m (submit o))
    taken_held slot q l = accepted_held slot (planned m o) q ∙ ap outcome (sym (submit_taken m o h.holds.sound a l))

    pub past_held : horizon m.settings < planned m o + hold_time m.settings o.estimate → refused_outcome d refusal.PastHorizon ≡ outcome (call m (submit o))
    past_held l = refused_held Valid d refusal.PastHorizon h ∙ ap outcome (sym (submit_past m o h.holds.sound a l))

  pub tests_held : accepts (shared_refusal m o) ≡ false → refused_outcome d (shared_refusal m o) ≡ outcome (call m (submit o))
  tests_held a = refused_held Valid d (shared_refusal m o) h ∙ ap outcome (sym (submit_checked m o h.holds.sound a))
