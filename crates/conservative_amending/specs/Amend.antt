-- What the code of a corrected order in place computes on a stored model is the definition's.
-- Assumes nothing.
use Rattle.std.specs.Prelude.{ℕ, ◌≡◌, true, false, List, [], length}
use Rattle.std.proofs.Math.Path.{refl, ap}
use Rattle.std.proofs.Common.{sym, ◌∙◌}
use Rattle.scheduler.specs.declared.Job.{Job}
use Rattle.scheduler.specs.declared.Amendment.{Amendment}
use Rattle.scheduler.specs.declared.Outcome.{Outcome}
use Rattle.scheduler.specs.declared.Refusal.TheVariants as refusal
use Rattle.scheduler.specs.declared.Scheduler.{Scheduler}
use Rattle.scheduler.specs.Table.{with_jobs, tickets}
use Rattle.scheduler.specs.Model.{Model, store, view, with_model_jobs}
use Rattle.scheduler.specs.Answers.{outcome, refuse, accepts}
use Rattle.scheduler.specs.Amending.{named, kept_promise, in_place_of, in_place_refusal}
use Rattle.jobs.specs.Soundness.{all_live}
use Rattle.jobs.specs.Premise.{Holds, store_holds}
use Rattle.jobs.specs.Amended.{inplace_fit}
use Rattle.job_table.specs.Parts.{Own, coming, part, own_taken, own_refused}
use Rattle.history.specs.Calls.{amend}
use Rattle.conservative_rules.specs.Conservative.{compressed, amended_to, amended, call}
use Rattle.conservative_laws.specs.Validity.{Valid}
use Rattle.conservative_laws.specs.Amended.{inplace_valid}
use Rattle.conservative_plan.specs.Pass.{Replannable}
use Rattle.conservative_plan.specs.StoredPass.{compressed_stored, compressed_length}
use Rattle.conservative.specs.Advance.{advanced_by, begun_stored}
use Rattle.conservative.specs.Depart.{departs_by}
use Rattle.amending.specs.Ways.{superseding}

-- with the ticket and the promise that it gives
abbrev pub answering : (ticket promise : ℕ) → Outcome → Outcome
answering t p o = record {
  answer = record {
    refusal = o.answer.refusal;
    ticket = t;
    promise = p;
    reads = o.answer.reads;
    ended = o.answer.ended;
    started = o.answer.started;
    head = o.answer.head;
    forecast = o.answer.forecast;
  };
  scheduler = o.scheduler;
}

module _ (m : Model) (a : Amendment) where
  abbrev placed : Model
  placed = in_place_of m a

  abbrev own : Own
  own = superseding m a

  abbrev given : Outcome → Outcome
  given = answering a.ticket (kept_promise (named m a))

  -- the answer, wherever those that wait come to stand
  answered_stored : (ks : List Job) → length placed.jobs ≡ length ks
      → given (advanced_by (part (coming 0 placed)) (store (with_model_jobs placed ks))) ≡ outcome (amended_to m a ks)
  unfolding advanced_by amended_to
  answered_stored ks e = λ i. record {
    answer = record {
      refusal = refusal.None;
      ticket = a.ticket;
      promise = kept_promise (named m a);
      reads = 0;
      ended = tickets [];
      started = tickets (begun_stored placed ks e i);
      head = 0;
      forecast = 0;
    };
    scheduler = store (with_model_jobs placed ks);
  }

  module _ (v : Valid m) where
    module _ (t : accepts own.refusal ≡ true) where
      took : (accepts (in_place_refusal m a) ≡ true) × (own ≡ coming 0 placed)
      took = own_taken m (in_place_refusal m a) (coming 0 placed) t

      valid_placed : Valid placed
      valid_placed = let f = inplace_fit m a took.0 in inplace_valid m a f.range f.shrinks v

      replannable : Replannable placed
      replannable = record { planned = record { sound = valid_placed.sound; room = valid_placed.room }; ahead = valid_placed.ahead }

      pub replannable_held : Holds Replannable (store own.model)
      replannable_held = rw took.1 (store_holds Replannable placed (all_live placed valid_placed.sound) replannable)

      abbrev after_passes : List Job
      after_passes = compressed placed.settings placed.clock placed.jobs

      passes_are : with_jobs (store placed) (compressed (view (store placed)).settings (store placed).clock (store placed).jobs) ≡ store (with_model_jobs placed after_passes)
      unfolding view store
      passes_are = compressed_stored placed replannable

      taken_is : given (departs_by (part (coming 0 placed))) ≡ outcome (amended m a)
      unfolding amended
      taken_is =
          ap (λ (x : Scheduler). given (advanced_by (part (coming 0 placed)) x)) passes_are
          ∙ answered_stored after_passes (sym (compressed_length placed.settings placed.clock placed.jobs))

      pub taken_held : given (departs_by (part own)) ≡ outcome (call m (amend a))
      unfolding call
      taken_held = ap (λ (x : Own). given (departs_by (part x))) took.1 ∙ taken_is ∙ rw took.0

  pub refused_is : accepts own.refusal ≡ false → outcome (refuse m own.refusal) ≡ outcome (call m (amend a))
  unfolding call
  refused_is n =
      let o = own_refused m (in_place_refusal m a) (coming 0 placed) refl n in
      ap (λ (x : Own). outcome (refuse m x.refusal)) o.1 ∙ rw o.0
