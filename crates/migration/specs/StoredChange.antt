-- The change leaves unused slots as they are: over the slots of a stored model it is the one over its jobs.
-- Assumes nothing.
use Rattle.std.specs.Prelude.{◌≡◌, length, replicate}
use Rattle.std.proofs.Math.Path.{refl, ap}
use Rattle.std.proofs.Common.{sym, subst, ◌∙◌}
use mathlib.Core.List.{List, [], ◌∷◌, ◌++◌}
use Prim.Native.Nat.{ℕ, zero, suc, ◌-◌}
use Rattle.lists.specs.Tests.{case}
use Rattle.lists.specs.Pads.{pad}
use Rattle.scheduler.specs.declared.Job.{Job}
use Rattle.scheduler.specs.Limits.{slots}
use Rattle.scheduler.specs.Jobs.{unused, is_waiting}
use Rattle.scheduler.specs.Model.{Model, store}
use Rattle.conservative_plan.specs.PlannedSlots.{Slots, valid_planned, planned_slots}
use Rattle.easy_laws.specs.Validity.{Valid}
use Rattle.migration_rules.specs.Migration.{promise_settings, promise_model, promised, planned_among, replanned, migrated}
use Rattle.migration_laws.specs.Holders.{holders}
use Rattle.migration_laws.specs.Migrated.{migrated_valid}

module _ (m : Model) where
  none_replanned : (k : ℕ) (done : List Job) → replanned m done (replicate k unused) ≡ replicate k unused
  unfolding replanned
  none_replanned zero done = refl
  none_replanned (suc k) done = ap (λ (l : List Job). unused ∷ l) (none_replanned k done)

  replanned_append : (k : ℕ) (done js : List Job) → replanned m done (js ++ replicate k unused) ≡ replanned m done js ++ replicate k unused
  unfolding replanned
  replanned_append k done [] = none_replanned k done
  replanned_append k done (j ∷ js) =
      let new : Job = promised m.clock (planned_among m done j) j in
      case (is_waiting j) (λ w. rw (w, replanned_append k (new ∷ done) js)) (λ w. rw (w, replanned_append k done js))

  replanned_length : (done js : List Job) → length (replanned m done js) ≡ length js
  unfolding replanned
  replanned_length done [] = refl
  replanned_length done (j ∷ js) =
      let new : Job = promised m.clock (planned_among m done j) j in
      case (is_waiting j) (λ w. rw (w, replanned_length (new ∷ done) js)) (λ w. rw (w, replanned_length done js))

-- the slots after the change
abbrev pub slots_after : Model → List Job
slots_after m = replanned (promise_model m) (holders m) (store m).jobs

pub stored_change : (m : Model) → (store (migrated m)).jobs ≡ slots_after m
unfolding store pad migrated
stored_change m =
    ap (λ (n : ℕ). replanned (promise_model m) (holders m) m.jobs ++ replicate (slots - n) unused) (replanned_length (promise_model m) (holders m) m.jobs)
    ∙ sym (replanned_append (promise_model m) (slots - length m.jobs) (holders m) m.jobs)

-- they fit the machine
pub after_fits : (m : Model) → Valid m → Slots (promise_settings m.settings) m.clock (slots_after m)
unfolding migrated
after_fits m v =
    subst (Slots (promise_settings m.settings) m.clock) (stored_change m) (planned_slots (migrated m) (valid_planned (migrated m) (migrated_valid m v)))
