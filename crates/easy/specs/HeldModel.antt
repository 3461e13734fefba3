-- A scheduler that holds what is ready or valid, or is stored from it.
-- Assumes nothing.
use Rattle.std.specs.Prelude.{◌≡◌}
use Rattle.scheduler.specs.declared.Scheduler.{Scheduler}
use Rattle.scheduler.specs.Model.{Model, store, view, view_store}
use Rattle.jobs.specs.Soundness.{Sound, all_live}
use Rattle.jobs.specs.Premise.{Holds, holds_as, store_holds}
use Rattle.easy_laws.specs.Validity.{Ready, Valid}

pub sound_of : (d : Scheduler) → Holds Ready d → Holds Sound d
sound_of d h = holds_as Ready Sound d (λ m r. r.sound) h

pub valid_sound : (d : Scheduler) → Holds Valid d → Holds Sound d
valid_sound d h = holds_as Valid Sound d (λ m v. v.ready.sound) h

pub stored_ready : (m : Model) → Ready m → Holds Ready (store m)
stored_ready m r = store_holds Ready m (all_live m r.sound) r

pub stored_view : (m : Model) → Ready m → view (store m) ≡ m
stored_view m r = view_store m (all_live m r.sound)
