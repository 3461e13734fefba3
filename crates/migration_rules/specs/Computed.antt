-- Document 02, No. 12, computed from the definitions: the change in vectors/request-12/rack-1.
-- Assumes nothing.
use Rattle.std.specs.Prelude.{◌≡◌, refl, List, [], ◌∷◌, map, ℕ}
use Rattle.spans.specs.Spans as spans
use Rattle.scheduler.specs.declared.Kind.TheVariants.{Easy}
use Rattle.scheduler.specs.declared.State.{State}
use Rattle.scheduler.specs.declared.State.TheVariants.{Waiting, Running, Cleanup}
use Rattle.scheduler.specs.declared.Tenant.TheVariants.{A, B}
use Rattle.scheduler.specs.declared.Job.{Job}
use Rattle.scheduler.specs.Jobs.{fresh, entered, foretold, cleaning}
use Rattle.scheduler.specs.Settings as times
use Rattle.scheduler.specs.Model.{Model}
use Rattle.history.specs.Calls.{order_of}
use Rattle.conservative_rules.specs.Conservative.{planned}
use Rattle.migration_rules.specs.Migration.{replanned, migrated}

-- 5 nodes, with 5 minutes of cleanup; at minute 15 one job runs on all of them, and three wait
abbrev before : List Job → Model
before js = record {
  settings = record { kind = Easy; nodes = 5; cleanup = 5; quota_a = 32; quota_b = 32; longest = 10080 };
  clock = 15;
  next = 7;
  jobs = js;
}

abbrev three_wait : Model
three_wait = before (
    fresh 3 (order_of A 5 4) Running 15 0
    ∷ fresh 4 (order_of B 3 3) Waiting 0 0
    ∷ fresh 5 (order_of B 1 10) Waiting 0 0
    ∷ fresh 6 (order_of B 3 9) Waiting 0 0
    ∷ [])

-- one is in cleanup since 12, and keeps its end
abbrev cleared : Model
cleared = before (fresh 4 (order_of B 4 8) Waiting 0 0 ∷ cleaning 12 (fresh 5 (order_of A 5 4) Running 8 0) ∷ [])

-- with minute and rank at intake, and the head's forecast
abbrev ranked : Model
ranked = before (foretold 15 (entered 14 1 (fresh 3 (order_of A 5 4) Running 15 0)) ∷ foretold 25 (entered 15 1 (fresh 4 (order_of B 3 3) Waiting 0 0)) ∷ [])

abbrev noted : Model → List (ℕ × ℕ × ℕ)
noted m = map (λ (j : Job). (j.submitted, j.rank, j.forecast)) m.jobs

abbrev told : Model → List (ℕ × ℕ × ℕ)
told m = map (λ (j : Job). (j.start, j.promise, j.end)) m.jobs

abbrev states : Model → List State
states m = map (λ (j : Job). j.state) m.jobs

pub examples : (told (migrated three_wait) ≡ (15, 15, 0) ∷ (25, 25, 0) ∷ (25, 25, 0) ∷ (35, 35, 0) ∷ [])
    × (states (migrated three_wait) ≡ Running ∷ Waiting ∷ Waiting ∷ Waiting ∷ [])
    × ((migrated three_wait).next ≡ 7)
    × (told (migrated cleared) ≡ (17, 17, 0) ∷ (8, 8, 12) ∷ [])
    × (states (migrated cleared) ≡ Waiting ∷ Cleanup ∷ [])
    × (told (migrated ranked) ≡ (15, 15, 0) ∷ (25, 25, 0) ∷ [])
    × (noted (migrated ranked) ≡ (0, 0, 0) ∷ (0, 0, 0) ∷ [])
unfolding times.cleanup times.run_time times.hold_time times.until spans.takes spans.last_end spans.fits spans.earliest planned replanned migrated
examples = (refl, refl, refl, refl, refl, refl, refl)
