-- The earliest possible start of a waiting job, for either kind (document 02, No. 7: "soonest minute").
-- Assumes nothing.
use Rattle.std.specs.Prelude.{cond, map, ℕ, ◌+◌, max}
use Rattle.std.proofs.Math.Option.{none, some}
use Rattle.lists.specs.Lists.{first}
use Rattle.scheduler.specs.declared.Departure.TheVariants.{Cancel}
use Rattle.scheduler.specs.declared.Earliest.{Earliest}
use Rattle.scheduler.specs.declared.Job.{Job}
use Rattle.scheduler.specs.declared.Refusal.TheVariants as refusal
use Rattle.scheduler.specs.Jobs.{is_running, departs_as, cleaning}
use Rattle.scheduler.specs.Model.{Model, with_model_jobs}
use Rattle.easy_rules.specs.Easy.{shadow, on_choice}

-- "if every running stack ended at its least, or now if that is past, followed by clearing": its run is over then
abbrev pub over_at_least : (now : ℕ) → Job → Job
over_at_least now j = cond (is_running j) (cleaning (max now (j.start + j.least)) j) j

abbrev pub at_least : Model → Model
at_least m = with_model_jobs m (map (over_at_least m.clock) m.jobs)

-- "the smallest, now or later, at which its nodes would be free .. and no waiting one were there": EASY's shadow then, which counts the nodes
-- free now and those of jobs that run or are in cleanup, and no waiting ones
abbrev pub earliest_for : Model → (nodes : ℕ) → ℕ
earliest_for m n = shadow (at_least m) n

-- "For a waiting ticket (11 if it is not)"
unfoldable pub earliest_start : Model → ℕ → Earliest
earliest_start m t =
    on_choice (first (departs_as Cancel t) m.jobs) (record { refusal = refusal.NotWaiting; minute = 0 }) λ j.
    record { refusal = refusal.None; minute = earliest_for m j.nodes }
