-- The first job that is over at its actual run length, as the code finds it: slot by slot.
-- Assumes nothing.
use Rattle.std.specs.Prelude.{◌≡◌, Bool, ◌&&◌, List, ℕ, ◌+◌, ◌≤◌, ◌<◌, eqb, ltb, get_or}
use Rattle.std.proofs.Math.Option.{none, some}
use Rattle.lists.specs.Lists.{first}
use Rattle.scheduler.specs.declared.Job.{Job}
use Rattle.scheduler.specs.declared.Scheduler.{Scheduler}
use Rattle.scheduler.specs.Limits.{slots}
use Rattle.scheduler.specs.Settings.{run_time}
use Rattle.scheduler.specs.Jobs.{unused, is_running}
use Rattle.season_rules.specs.Season.{of_ticket}

-- by the actual run lengths noted under tickets
abbrev pub over_now : List ℕ → Scheduler → Job → Bool
over_now xs d j =
    let a = of_ticket xs j.ticket in is_running j && (ltb a (run_time d.settings j.estimate) && eqb (j.start + a) d.clock)

pub record Ending (xs : List ℕ) (d : Scheduler) (r : ℕ) : Type 0 where
  pub found : r < slots → first (over_now xs d) d.jobs ≡ some (get_or d.jobs r unused)
  pub nowhere : slots ≤ r → first (over_now xs d) d.jobs ≡ none
