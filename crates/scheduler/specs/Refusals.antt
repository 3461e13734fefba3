-- The conditions of refusals that both kinds share, in document 01's order ("When a desk says no").
-- Assumes nothing.
use Rattle.std.specs.Prelude.{Bool, not, cond, ◌&&◌, List, [], ◌∷◌, ℕ, suc, ◌+◌, leb, ltb}
use Rattle.lists.specs.Lists.{any}
use Rattle.scheduler.specs.declared.Refusal.{Refusal}
use Rattle.scheduler.specs.declared.Refusal.TheVariants as refusal
use Rattle.scheduler.specs.declared.Settings.{Settings}
use Rattle.scheduler.specs.declared.Job.{Job}
use Rattle.scheduler.specs.declared.Departure.{Departure}
use Rattle.scheduler.specs.declared.Departure.TheVariants.{Complete, Cancel}
use Rattle.scheduler.specs.declared.Submission.{Submission}
use Rattle.scheduler.specs.declared.Select.TheVariants as select
use Rattle.scheduler.specs.Limits.{longest_wait, last_ticket, outside}
use Rattle.scheduler.specs.Jobs.{too_early, picks}
use Rattle.scheduler.specs.Settings.{horizon, quota, longest}
use Rattle.scheduler.specs.Tenants.{known}
use Rattle.scheduler.specs.Table.{live_of}
use Rattle.scheduler.specs.Model.{Model}
use Rattle.scheduler.specs.Answers.{Result, verdict, accepts, refuse}

-- a call that no test refuses has its outcome; a refused one changes nothing
abbrev pub judged : Model → Refusal → Result → Result
judged m r o = cond (accepts r) o (refuse m r)

-- of a submission, by what they look at: "intake 1, 2, .. 5" and what the kind adds. 1: "stack nodes 0 or above the rack's"; 2:
-- "estimate outside 1 to 10,080"; 5: "ticket 999,999 has been given". Document 02, No. 4: 14, "a house other than A or B, first at
-- intake"; 15, "the house's places are all live, in place of 4"; `live` are the live jobs of the submission's tenant. No. 7: 19, "least
-- above most, after 2"
abbrev pub tests_by : Settings → (live next : ℕ) → Submission → List (Bool × Refusal) → List (Bool × Refusal)
tests_by S live next o more =
    (not (known o.tenant), refusal.UnknownTenant)
    ∷ (outside 1 S.nodes o.nodes, refusal.NodesOutOfRange)
    ∷ (outside 1 (longest S) o.estimate, refusal.MinutesOutOfRange)
    ∷ (ltb o.estimate o.least, refusal.LeastAboveMost)
    ∷ (leb (quota S o.tenant) live, refusal.QuotaFull)
    ∷ (ltb last_ticket next, refusal.NoTicketLeft)
    ∷ more

abbrev pub submit_tests : Model → Submission → List (Bool × Refusal) → List (Bool × Refusal)
submit_tests m o more = tests_by m.settings (live_of o.tenant m.jobs) m.next o more

-- 7: "the ended ticket is not running: waiting, over or never given"; 11: "the withdrawn ticket is not waiting"
abbrev pub not_there_of : Departure → Refusal
not_there_of Complete = refusal.NotRunning
not_there_of Cancel = refusal.NotWaiting

-- document 02, No. 7: 20, "an end before the least, after 7"
abbrev pub departs_early : (now : ℕ) → Departure → ℕ → Job → Bool
departs_early now h t j = picks (select.Departing h t) j && too_early now h j

unfoldable pub depart_refusal : Model → Departure → ℕ → Refusal
depart_refusal m h t =
    verdict
    ((not (any (picks (select.Departing h t)) m.jobs), not_there_of h)
    ∷ (any (departs_early m.clock h t) m.jobs, refusal.BeforeLeast)
    ∷ [])

-- 6: "Step or `wait`: the clock would pass it"
unfoldable pub tick_refusal : Model → Refusal
tick_refusal m = verdict ((ltb (horizon m.settings) (suc m.clock), refusal.PastHorizon) ∷ [])

-- 2: "`wait` outside 1 to 10,080"; 6 as above
unfoldable pub wait_refusal : Model → ℕ → Refusal
wait_refusal m n =
    verdict
    ((outside 1 longest_wait n, refusal.MinutesOutOfRange)
    ∷ (ltb (horizon m.settings) (m.clock + n), refusal.PastHorizon)
    ∷ [])
