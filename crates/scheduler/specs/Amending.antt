-- Corrected orders (document 02, No. 13: "A photographer finds two frames too many and sends a corrected order naming a waiting ticket"): which job
-- an order names, its own refusals, whether it grows, and the record that it supersedes in place. It is the same for both kinds.
-- Assumes nothing.
use Rattle.std.specs.Prelude.{Bool, not, ◌&&◌, ◌||◌, cond, [], ◌∷◌, map, ℕ, ltb}
use Rattle.std.proofs.Math.Option.{Option, none, some}
use Rattle.lists.specs.Lists.{first, any}
use Rattle.scheduler.specs.declared.Job.{Job}
use Rattle.scheduler.specs.declared.Settings.{Settings}
use Rattle.scheduler.specs.declared.Submission.{Submission}
use Rattle.scheduler.specs.declared.Amendment.{Amendment}
use Rattle.scheduler.specs.declared.Refusal.{Refusal}
use Rattle.scheduler.specs.declared.Refusal.TheVariants as refusal
use Rattle.scheduler.specs.declared.Departure.TheVariants.{Cancel}
use Rattle.scheduler.specs.Limits.{outside}
use Rattle.scheduler.specs.Jobs.{departs_as}
use Rattle.scheduler.specs.Settings.{longest, run_time}
use Rattle.scheduler.specs.Model.{Model, with_model_jobs}
use Rattle.scheduler.specs.Answers.{verdict}

-- "naming a waiting ticket": the job that a withdrawal of that ticket would take
abbrev pub names : Amendment → Job → Bool
names a j = departs_as Cancel a.ticket j

abbrev pub named : Model → Amendment → Option Job
named m a = first (names a) m.jobs

-- "Checks: 11 for the named ticket, then 1, 2 and 19"
unfoldable pub amend_refusal : Model → Amendment → Refusal
amend_refusal m a =
    verdict
    ((not (any (names a) m.jobs), refusal.NotWaiting)
    ∷ (outside 1 m.settings.nodes a.nodes, refusal.NodesOutOfRange)
    ∷ (outside 1 (longest m.settings) a.estimate, refusal.MinutesOutOfRange)
    ∷ (ltb a.estimate a.least, refusal.LeastAboveMost)
    ∷ [])

-- "If neither nodes nor held time grow": an estimate may, within its held time, and so may the least
abbrev pub grows : Settings → Amendment → Job → Bool
grows S a j = ltb j.nodes a.nodes || ltb (run_time S j.estimate) (run_time S a.estimate)

-- ## In place

-- "it supersedes that record in place and keeps its promise, or on the Loose Desk its intake minute, r and forecast"; "The house is kept". It
-- waits on under its ticket, and where it was planned
abbrev pub superseded : Amendment → Job → Job
superseded a j = record {
  ticket = j.ticket;
  nodes = a.nodes;
  estimate = a.estimate;
  state = j.state;
  tenant = j.tenant;
  least = a.least;
  rank = j.rank;
  start = j.start;
  promise = j.promise;
  end = j.end;
  submitted = j.submitted;
  forecast = j.forecast;
}

abbrev pub supersede : Amendment → Job → Job
supersede a j = cond (names a j) (superseded a j) j

-- before anybody moves
abbrev pub in_place_of : Model → Amendment → Model
in_place_of m a = with_model_jobs m (map (supersede a) m.jobs)

-- "the answer gives ticket and promise as intake's does": the promise that is kept
abbrev pub kept_promise : Option Job → ℕ
kept_promise none = 0
kept_promise (some j) = j.promise

-- The job that it names grows by it. That is no change in place, and is refused as one. No caller sees this refusal: an order that grows is
-- withdrawn and taken in anew (`amended` in crates/amend_rules/specs/Amending.antt)
abbrev pub growing : Model → Amendment → Bool
growing m a = any (λ (j : Job). names a j && grows m.settings a j) m.jobs

unfoldable pub in_place_refusal : Model → Amendment → Refusal
in_place_refusal m a = cond (growing m a) refusal.NotWaiting (amend_refusal m a)

-- ## Anew

-- "If either grows, the old ticket is withdrawn and the order is taken in last with a new ticket": this is taken in. "The house is kept"
abbrev pub order_for : Amendment → Job → Submission
order_for a j = record { nodes = a.nodes; estimate = a.estimate; tenant = j.tenant; least = a.least }
