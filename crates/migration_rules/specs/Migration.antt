-- From EASY backfilling to conservative backfilling while jobs run (document 02, No. 12: "From the Loose Desk to the new one").
-- Assumes nothing.
use Rattle.std.specs.Prelude.{cond, List, [], ◌∷◌, map, ℕ}
use Rattle.lists.specs.Lists.{keep}
use Rattle.scheduler.specs.declared.Kind.{Kind}
use Rattle.scheduler.specs.declared.Kind.TheVariants.{Conservative, Easy}
use Rattle.scheduler.specs.declared.Job.{Job}
use Rattle.scheduler.specs.declared.Settings.{Settings}
use Rattle.scheduler.specs.declared.Submission.{Submission}
use Rattle.scheduler.specs.Jobs.{is_waiting, is_holding, fresh}
use Rattle.scheduler.specs.Model.{Model, with_model_jobs}
use Rattle.conservative_rules.specs.Conservative.{planned, state_at}

-- all that an opening fixed stays, except the rules
abbrev pub promise_settings : Settings → Settings
promise_settings S = record {
  kind = Conservative;
  nodes = S.nodes;
  cleanup = S.cleanup;
  quota_a = S.quota_a;
  quota_b = S.quota_b;
  longest = S.longest;
}

-- "Running and clearing stacks keep starts, now their promises, and ends"; minute and rank at intake and forecast, which EASY's records alone have, are 0
abbrev pub kept : Job → Job
kept j = record {
  ticket = j.ticket;
  nodes = j.nodes;
  estimate = j.estimate;
  state = j.state;
  tenant = j.tenant;
  least = j.least;
  rank = 0;
  start = j.start;
  promise = j.start;
  end = j.end;
  submitted = 0;
  forecast = 0;
}

-- what was asked for it
abbrev pub asked_for : Job → Submission
asked_for j = record { nodes = j.nodes; estimate = j.estimate; tenant = j.tenant; least = j.least }

-- a waiting one that is planned for s, as an intake would leave it: s is its promise, and it starts if that is now. It keeps its ticket
abbrev pub promised : (now s : ℕ) → Job → Job
promised now s j = fresh j.ticket (asked_for j) (state_at now s) s s

-- "by the Promise Desk's intake rule": the start that an intake of the same would be promised, where these are planned already
abbrev pub planned_among : Model → List Job → Job → ℕ
planned_among m done j = planned (with_model_jobs m done) (asked_for j)

-- "waiting ones are planned in ticket order": `done` are all that hold nodes, and those that have been planned
unfoldable pub replanned : Model → List Job → List Job → List Job
replanned m done [] = []
replanned m done (j ∷ js) =
    let k : Job = promised m.clock (planned_among m done j) j in
    let later = replanned m (k ∷ done) js in
    let same = replanned m done js in
    cond (is_waiting j) (k ∷ later) (kept j ∷ same)

-- "Tickets and clock go on."
abbrev pub promise_model : Model → Model
promise_model m = record { settings = promise_settings m.settings; clock = m.clock; next = m.next; jobs = [] }

unfoldable pub migrated : Model → Model
migrated m = with_model_jobs (promise_model m) (replanned (promise_model m) (map kept (keep is_holding m.jobs)) m.jobs)

-- a conservative scheduler is there already
abbrev pub changed_by : Kind → Model → Model
changed_by Conservative m = m
changed_by Easy m = migrated m

abbrev pub changed : Model → Model
changed m = changed_by m.settings.kind m
