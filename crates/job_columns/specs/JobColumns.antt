-- The live jobs in lent lists of numbers, a column for each field, in ticket order.
-- Assumes nothing.
use Rattle.std.specs.Prelude.{ℕ, ◌≡◌, cond, List, eqb, length}
use Rattle.scheduler.specs.declared.State.{State}
use Rattle.scheduler.specs.declared.State.TheVariants.{Unused, Waiting, Running, Cleanup}
use Rattle.scheduler.specs.declared.Settings.{Settings}
use Rattle.scheduler.specs.declared.Job.{Job}
use Rattle.scheduler.specs.Tenants.{number}
use Rattle.scheduler.specs.Jobs.{is_waiting, is_cleaning}
use Rattle.scheduler.specs.Settings.{hold_time, end_of, until}
use Rattle.scheduler.specs.Table.{ticket_of}
use Rattle.job_columns.specs.Columns.{Column, nodes_of, estimate_of}

-- ## What a column has of a job

-- its state as a number
abbrev pub state_number : State → ℕ
state_number Unused = 0
state_number Waiting = 1
state_number Running = 2
state_number Cleanup = 3

abbrev pub state_of : Job → ℕ
state_of j = state_number j.state

abbrev pub tenant_of : Job → ℕ
tenant_of j = number j.tenant

abbrev pub start_of : Job → ℕ
start_of j = j.start

abbrev pub least_of : Job → ℕ
least_of j = j.least

abbrev pub promise_of : Job → ℕ
promise_of j = j.promise

abbrev pub submitted_of : Job → ℕ
submitted_of j = j.submitted

abbrev pub rank_of : Job → ℕ
rank_of j = j.rank

abbrev pub forecast_of : Job → ℕ
forecast_of j = j.forecast

-- a minute that no clock reaches
abbrev pub never : ℕ
never = 4000000

-- the minute in which something happens to it next: it starts, its run ends, or its nodes are free. A waiting job of EASY has no planned start
abbrev pub due_of : Settings → Job → ℕ
due_of S j = cond (is_waiting j) (cond (eqb j.start 0) never j.start) (cond (is_cleaning j) (until S j) (end_of S j))

-- for how long it holds its nodes
abbrev pub hold_of : Settings → Job → ℕ
hold_of S j = hold_time S j.estimate

-- ## The columns of both kinds

-- these lists are the columns of these jobs
pub record JobColumns (S : Settings) (js : List Job) (tickets nodes states dues starts tenants estimates leasts : List ℕ) (live : ℕ) : Type 0 where
  pub live_is : length js ≡ live
  pub tickets_are : Column ticket_of js tickets
  pub nodes_are : Column nodes_of js nodes
  pub states_are : Column state_of js states
  pub dues_are : Column (due_of S) js dues
  pub starts_are : Column start_of js starts
  pub tenants_are : Column tenant_of js tenants
  pub estimates_are : Column estimate_of js estimates
  pub leasts_are : Column least_of js leasts

-- ## The columns of every field

pub record AllColumns (S : Settings) (js : List Job) (tickets nodes states dues starts tenants estimates leasts promises submitted ranks forecasts : List ℕ)
    (live : ℕ) : Type 0 where
  pub core : JobColumns S js tickets nodes states dues starts tenants estimates leasts live
  pub promises_are : Column promise_of js promises
  pub submitted_are : Column submitted_of js submitted
  pub ranks_are : Column rank_of js ranks
  pub forecasts_are : Column forecast_of js forecasts
