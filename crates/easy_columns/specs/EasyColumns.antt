-- The columns of a scheduler of EASY backfilling: its live jobs in ticket order, and who holds nodes, in any order.
-- Assumes nothing.
use Rattle.std.specs.Prelude.{ℕ, List}
use Rattle.scheduler.specs.declared.Job.{Job}
use Rattle.scheduler.specs.Table.{ticket_of}
use Rattle.scheduler.specs.Model.{Model}
use Rattle.job_columns.specs.Columns.{Column}
use Rattle.job_columns.specs.JobColumns.{JobColumns, submitted_of, rank_of, forecast_of}
use Rattle.easy_engine.specs.Survey.{asks, Holding}

-- what this kind keeps of each job besides
pub record QueueColumns (js : List Job) (asked submitted ranks forecasts : List ℕ) : Type 0 where
  pub asked_are : Column asks js asked
  pub submitted_are : Column submitted_of js submitted
  pub ranks_are : Column rank_of js ranks
  pub forecasts_are : Column forecast_of js forecasts

-- who holds nodes: how many, until when, and whose they are; and the nodes that are free
pub record Holders (m : Model) (held ends holders : List ℕ) (holding spare : ℕ) : Type 0 where
  pub jobs : List Job
  pub holds : Holding m jobs held ends holding spare
  pub holders_are : Column ticket_of jobs holders

-- these lists are the columns of this model
pub record EasyColumns (m : Model) (tickets nodes states dues starts tenants estimates leasts asked submitted ranks forecasts held ends holders : List ℕ)
    (live holding spare : ℕ) : Type 0 where
  pub core : JobColumns m.settings m.jobs tickets nodes states dues starts tenants estimates leasts live
  pub queue : QueueColumns m.jobs asked submitted ranks forecasts
  pub held_by : Holders m held ends holders holding spare
