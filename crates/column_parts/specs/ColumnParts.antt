-- The part that a call does on the columns of both kinds: what it is lent, and what it gives by the definitions of `job_table`.
-- Assumes nothing.
use Rattle.std.specs.Prelude.{ℕ, suc, ◌-◌, ◌≤◌, ◌≡◌, Bool, true, ◌&&◌, List, eqb, length, take}
use Rattle.lists.specs.Lists.{keep}
use Rattle.scheduler.specs.declared.Settings.{Settings}
use Rattle.scheduler.specs.declared.Job.{Job}
use Rattle.scheduler.specs.declared.Departure.{Departure}
use Rattle.scheduler.specs.declared.Select.{Select}
use Rattle.scheduler.specs.declared.Select.TheVariants as select
use Rattle.scheduler.specs.Limits.{horizon}
use Rattle.scheduler.specs.Settings.{cleanup}
use Rattle.scheduler.specs.Jobs.{is_waiting}
use Rattle.scheduler.specs.Table.{staying}
use Rattle.scheduler.specs.Model.{Model, ending}
use Rattle.scheduler.specs.Answers.{accepts}
use Rattle.jobs.specs.Soundness.{Sound}
use Rattle.job_table.specs.Parts.{Own, leaving, departing}
use Rattle.job_columns.specs.Removal.{removes, Places}
use Rattle.job_columns.specs.Columns.{Whole}
use Rattle.job_columns.specs.JobColumns.{due_of, JobColumns}
use Rattle.column_parts.specs.Counted.{Left}
use Rattle.column_parts.specs.Counted.{Expired}

-- ## Numbers in lent lists

-- the first numbers of a list, so many, are these
pub record Listing (ts list : List ℕ) (count : ℕ) : Type 0 where
  pub whole : Whole list
  pub count_is : count ≡ length ts
  pub first_are : take count list ≡ ts

-- the jobs that leave stood in the first places of this list, one after another; before them so many were live, and so many are after them
pub record Gone (S : Settings) (s : Select) (js : List Job) (gone : List ℕ) (live left : ℕ) : Type 0 where
  pub fewer : left ≤ live
  pub places : Places live (take (live - left) gone)
  pub stay : removes (take (live - left) gone) js ≡ staying S s js

-- ## A job leaves on request

-- the columns are those of a sound model
pub record SoundColumns (S : Settings) (clock : ℕ) (tickets nodes states dues starts tenants estimates leasts : List ℕ) (live : ℕ) : Type 0 where
  pub model : Model
  pub sound : Sound model
  pub settings_is : S ≡ model.settings
  pub clock_is : clock ≡ model.clock
  pub columns : JobColumns model.settings model.jobs tickets nodes states dues starts tenants estimates leasts live

-- what an early completion or a withdrawal gives. Places are listed only where it is not refused
pub record Leaves (m : Model) (h : Departure) (t live : ℕ) (r : Left) (ended gone : List ℕ)
    (tickets nodes states dues starts tenants estimates leasts : List ℕ) : Type 0 where
  pub refusal_is : r.refusal ≡ (departing m h t).refusal
  pub withdrawn_is : r.withdrawn ≡ (departing m h t).withdrawn
  pub ended_are : Listing (departing m h t).ended ended r.ended
  pub columns : JobColumns m.settings (departing m h t).model.jobs tickets nodes states dues starts tenants estimates leasts r.live
  pub gone_whole : Whole gone
  pub gone_are : accepts r.refusal ≡ true → Gone m.settings (select.Departing h t) m.jobs gone live r.live

-- ## A minute passes

-- the columns are those of a sound model, and this is the minute after its clock
pub record MinuteColumns (minute clearing : ℕ) (tickets nodes states dues starts tenants estimates leasts : List ℕ) (live : ℕ) : Type 0 where
  pub model : Model
  pub sound : Sound model
  pub minute_is : minute ≡ suc model.clock
  pub in_time_lem : minute ≤ horizon
  pub clearing_is : clearing ≡ cleanup model.settings
  pub columns : JobColumns model.settings model.jobs tickets nodes states dues starts tenants estimates leasts live

-- it waits and is to start in this minute
abbrev pub starts_in : Settings → ℕ → Job → Bool
starts_in S t j = is_waiting j && eqb (due_of S j) t

-- what a tick gives that is not refused
abbrev pub elapsed : Model → Own
elapsed m = leaving m (suc m.clock) (ending m) 0

pub record Expires (m : Model) (live : ℕ) (r : Expired) (ended gone : List ℕ)
    (tickets nodes states dues starts tenants estimates leasts : List ℕ) : Type 0 where
  pub ended_are : Listing (elapsed m).ended ended r.ended
  pub columns : JobColumns m.settings (elapsed m).model.jobs tickets nodes states dues starts tenants estimates leasts r.live
  pub gone_whole : Whole gone
  pub gone_are : Gone m.settings (ending m) m.jobs gone live r.live
  pub starting_is : r.starting ≡ length (keep (starts_in m.settings (suc m.clock)) m.jobs)
