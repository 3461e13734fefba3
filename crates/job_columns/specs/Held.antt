-- What the lists say, over the struct that has them.
-- Assumes nothing.
use Rattle.std.specs.Prelude.{ℕ, ◌<◌, ◌≡◌, List, get_or, set}
use Rattle.std.proofs.Common.{ap, sym, subst, ◌∙◌}
use Rattle.scheduler.specs.declared.State.TheVariants.{Running}
use Rattle.scheduler.specs.declared.Settings.{Settings}
use Rattle.scheduler.specs.declared.Job.{Job}
use Rattle.scheduler.specs.Jobs.{unused, job_at, cleaning}
use Rattle.scheduler.specs.Settings.{run_time, cleanup}
use Rattle.job_columns.specs.declared.Columns.{Columns}
use Rattle.job_columns.specs.JobColumns.{JobColumns, AllColumns}
use Rattle.job_columns.specs.Gathering.{Blanks, RowFits, SchedulerColumns}

-- the columns of these jobs
abbrev pub ColumnsOf : Settings → List Job → Columns → Type 0
ColumnsOf S js c = JobColumns S js c.tickets c.nodes c.states c.dues c.starts c.tenants c.estimates c.leasts c.live

-- with those of the fields that only one kind keeps
abbrev pub FieldsOf : Settings → List Job → Columns → (promises submitted ranks forecasts : List ℕ) → Type 0
FieldsOf S js c promises submitted ranks forecasts =
    AllColumns S js c.tickets c.nodes c.states c.dues c.starts c.tenants c.estimates c.leasts promises submitted ranks forecasts c.live

-- all 0
abbrev pub BlankColumns : Columns → (promises submitted ranks forecasts : List ℕ) → Type 0
BlankColumns c promises submitted ranks forecasts =
    Blanks c.tickets c.nodes c.states c.dues c.starts c.tenants c.estimates c.leasts promises submitted ranks forecasts

-- of a sound model
abbrev pub ColumnsOfScheduler : Settings → (clock next : ℕ) → Columns → (promises submitted ranks forecasts : List ℕ) → Type 0
ColumnsOfScheduler S clock next c promises submitted ranks forecasts =
    SchedulerColumns S clock next c.tickets c.nodes c.states c.dues c.starts c.tenants c.estimates c.leasts promises submitted ranks forecasts c.live

-- the numbers in a place fit the fields of a job
abbrev pub PlaceFits : Columns → (i clearing : ℕ) → Type 0
PlaceFits c i clearing = RowFits c.nodes c.states c.dues c.estimates c.leasts i clearing

-- ## A job begins

-- nothing but states, starts and the minutes in which jobs are due is another
abbrev pub Retimed : (before after : Columns) → Type 0
Retimed a b = b ≡ record a { states = b.states; dues = b.dues; starts = b.starts }

-- nothing but states and the minutes in which jobs are due
abbrev pub Restated : (before after : Columns) → Type 0
Restated a b = b ≡ record a { states = b.states; dues = b.dues }

pub retimed_on : (a b c : Columns) → Retimed a b → Retimed b c → Retimed a c
retimed_on a b c e f = f ∙ ap (λ (x : Columns). record x { states = c.states; dues = c.dues; starts = c.starts }) e

-- the job in this place runs from this minute on, for so many minutes, whatever the other columns are
abbrev pub BeginsIn : (at clock run : ℕ) → (before after : Columns) → Type 0
BeginsIn at clock run a b =
    (S : Settings) (js : List Job) (tickets nodes tenants estimates leasts : List ℕ) (live : ℕ)
    → JobColumns S js tickets nodes a.states a.dues a.starts tenants estimates leasts live → at < live
    → run ≡ run_time S (get_or js at unused).estimate
    → JobColumns S (set js at (job_at Running clock (get_or js at unused))) tickets nodes b.states b.dues b.starts tenants estimates leasts live

-- ## A run ends

-- the job in this place is in cleanup from this minute on, whatever the other columns are
abbrev pub CleansIn : (at clock clearing : ℕ) → (before after : Columns) → Type 0
CleansIn at clock clearing a b =
    (S : Settings) (js : List Job) (tickets nodes starts tenants estimates leasts : List ℕ) (live : ℕ)
    → JobColumns S js tickets nodes a.states a.dues starts tenants estimates leasts live → at < live
    → clearing ≡ cleanup S
    → JobColumns S (set js at (cleaning clock (get_or js at unused))) tickets nodes b.states b.dues starts tenants estimates leasts live

-- so the struct has the columns of the jobs with this one in cleanup
pub cleaned_on : (at clock clearing : ℕ) (a b : Columns) → CleansIn at clock clearing a b → Restated a b
    → (S : Settings) (js : List Job) → ColumnsOf S js a → at < a.live → clearing ≡ cleanup S
    → ColumnsOf S (set js at (cleaning clock (get_or js at unused))) b
cleaned_on at clock clearing a b q e S js k l z =
    subst (λ (x : Columns). ColumnsOf S (set js at (cleaning clock (get_or js at unused))) x) (sym e)
    (q S js a.tickets a.nodes a.starts a.tenants a.estimates a.leasts a.live k l z)
