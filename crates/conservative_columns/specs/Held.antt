-- What the lists say, over the structs that have them.
-- Assumes nothing.
use Rattle.std.specs.Prelude.{ℕ, ◌<◌, List, get_or, set}
use Rattle.spans.specs.declared.Span.{Span}
use Rattle.scheduler.specs.declared.Settings.{Settings}
use Rattle.scheduler.specs.declared.Job.{Job}
use Rattle.scheduler.specs.declared.Submission.{Submission}
use Rattle.scheduler.specs.Jobs.{unused}
use Rattle.scheduler.specs.Answers.{Result}
use Rattle.job_columns.specs.declared.Columns.{Columns}
use Rattle.job_columns.specs.JobColumns.{JobColumns}
use Rattle.column_parts.specs.declared.Told.{Told}
use Rattle.column_parts.specs.Held.{told_with}
use Rattle.conservative_rules.specs.Conservative.{placed}
use Rattle.conservative_columns.specs.declared.Promised.{Promised}
use Rattle.conservative_columns.specs.declared.Profile.{Profile}
use Rattle.conservative_columns.specs.ConservativeColumns.{KeptColumns, Answered}
use Rattle.conservative_columns.specs.Submit.{Admits}
use Rattle.conservative_columns.specs.Passes.{Placeable, Passing}
use Rattle.conservative_columns.specs.MovingUp.{MovesUp, MovedTo}
use Rattle.conservative_columns.specs.Due.{Starting}

-- ## The calls

-- the one premise of a call
abbrev pub KeptIn : Settings → (clock next : ℕ) → Columns → Promised → Profile → Type 0
KeptIn S clock next c p f =
    KeptColumns S clock next c.tickets c.nodes c.states c.dues c.starts c.tenants c.estimates c.leasts p.holds p.promises f.minutes f.free f.low f.high c.live f.count

-- no test refuses the submission, and this start has been found
abbrev pub AdmitsIn : Settings → (clock next : ℕ) → Columns → Promised → Profile → Submission → (start hold : ℕ) → Type 0
AdmitsIn S clock next c p f o start hold =
    Admits S clock next c.tickets c.nodes c.states c.dues c.starts c.tenants c.estimates c.leasts p.holds p.promises f.minutes f.free f.low f.high c.live f.count
    o start hold

-- what a call answers, and the columns after it
abbrev pub AnsweredIn : Result → Told → (ended started : List ℕ) → Columns → Promised → Profile → Type 0
AnsweredIn a r ended started c p f =
    Answered a (told_with r c.live f.count 0 0) ended started c.tickets c.nodes c.states c.dues c.starts c.tenants c.estimates c.leasts p.holds p.promises f.minutes f.free f.low f.high

-- ## Its parts

-- a waiting job comes from one start to another, whatever the other columns are
abbrev pub PlacesIn : (at from to run clock : ℕ) → (before after : Columns) → Type 0
PlacesIn at from to run clock a b =
    (S : Settings) (js : List Job) (tickets nodes tenants estimates leasts : List ℕ) (live : ℕ)
    → JobColumns S js tickets nodes a.states a.dues a.starts tenants estimates leasts live → at < live → Placeable S js at from to run clock
    → JobColumns S (set js at (placed clock to (get_or js at unused))) tickets nodes b.states b.dues b.starts tenants estimates leasts live

-- passes can go over the jobs
abbrev pub PassingIn : Columns → (holds ms fs : List ℕ) → (n clock clear : ℕ) → Type 0
PassingIn c holds ms fs n clock clear = Passing c.nodes c.states holds c.dues c.starts ms fs c.live n clock clear

-- and the points are their profile once this span is taken out of them
abbrev pub MovesUpIn : Columns → (holds : List ℕ) → Profile → Span → (clock clear : ℕ) → Type 0
MovesUpIn c holds f x clock clear =
    MovesUp c.tickets c.nodes c.states c.dues c.starts holds f.minutes f.free f.low f.high c.live f.count x clock clear

-- whoever waits has moved up
abbrev pub MovedIn : {tickets nodes states dues starts holds ms fs lo hi : List ℕ} {live n : ℕ} {x : Span} {clock clear : ℕ}
    → MovesUp tickets nodes states dues starts holds ms fs lo hi live n x clock clear → (begun : ℕ) → Columns → (started : List ℕ) → Profile → Type 0
MovedIn q begun c started f =
    MovedTo q (record { count = f.count; started = begun }) c.states c.dues c.starts started f.minutes f.free f.low f.high

-- the jobs that are due in this minute are to start
abbrev pub StartingIn : Columns → (holds : List ℕ) → (starting minute clear : ℕ) → Type 0
StartingIn c holds starting minute clear = Starting c.tickets c.states holds c.dues c.starts c.live starting minute clear
