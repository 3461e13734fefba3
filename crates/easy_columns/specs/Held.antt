-- What the lists say, over the structs that have them.
-- Assumes nothing.
use Rattle.std.specs.Prelude.{ℕ, ◌≡◌, List}
use Rattle.scheduler.specs.declared.Settings.{Settings}
use Rattle.scheduler.specs.declared.Submission.{Submission}
use Rattle.scheduler.specs.declared.Departure.{Departure}
use Rattle.scheduler.specs.declared.Job.{Job}
use Rattle.scheduler.specs.Model.{Model}
use Rattle.scheduler.specs.Answers.{Result}
use Rattle.job_columns.specs.declared.Columns.{Columns}
use Rattle.column_parts.specs.declared.Told.{Told}
use Rattle.easy_columns.specs.declared.Queue.{Queue}
use Rattle.easy_columns.specs.declared.Occupancy.{Occupancy}
use Rattle.column_parts.specs.Held.{told_with}
use Rattle.easy_columns.specs.EasyColumns.{QueueColumns, Holders}
use Rattle.easy_columns.specs.Sifting.{taken_out, Sift, Sifted}
use Rattle.easy_columns.specs.Starting.{Starting}
use Rattle.easy_columns.specs.Finishing.{Unfinished, Finishes}
use Rattle.easy_columns.specs.HoldersLeave.{Ending}
use Rattle.easy_columns.specs.EasyCalls.{Kept, Gives}
use Rattle.easy_columns.specs.EasySubmit.{Admits}
use Rattle.easy_columns.specs.EasyLeave.{Leaver}
use Rattle.easy_columns.specs.EasyBegin.{Beginning, Begins}

-- ## The calls

-- the one premise of a call
abbrev pub KeptIn : Columns → Queue → Occupancy → (clock next : ℕ) → Settings → Type 0
KeptIn c q o clock next S =
    Kept c.tickets c.nodes c.states c.dues c.starts c.tenants c.estimates c.leasts q.asked q.submitted q.ranks q.forecasts o.held o.ends o.holders
    c.live o.holding o.spare clock next S

-- the tests of both kinds let the submission through
abbrev pub AdmitsIn : Columns → Queue → Occupancy → (started : List ℕ) → (clock next : ℕ) → Settings → Submission → Type 0
AdmitsIn c q o started clock next S s =
    Admits c.tickets c.nodes c.states c.dues c.starts c.tenants c.estimates c.leasts q.asked q.submitted q.ranks q.forecasts o.held o.ends o.holders
    started c.live o.holding o.spare clock next S s

-- what a call answers, and the columns after it
abbrev pub GivesIn : Result → Told → (ended started : List ℕ) → Columns → Queue → Occupancy → Type 0
GivesIn a r ended started c q o =
    Gives a (told_with r c.live 0 o.holding o.spare) ended started c.tickets c.nodes c.states c.dues c.starts c.tenants c.estimates c.leasts q.asked q.submitted q.ranks q.forecasts
    o.held o.ends o.holders

-- ## Who waits

-- what this kind keeps of each job besides
abbrev pub QueueOf : List Job → Queue → Type 0
QueueOf js q = QueueColumns js q.asked q.submitted q.ranks q.forecasts

-- nothing but what is asked for and the forecasts is another
abbrev pub Reasked : (before after : Queue) → Type 0
Reasked a b = b ≡ record a { asked = b.asked; forecasts = b.forecasts }

-- ## Who holds nodes

abbrev pub HoldersIn : Model → Occupancy → Type 0
HoldersIn m o = Holders m o.held o.ends o.holders o.holding o.spare

-- the last holder takes this place
abbrev pub TakenOut : (at last : ℕ) → (before after : Occupancy) → Type 0
TakenOut at last a b = b ≡ record a { held = taken_out at last a.held; ends = taken_out at last a.ends; holders = taken_out at last a.holders }

abbrev pub SiftIn : Occupancy → Type 0
SiftIn o = Sift o.held o.ends o.holders o.holding o.spare

abbrev pub SiftedIn : (rs : List Job) → (Job → ℕ) → (minute spare : ℕ) → Occupancy → (i : ℕ) → Type 0
SiftedIn rs e minute spare o i = Sifted rs e minute spare o.held o.ends o.holders o.holding o.spare i

abbrev pub EndingIn : Occupancy → (ticket clock minutes : ℕ) → Type 0
EndingIn o ticket clock minutes = Ending o.held o.ends o.holders o.holding o.spare ticket clock minutes

abbrev pub LeaverIn : Occupancy → (clock minutes : ℕ) → Departure → (ticket : ℕ) → Type 0
LeaverIn o clock minutes h t = Leaver o.held o.ends o.holders o.holding o.spare clock minutes h t

-- ## Settling

-- those who are to start
abbrev pub StartingIn : Columns → (order started ends holders : List ℕ) → (count holding clock minutes : ℕ) → Type 0
StartingIn c order started ends holders count holding clock minutes =
    Starting c.tickets c.states c.dues c.starts order started ends holders count holding clock minutes

-- a call has done its own part, and is to settle
abbrev pub UnfinishedIn : Columns → Queue → Occupancy → (started : List ℕ) → (clock : ℕ) → Settings → Type 0
UnfinishedIn c q o started clock S =
    Unfinished c.tickets c.states c.dues c.starts c.estimates q.asked q.forecasts o.held o.ends o.holders started c.live o.holding o.spare clock S

-- the same, where another number is that of the live jobs
abbrev pub unfinished_as : {tickets states dues starts estimates asked forecasts held ends holders begun : List ℕ} {live holding spare now : ℕ} {S : Settings}
    → (n : ℕ) → n ≡ live
    → Unfinished tickets states dues starts estimates asked forecasts held ends holders begun live holding spare now S
    → Unfinished tickets states dues starts estimates asked forecasts held ends holders begun n holding spare now S
unfinished_as n e u = record {
  model = u.model;
  ready = u.ready;
  settings_is = u.settings_is;
  clock_is = u.clock_is;
  nodes = u.nodes;
  tenants = u.tenants;
  leasts = u.leasts;
  submitted = u.submitted;
  ranks = u.ranks;
  columns = rw e u.columns;
  room = u.room;
}

-- what it answers, and the columns that it leaves
abbrev pub FinishesIn : {tickets states dues starts estimates asked forecasts held ends holders begun : List ℕ} {live holding spare now : ℕ} {S : Settings}
    → Unfinished tickets states dues starts estimates asked forecasts held ends holders begun live holding spare now S
    → Model → (ticket ended clock next : ℕ) → Told → (started : List ℕ) → Columns → Queue → Occupancy → Type 0
FinishesIn {tickets} {estimates = estimates} {live = live} u b ticket ended clock next r started c q o =
    Finishes b u.model ticket ended clock next (told_with r live 0 o.holding o.spare) started tickets u.nodes c.states c.dues c.starts u.tenants estimates u.leasts
    q.asked u.submitted u.ranks q.forecasts o.held o.ends o.holders

-- ## The columns of a scheduler

abbrev pub BeginningIn : Columns → (asked : List ℕ) → Occupancy → Settings → Type 0
BeginningIn c asked o S = Beginning c.tickets c.nodes c.states c.dues asked o.held o.ends o.holders c.live S

abbrev pub BegunIn : Model → (asked : List ℕ) → Occupancy → Type 0
BegunIn m asked o = Begins m asked o.held o.ends o.holders (record { holding = o.holding; spare = o.spare })
