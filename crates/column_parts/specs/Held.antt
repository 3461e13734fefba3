-- What the lists say, over the struct of columns, whose count is that of the live jobs.
-- Assumes nothing.
use Rattle.std.specs.Prelude.{ℕ, List}
use Rattle.scheduler.specs.declared.Settings.{Settings}
use Rattle.scheduler.specs.declared.Departure.{Departure}
use Rattle.scheduler.specs.declared.Refusal.{Refusal}
use Rattle.scheduler.specs.Model.{Model}
use Rattle.job_columns.specs.declared.Columns.{Columns}
use Rattle.column_parts.specs.declared.Told as answers
use Rattle.column_parts.specs.declared.Left as departures
use Rattle.column_parts.specs.declared.Expired as minutes
use Rattle.column_parts.specs.declared.Swept as sweeps
use Rattle.column_parts.specs.Counted.{Told}
use Rattle.column_parts.specs.ColumnParts.{SoundColumns, Leaves, MinuteColumns, Expires}
use Rattle.column_parts.specs.SweptColumns.{DueColumns, Sweeping}

-- ## What is told

abbrev pub told_with : answers.Told → (live count holding spare : ℕ) → Told
told_with r live count holding spare = record {
  refusal = r.refusal;
  ticket = r.ticket;
  promise = r.promise;
  head = r.head;
  forecast = r.forecast;
  ended = r.ended;
  started = r.started;
  clock = r.clock;
  next = r.next;
  live = live;
  count = count;
  holding = holding;
  spare = spare;
}

-- a refused call
abbrev pub turned_away : Refusal → (clock next : ℕ) → answers.Told
turned_away why clock next =
    record { refusal = why; ticket = 0; promise = 0; head = 0; forecast = 0; ended = 0; started = 0; clock = clock; next = next }

-- a refused departure
abbrev pub nobody_left : Refusal → departures.Left
nobody_left why = record { refusal = why; ended = 0; withdrawn = 0 }

-- ## A job leaves on request

-- the columns are those of a sound model
abbrev pub SoundIn : Settings → (clock : ℕ) → Columns → Type 0
SoundIn S clock c = SoundColumns S clock c.tickets c.nodes c.states c.dues c.starts c.tenants c.estimates c.leasts c.live

-- what an early completion or a withdrawal gives
abbrev pub LeavesIn : Model → Departure → (ticket live : ℕ) → departures.Left → (ended gone : List ℕ) → Columns → Type 0
LeavesIn m h t live r ended gone c =
    Leaves m h t live (record { refusal = r.refusal; live = c.live; ended = r.ended; withdrawn = r.withdrawn }) ended gone
    c.tickets c.nodes c.states c.dues c.starts c.tenants c.estimates c.leasts

-- ## A minute passes

-- the columns are those of a sound model, and this is the minute after its clock
abbrev pub MinuteIn : (minute clearing : ℕ) → Columns → Type 0
MinuteIn minute clearing c =
    MinuteColumns minute clearing c.tickets c.nodes c.states c.dues c.starts c.tenants c.estimates c.leasts c.live

-- what a tick gives that is not refused
abbrev pub ExpiresIn : Model → (live : ℕ) → minutes.Expired → (ended gone : List ℕ) → Columns → Type 0
ExpiresIn m live r ended gone c =
    Expires m live (record { live = c.live; ended = r.ended; starting = r.starting }) ended gone
    c.tickets c.nodes c.states c.dues c.starts c.tenants c.estimates c.leasts

-- the jobs before a place have been looked at
abbrev pub SweepingIn : Model → (ended gone : List ℕ) → Columns → sweeps.Swept → Type 0
SweepingIn m ended gone c d =
    Sweeping m ended gone c.tickets c.nodes c.states c.dues c.starts c.tenants c.estimates c.leasts
    (record { at = d.at; live = c.live; ended = d.ended; gone = d.gone; starting = d.starting })

-- and the job in the place is due in this minute
abbrev pub DueIn : (minute clearing : ℕ) → (ended gone : List ℕ) → Columns → sweeps.Swept → Type 0
DueIn minute clearing ended gone c d =
    DueColumns minute clearing ended gone c.tickets c.nodes c.states c.dues c.starts c.tenants c.estimates c.leasts
    (record { at = d.at; live = c.live; ended = d.ended; gone = d.gone; starting = d.starting })
