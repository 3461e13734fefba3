-- One job: its state, the nodes it holds, and the tests that calls pick jobs by.
-- Assumes nothing.
use Rattle.std.specs.Prelude.{Bool, false, ◌&&◌, ℕ, ◌+◌, eqb, ltb}
use Rattle.lists.specs.Tests.{on}
use Rattle.scheduler.specs.declared.Settings.{Settings}
use Rattle.scheduler.specs.declared.State.{State}
use Rattle.scheduler.specs.declared.State.TheVariants.{Unused, Cleanup}
use Rattle.scheduler.specs.declared.Job.{Job}
use Rattle.scheduler.specs.declared.Tenant.TheVariants.{Nobody}
use Rattle.scheduler.specs.declared.Submission.{Submission}
use Rattle.scheduler.specs.declared.Departure.{Departure}
use Rattle.scheduler.specs.declared.Departure.TheVariants.{Complete, Cancel}
use Rattle.scheduler.specs.declared.Select.{Select}
use Rattle.scheduler.specs.declared.Select.TheVariants as select
use Rattle.scheduler.specs.States.{live?, waiting?, running?, cleaning?, holding?}
use Rattle.scheduler.specs.Settings.{end_of, until}

-- "unused ones all zero"
abbrev pub unused : Job
unused = record {
  ticket = 0;
  nodes = 0;
  estimate = 0;
  state = Unused;
  tenant = Nobody;
  least = 0;
  rank = 0;
  start = 0;
  promise = 0;
  end = 0;
  submitted = 0;
  forecast = 0;
}

abbrev pub is_live_of : Job → Bool
is_live_of j = live? j.state

abbrev pub is_waiting : Job → Bool
is_waiting j = waiting? j.state

abbrev pub is_running : Job → Bool
is_running j = running? j.state

abbrev pub is_cleaning : Job → Bool
is_cleaning j = cleaning? j.state

abbrev pub is_holding : Job → Bool
is_holding j = holding? j.state

-- the nodes that it holds now
abbrev pub held : Job → ℕ
held j = on (is_holding j) j.nodes

-- which jobs can leave so: one that runs ends early; document 02, No. 1: "A waiting stack can be withdrawn."
abbrev pub departs? : Departure → State → Bool
departs? Complete s = running? s
departs? Cancel s = waiting? s

abbrev pub departs_as : Departure → ℕ → Job → Bool
departs_as h t j = departs? h j.state && eqb j.ticket t

-- document 02, No. 7: "an end before the least": the minute is before start + least
abbrev pub too_early : (now : ℕ) → Departure → Job → Bool
too_early now Complete j = ltb now (j.start + j.least)
too_early now Cancel j = false

-- "A stack that starts at minute s ends at s + held unless ended before. The desk ends it there"
abbrev pub ends_at : Settings → ℕ → Job → Bool
ends_at S t j = is_running j && eqb (end_of S j) t

-- "and its nodes are free in that same minute", or once cleanup is over
abbrev pub released_at : Settings → ℕ → Job → Bool
released_at S t j = is_cleaning j && eqb (until S j) t

-- a job that comes in: what is asked for it, under its ticket
abbrev pub fresh : (ticket : ℕ) → Submission → State → (start promise : ℕ) → Job
fresh t o s start promise = record {
  ticket = t;
  nodes = o.nodes;
  estimate = o.estimate;
  state = s;
  tenant = o.tenant;
  least = o.least;
  rank = 0;
  start = start;
  promise = promise;
  end = 0;
  submitted = 0;
  forecast = 0;
}

-- document 02, No. 11: "Loose records now keep intake minute, .. r at intake .. and any forecast, until they leave"
abbrev pub entered : (minute rank : ℕ) → Job → Job
entered m r j = record {
  ticket = j.ticket;
  nodes = j.nodes;
  estimate = j.estimate;
  state = j.state;
  tenant = j.tenant;
  least = j.least;
  rank = r;
  start = j.start;
  promise = j.promise;
  end = j.end;
  submitted = m;
  forecast = j.forecast;
}

abbrev pub foretold : (minute : ℕ) → Job → Job
foretold m j = record {
  ticket = j.ticket;
  nodes = j.nodes;
  estimate = j.estimate;
  state = j.state;
  tenant = j.tenant;
  least = j.least;
  rank = j.rank;
  start = j.start;
  promise = j.promise;
  end = j.end;
  submitted = j.submitted;
  forecast = m;
}

-- the same job in a state, with a start
abbrev pub job_at : State → (start : ℕ) → Job → Job
job_at s start j = record {
  ticket = j.ticket;
  nodes = j.nodes;
  estimate = j.estimate;
  state = s;
  tenant = j.tenant;
  least = j.least;
  rank = j.rank;
  start = start;
  promise = j.promise;
  end = 0;
  submitted = j.submitted;
  forecast = j.forecast;
}

-- the same job once its run has ended: "its record, and no other, keeps its end"
abbrev pub cleaning : (end : ℕ) → Job → Job
cleaning m j = record {
  ticket = j.ticket;
  nodes = j.nodes;
  estimate = j.estimate;
  state = Cleanup;
  tenant = j.tenant;
  least = j.least;
  rank = j.rank;
  start = j.start;
  promise = j.promise;
  end = m;
  submitted = j.submitted;
  forecast = j.forecast;
}

-- what each test picks
abbrev pub picks : Select → Job → Bool
picks select.Live j = is_live_of j
picks select.Waiting j = is_waiting j
picks (select.Departing h t) j = departs_as h t j
picks (select.EndingAt S t) j = ends_at S t j
