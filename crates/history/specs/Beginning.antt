-- The book that a list of calls starts with. Document 01: "It starts from the desk that an opening hands back, .. or from another that a later
-- request names"; document 02, No. 11: "A list of demand 3 may also start from a desk read back, whose stacks count as the lines give them. The
-- promise, bound and forecast that the lines give a waiting stack are kept after." An opening hands back no job, and the book is empty.
-- Assumes nothing.
use Rattle.std.specs.Prelude.{Bool, ◌&&◌, cond, List, [], map, ℕ, ltb}
use Rattle.std.proofs.Math.Option.{Option, none, some}
use Rattle.lists.specs.Lists.{keep}
use Rattle.scheduler.specs.declared.State.{State}
use Rattle.scheduler.specs.declared.State.TheVariants.{Unused, Waiting, Running, Cleanup}
use Rattle.scheduler.specs.declared.Job.{Job}
use Rattle.scheduler.specs.declared.Settings.{Settings}
use Rattle.scheduler.specs.Jobs as jobs
use Rattle.scheduler.specs.Settings.{bound_of}
use Rattle.scheduler.specs.Table.{tickets_of}
use Rattle.scheduler.specs.Model.{Model}
use Rattle.history.specs.Book.{Fate, waiting, running, cleaning, Entry, Book, lowest, is}

-- the fate of a live job, by its record
abbrev pub fate_by : State → (start end : ℕ) → Fate
fate_by Unused s e = waiting
fate_by Waiting s e = waiting
fate_by Running s e = running s
fate_by Cleanup s e = cleaning s e

-- a value that only a waiting job has
abbrev pub if_waiting : Bool → ℕ → Option ℕ
if_waiting w n = cond w (some n) none

-- A job that has started was judged when it did. No bound and no forecast is claimed of it here: a line may give it any. `h` is the head.
abbrev pub entry_of : Settings → (h : Option ℕ) → Job → Entry
entry_of S h j = record {
  ticket = j.ticket;
  nodes = j.nodes;
  promise = j.promise;
  tenant = j.tenant;
  least = j.least;
  bound = if_waiting (jobs.is_waiting j) (bound_of S j);
  fate = fate_by j.state j.start j.end;
  headed = jobs.is_waiting j && is h j.ticket;
  forecast = if_waiting (jobs.is_waiting j && ltb 0 j.forecast) j.forecast;
}

abbrev pub entries_of : Model → List Entry
entries_of m = map (entry_of m.settings (lowest (tickets_of (keep jobs.is_waiting m.jobs)))) m.jobs

abbrev pub beginning : Model → Book
beginning m = record { clock = m.clock; entries = entries_of m; strays = [] }
