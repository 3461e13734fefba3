-- The job table: what summing and removing mean on a list of jobs.
-- Assumes nothing.
use Rattle.std.specs.Prelude.{Bool, false, not, cond, ◌&&◌, ◌||◌, List, [], ◌∷◌, map, ℕ, eqb, length}
use Rattle.lists.specs.Tests.{on}
use Rattle.lists.specs.Lists.{keep, sum}
use Rattle.lists.specs.Pads.{pad}
use Rattle.scheduler.specs.declared.Job.{Job}
use Rattle.scheduler.specs.declared.Scheduler.{Scheduler}
use Rattle.scheduler.specs.declared.Departure.TheVariants.{Complete, Cancel}
use Rattle.scheduler.specs.declared.Select.{Select}
use Rattle.scheduler.specs.declared.Select.TheVariants as select
use Rattle.scheduler.specs.declared.Tickets.{Tickets}
use Rattle.scheduler.specs.declared.Tenant.{Tenant}
use Rattle.scheduler.specs.Tenants.{same_tenant}
use Rattle.scheduler.specs.declared.Settings.{Settings}
use Rattle.scheduler.specs.Limits.{slots}
use Rattle.scheduler.specs.Settings.{cleanup}
use Rattle.scheduler.specs.Jobs.{held, picks, released_at, cleaning}

-- the scheduler with other jobs
abbrev pub with_jobs : Scheduler → List Job → Scheduler
with_jobs d js = record { settings = d.settings; clock = d.clock; next = d.next; jobs = js }

-- the nodes that all jobs hold now
abbrev pub nodes_held : List Job → ℕ
nodes_held js = sum held js

-- the live jobs of a tenant, running, waiting and in cleanup
abbrev pub of_tenant : Tenant → Job → Bool
of_tenant t j = same_tenant j.tenant t

abbrev pub live_of : Tenant → List Job → ℕ
live_of t js = sum (λ (j : Job). on (of_tenant t j) 1) js

abbrev pub ticket_of : Job → ℕ
ticket_of j = j.ticket

abbrev pub tickets_of : List Job → List ℕ
tickets_of js = map ticket_of js

-- a list of tickets as it is answered: the places past the last are 0
unfoldable pub tickets : List ℕ → Tickets
tickets ts = record { count = length ts; list = pad slots 0 ts }

-- the one ticket, or none
abbrev pub one_if : Bool → ℕ → List ℕ
one_if given t = cond given (t ∷ []) []

-- whose runs end if those that a test picks leave: a job that is withdrawn has not run
abbrev pub ends : Select → Job → Bool
ends select.Live j = false
ends select.Waiting j = false
ends (select.Departing Complete t) j = picks (select.Departing Complete t) j
ends (select.Departing Cancel t) j = false
ends (select.EndingAt S t) j = picks (select.EndingAt S t) j

abbrev pub ended_of : Select → List Job → List ℕ
ended_of s js = tickets_of (keep (ends s) js)

abbrev pub withdraws : Select → Job → Bool
withdraws select.Live j = false
withdraws select.Waiting j = false
withdraws (select.Departing Complete t) j = false
withdraws (select.Departing Cancel t) j = picks (select.Departing Cancel t) j
withdraws (select.EndingAt S t) j = false

-- whose nodes are free again
abbrev pub releases : Select → Job → Bool
releases select.Live j = false
releases select.Waiting j = false
releases (select.Departing h t) j = false
releases (select.EndingAt S t) j = released_at S t j

-- who leaves: jobs that are withdrawn, jobs whose nodes are free again, and with a cleanup of 0 jobs whose runs end
abbrev pub leaves : Settings → Select → Job → Bool
leaves S s j = withdraws s j || releases s j || (ends s j && eqb (cleanup S) 0)

-- those that do not
abbrev pub staying : Settings → Select → List Job → List Job
staying S s js = keep (λ (j : Job). not (leaves S s j)) js

-- of these, a job whose run ends is in cleanup from now on
abbrev pub ceased : (now : ℕ) → Select → Job → Job
ceased now s j = cond (ends s j) (cleaning now j) j

abbrev pub remaining : Settings → (now : ℕ) → Select → List Job → List Job
remaining S now s js = map (ceased now s) (staying S s js)
