-- Minutes in which nothing is due: no job ends, is released or starts.
-- Assumes nothing.
use Rattle.std.specs.Prelude.{ℕ, suc, ◌+◌, ◌≤◌, ◌<◌, ◌≡◌, true, false}
use Rattle.lists.specs.Lists.{In}
use Rattle.scheduler.specs.declared.Settings.{Settings}
use Rattle.scheduler.specs.declared.Job.{Job}
use Rattle.scheduler.specs.Model.{Model}
use Rattle.advance_rules.specs.Advance.{due_at}

-- for this job nothing is due in the minutes after the clock, up to the last
abbrev pub QuietTo : Settings → (clock last : ℕ) → Job → Type 0
QuietTo S clock last j = (t : ℕ) → clock < t → t ≤ last → due_at S t j ≡ false

-- and for no job in the k minutes after the clock
abbrev pub Quiet : Model → ℕ → Type 0
Quiet m k = (j : Job) → In j m.jobs → QuietTo m.settings m.clock (m.clock + k) j

-- it is so for no minute more: in the next one something is due, unless that is past the last
abbrev pub DueAfter : Settings → (minute last : ℕ) → Job → Type 0
DueAfter S minute last j = minute < last → due_at S (suc minute) j ≡ true

-- this minute is none of the minutes after the clock, up to the last
abbrev pub Until : (minute clock last : ℕ) → Type 0
Until minute clock last = (minute ≤ last) → minute ≤ clock
