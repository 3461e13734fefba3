-- What an opening fixes, and every limit that calls go by. Each limit is read from the settings through one definition.
-- Assumes nothing.
use Rattle.std.specs.Prelude.{cond, ℕ, ◌+◌, ◌*◌, min}
use Rattle.walltime.specs.WallTime.{wall_time}
use Rattle.scheduler.specs.declared.Kind.{Kind}
use Rattle.scheduler.specs.declared.Settings.{Settings}
use Rattle.scheduler.specs.declared.Job.{Job}
use Rattle.scheduler.specs.declared.Tenant.{Tenant}
use Rattle.scheduler.specs.declared.Tenant.TheVariants.{Nobody, A, B}
use Rattle.scheduler.specs.Limits as limit
use Rattle.scheduler.specs.States.{cleaning?}

-- "A refused opening hands back an empty desk of its kind with 1 node"; a cleanup of 0, 63 places and 1, and the longest estimate that there is
abbrev pub refused_settings : Kind → Settings
refused_settings k = record { kind = k; nodes = 1; cleanup = 0; quota_a = 63; quota_b = 1; longest = limit.longest_estimate }

-- "Minutes of the clock: 0 to 1,000,000, the last minute."
abbrev pub horizon : Settings → ℕ
horizon S = limit.horizon

-- "At most 64 stacks are live, running and waiting together."
abbrev pub slots : Settings → ℕ
slots S = limit.slots

-- document 02, No. 4: "No house ever has more live than its places"
abbrev pub quota : Settings → Tenant → ℕ
quota S Nobody = 0
quota S A = S.quota_a
quota S B = S.quota_b

-- document 02, No. 6: "longest estimate (elsewhere 10,080)". An opening with more is refused, so that in every scheduler it is the setting
-- (`longest_is`)
unfoldable pub longest : Settings → ℕ
longest S = min S.longest limit.longest_estimate

-- document 02, No. 3: "From now on nodes stay taken for clearing minutes, 0 to 30, fixed at opening, after a planned or an early end
-- alike". An opening with more is refused, so that in every scheduler it is the setting (`cleanup_is`)
unfoldable pub cleanup : Settings → ℕ
cleanup S = min S.cleanup limit.longest_cleanup

-- the minutes for which a job of this estimate runs (document 01: "held time")
unfoldable pub run_time : Settings → ℕ → ℕ
run_time S e = wall_time e

-- and for which it holds its nodes: "Held time plus clearing is what must fit"
unfoldable pub hold_time : Settings → ℕ → ℕ
hold_time S e = run_time S e + cleanup S

-- the longest of these: the unit of the bound, "r × (10,080 + clearing)"; document 02, No. 6: "The limit on estimates reads the setting; the
-- bound and last-minute rule of the Loose Desk read its held time, which may be greater."
unfoldable pub unit : Settings → ℕ
unit S = hold_time S (longest S)

-- "A stack that starts at minute s ends at s + held unless ended before"
unfoldable pub end_of : Settings → Job → ℕ
end_of S j = j.start + run_time S j.estimate

-- the minute from which the nodes of a job are free again; if its run has ended, that is the cleanup after its end
unfoldable pub until : Settings → Job → ℕ
until S j = cond (cleaning? j.state) (j.end + cleanup S) (j.start + hold_time S j.estimate)

-- document 01: "Its bound is the clock at intake + r × 10,080", by what a record of EASY keeps (document 02, No. 11)
abbrev pub bound_of : Settings → Job → ℕ
bound_of S j = j.submitted + j.rank * unit S
