-- Document 02, No. 5, computed from the definition of a call: "Intake's search goes through the blocks that begin before its hold's end [..] and
-- also gives how many it read".
-- Assumes nothing.
use Rattle.std.specs.Prelude.{◌≡◌, refl, List, [], ◌∷◌, map, ℕ}
use Rattle.spans.specs.declared.Point.{Point}
use Rattle.spans.specs.Spans as spans
use Rattle.spans.specs.Index as index
use Rattle.scheduler.specs.declared.Kind.TheVariants.{Conservative}
use Rattle.scheduler.specs.declared.State.TheVariants.{Waiting}
use Rattle.scheduler.specs.declared.Job.{Job}
use Rattle.scheduler.specs.Jobs.{fresh}
use Rattle.scheduler.specs.Model.{Model}
use Rattle.scheduler.specs.Answers.{Reply, verdict}
use Rattle.scheduler.specs.Settings as times
use Rattle.scheduler.specs.Refusals as refusals
use Rattle.history.specs.Calls.{submit, order, tick}
use Rattle.conservative_rules.specs.Conservative.{planned, points, submit_refusal, submitted, advanced, ticked, call}

abbrev waits : (ticket nodes start : ℕ) → Job
waits t n s = fresh t (order n 5) Waiting s s

-- a machine of 6 nodes with 3 minutes of cleanup, and these jobs
abbrev machine : List Job → Model
machine js = record {
  settings = record { kind = Conservative; nodes = 6; cleanup = 3; quota_a = 63; quota_b = 1; longest = 10080 };
  clock = 0;
  next = 10;
  jobs = js;
}

-- nine jobs, each of which holds its nodes for 8 minutes: the first block of points goes to minute 31, the second begins in 32
abbrev crowded : Model
crowded = machine
    (waits 1 4 3
    ∷ waits 2 1 7
    ∷ waits 3 1 9
    ∷ waits 4 2 13
    ∷ waits 5 1 18
    ∷ waits 6 1 19
    ∷ waits 7 2 23
    ∷ waits 8 1 24
    ∷ waits 9 5 35
    ∷ [])

abbrev minute_of : Point → ℕ
minute_of p = p.minute

abbrev asks : (nodes : ℕ) → Reply
asks n = (call crowded (submit (order n 5))).reply

pub reads_examples :
    (map minute_of (points crowded) ≡ 0 ∷ 3 ∷ 7 ∷ 9 ∷ 11 ∷ 13 ∷ 15 ∷ 17 ∷ 18 ∷ 19 ∷ 21 ∷ 23 ∷ 24 ∷ 26 ∷ 27 ∷ 31 ∷ 32 ∷ 35 ∷ 43 ∷ [])
    -- 3 nodes start at 27; their run ends at 32, and they are free again at 35: the second block begins before that, and is read too
    × ((asks 3).promise ≡ 27)
    × ((asks 3).reads ≡ 19)
    -- 2 nodes start at 11, and are free again at 19: the first block alone is read
    × ((asks 2).promise ≡ 11)
    × ((asks 2).reads ≡ 16)
    -- nothing is read by a submission that is refused, on a machine that is free, and by any other call
    × ((asks 7).reads ≡ 0)
    × ((call (machine []) (submit (order 4 5))).reply.reads ≡ 0)
    × ((call crowded tick).reply.reads ≡ 0)
unfolding
    verdict
    planned
    submit_refusal
    submitted
    advanced
    ticked
    call
    refusals.tick_refusal
    times.longest
    times.cleanup
    times.run_time
    times.hold_time
    times.end_of
    times.until
    spans.takes
    spans.last_end
    spans.fits
    spans.earliest
    spans.changes
    spans.points
    spans.profile
    index.overall
    index.reads_of
reads_examples = (refl, refl, refl, refl, refl, refl, refl, refl)
