-- Document 02, No. 14, computed from the definitions: holders of each kind, the first and the last minute of a hold, and jobs without holders.
-- Assumes nothing.
use Rattle.std.specs.Prelude.{◌≡◌, refl, ℕ}
use mathlib.Core.List.{List, [], ◌∷◌, flat_map}
use Rattle.text.specs.Numbers.{decimal_by, decimal_of}
use Rattle.text.specs.Quoted.{bytes}
use Rattle.scheduler.specs.declared.Kind.{Kind}
use Rattle.scheduler.specs.declared.Kind.TheVariants.{Conservative, Easy}
use Rattle.scheduler.specs.declared.State.{State}
use Rattle.scheduler.specs.declared.State.TheVariants.{Waiting, Running}
use Rattle.scheduler.specs.declared.Tenant.TheVariants.{A}
use Rattle.scheduler.specs.declared.Job.{Job}
use Rattle.scheduler.specs.Jobs.{fresh, cleaning}
use Rattle.scheduler.specs.Settings.{cleanup, run_time, hold_time, until}
use Rattle.scheduler.specs.Model.{Model}
use Rattle.why_rules.specs.Why.{finding_of, holder_text, sentence, why_text}

-- a machine of 10 nodes
abbrev machine : Kind → (cleanup clock : ℕ) → List Job → Model
machine k c now js = record {
  settings = record { kind = k; nodes = 10; cleanup = c; quota_a = 63; quota_b = 1; longest = 10080 };
  clock = now;
  next = 9;
  jobs = js;
}

abbrev job : (ticket nodes estimate : ℕ) → State → (start : ℕ) → Job
job t n e s start = fresh t (record { nodes = n; estimate = e; tenant = A; least = 0 }) s start start

-- document 01's worked example after `in 6 20 A`, `in 8 10 A` and `in 4 25 A`: the second sentence is document 02's own, of a holder by plan
pub worked_example : why_text (machine Conservative 0 0 (job 1 6 20 Running 0 ∷ job 2 8 10 Waiting 20 ∷ job 3 4 25 Waiting 30 ∷ []))
    ≡ flat_map bytes (
    "stack 2 waits, minute 19, 1 with 6\n"
    ∷ "stack 3 waits, minute 29, 2 with 8\n"
    ∷ [])
unfolding flat_map decimal_by decimal_of cleanup run_time hold_time until finding_of holder_text sentence why_text
worked_example = refl

-- with 5 minutes of cleanup: the run of 1 has been over since minute 12, and its nodes are free from 17 on
pub clearing_holds : why_text (machine Conservative 5 14 (cleaning 12 (job 1 7 60 Running 0) ∷ job 2 3 20 Running 4 ∷ job 3 6 10 Waiting 17 ∷ job 4 9 5 Waiting 32 ∷ []))
    ≡ flat_map bytes (
    "stack 3 waits, minute 16, 1 with 7, 2 with 3\n"
    ∷ "stack 4 waits, minute 31, 3 with 6\n"
    ∷ [])
unfolding flat_map decimal_by decimal_of cleanup run_time hold_time until finding_of holder_text sentence why_text
clearing_holds = refl

-- of ticket 5 minute 20 is asked. 1 holds nodes up to and with minute 19, 2 up to and with 20; 3 holds them from 20 on, 4 from 21 on
pub first_and_last_minute : why_text (machine Conservative 0 7 (
    job 1 1 20 Running 0 ∷ job 2 2 15 Running 6 ∷ job 3 3 5 Waiting 20 ∷ job 4 4 5 Waiting 21 ∷ job 5 3 5 Waiting 21 ∷ []))
    ≡ flat_map bytes (
    "stack 3 waits, minute 19, 1 with 1, 2 with 2\n"
    ∷ "stack 4 waits, minute 20, 2 with 2, 3 with 3\n"
    ∷ "stack 5 waits, minute 20, 2 with 2, 3 with 3\n"
    ∷ [])
unfolding flat_map decimal_by decimal_of cleanup run_time hold_time until finding_of holder_text sentence why_text
first_and_last_minute = refl

-- on a desk read back a job may be planned later than it could begin: without holders the sentence ends after the minute
pub no_holders : why_text (machine Conservative 0 0 (job 1 6 20 Running 0 ∷ job 2 8 10 Waiting 21 ∷ [])) ≡ bytes "stack 2 waits, minute 20\n"
unfolding flat_map decimal_by decimal_of cleanup run_time hold_time until finding_of holder_text sentence why_text
no_holders = refl

-- nobody waits
pub nobody_waits : why_text (machine Conservative 0 0 (job 1 6 20 Running 0 ∷ [])) ≡ []
unfolding flat_map why_text
nobody_waits = refl

-- "on the Promise Desk"
pub loose_none : why_text (machine Easy 0 0 (job 1 6 20 Running 0 ∷ job 2 8 10 Waiting 0 ∷ [])) ≡ []
unfolding why_text
loose_none = refl
