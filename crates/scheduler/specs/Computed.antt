-- Refusals computed from the definitions. Document 02, No. 4: how the places are divided, and who is refused for lack of them. No. 6: the longest
-- estimate, as an opening fixes it. No. 7: a least above the most, and an end before the least. Document 01, with document 02's numbers: the
-- order of refusals of openings, waits and submissions.
-- Assumes nothing.
use Rattle.std.specs.Prelude.{◌≡◌, refl, true, false, List, [], ◌∷◌, ℕ}
use Rattle.scheduler.specs.declared.Kind.TheVariants.{Easy}
use Rattle.scheduler.specs.declared.State.TheVariants.{Waiting, Running}
use Rattle.scheduler.specs.declared.Job.{Job}
use Rattle.scheduler.specs.declared.Settings.{Settings}
use Rattle.scheduler.specs.declared.Submission.{Submission}
use Rattle.scheduler.specs.declared.Tenant.{Tenant}
use Rattle.scheduler.specs.declared.Tenant.TheVariants.{Nobody, A, B}
use Rattle.scheduler.specs.declared.Refusal.{Refusal}
use Rattle.scheduler.specs.declared.Refusal.TheVariants as refusal
use Rattle.scheduler.specs.Limits.{misdivided}
use Rattle.scheduler.specs.Settings.{longest, cleanup, run_time, hold_time, unit}
use Rattle.scheduler.specs.Jobs.{fresh, cleaning}
use Rattle.scheduler.specs.Model.{Model}
use Rattle.scheduler.specs.Answers.{verdict}
use Rattle.scheduler.specs.declared.Departure.TheVariants.{Complete}
use Rattle.scheduler.specs.Refusals.{submit_tests, depart_refusal, wait_refusal}
use Rattle.scheduler.specs.Opening.{opening_refusal}

abbrev asks : Tenant → (nodes : ℕ) → Submission
asks t n = record { nodes = n; estimate = 5; tenant = t; least = 0 }

-- 10 nodes, two places for A and 62 for B; these jobs are live
abbrev with_jobs_of : List Job → Model
with_jobs_of js = record {
  settings = record { kind = Easy; nodes = 10; cleanup = 7; quota_a = 2; quota_b = 62; longest = 60 };
  clock = 9;
  next = 9;
  jobs = js;
}

abbrev runs : Tenant → ℕ → Job
runs h t = fresh t (asks h 1) Running 5 0

abbrev waits : Tenant → ℕ → Job
waits h t = fresh t (asks h 1) Waiting 0 0

abbrev judged : List Job → Submission → Refusal
judged js o = verdict (submit_tests (with_jobs_of js) o [])

pub examples : (misdivided 63 1 ≡ false)
    × (misdivided 1 63 ≡ false)
    × (misdivided 62 1 ≡ true)
    × (misdivided 64 1 ≡ true)
    × (misdivided 64 0 ≡ true)
    × (misdivided 0 64 ≡ true)
    -- 14 comes before 1, 1 before 15
    × (judged [] (asks Nobody 11) ≡ refusal.UnknownTenant)
    × (judged (runs A 1 ∷ waits A 2 ∷ []) (asks A 11) ≡ refusal.NodesOutOfRange)
    -- A's places are taken by what runs, waits and is in cleanup, and by no job of B's
    × (judged (runs A 1 ∷ waits A 2 ∷ []) (asks A 1) ≡ refusal.QuotaFull)
    × (judged (cleaning 8 (runs A 1) ∷ waits A 2 ∷ []) (asks A 1) ≡ refusal.QuotaFull)
    × (judged (runs A 1 ∷ waits A 2 ∷ []) (asks B 1) ≡ refusal.None)
    × (judged (runs A 1 ∷ waits B 2 ∷ runs B 3 ∷ []) (asks A 1) ≡ refusal.None)
unfolding verdict longest
examples = (refl, refl, refl, refl, refl, refl, refl, refl, refl, refl, refl, refl)

-- run lengths from a least to 5 minutes
abbrev between : ℕ → Tenant → (nodes : ℕ) → Submission
between l t n = record { nodes = n; estimate = 5; tenant = t; least = l }

abbrev leaves_at : (now : ℕ) → Job → Refusal
leaves_at now j = depart_refusal (record {
  settings = (with_jobs_of []).settings;
  clock = now;
  next = 9;
  jobs = j ∷ [];
}) Complete 1

pub least_examples : (judged [] (between 5 A 1) ≡ refusal.None)
    × (judged [] (between 6 A 1) ≡ refusal.LeastAboveMost)
    -- 1 comes before 19, 19 before 15
    × (judged [] (between 6 A 11) ≡ refusal.NodesOutOfRange)
    × (judged (runs A 1 ∷ waits A 2 ∷ []) (between 6 A 1) ≡ refusal.LeastAboveMost)
    -- a run from minute 5 on that takes 3 minutes at least
    × (leaves_at 7 (fresh 1 (between 3 A 1) Running 5 0) ≡ refusal.BeforeLeast)
    × (leaves_at 8 (fresh 1 (between 3 A 1) Running 5 0) ≡ refusal.None)
    × (leaves_at 7 (fresh 1 (between 3 A 1) Waiting 5 0) ≡ refusal.NotRunning)
unfolding depart_refusal verdict longest
least_examples = (refl, refl, refl, refl, refl, refl, refl)

-- 10 nodes, with 7 minutes of cleanup, and this longest estimate
abbrev up_to : ℕ → Settings
up_to l = record { kind = Easy; nodes = 10; cleanup = 7; quota_a = 2; quota_b = 62; longest = l }

abbrev opens_with : Settings → Refusal
opens_with S = opening_refusal (record { settings = S; minute = 0; ticket = 1 })

abbrev lasts : ℕ → Submission
lasts e = record { nodes = 1; estimate = e; tenant = A; least = 0 }

abbrev judged_by : Settings → Submission → Refusal
judged_by S o = verdict (submit_tests (record { settings = S; clock = 9; next = 9; jobs = [] }) o [])

abbrev nothing_fits : Settings
nothing_fits = record { kind = Easy; nodes = 0; cleanup = 31; quota_a = 0; quota_b = 0; longest = 10081 }

pub longest_examples : (opens_with (up_to 0) ≡ refusal.LongestOutOfRange)
    × (opens_with (up_to 1) ≡ refusal.None)
    × (opens_with (up_to 10080) ≡ refusal.None)
    × (opens_with (up_to 10081) ≡ refusal.LongestOutOfRange)
    -- ahead of 1, 3, 12 and 13
    × (opening_refusal (record { settings = nothing_fits; minute = 1000001; ticket = 0 }) ≡ refusal.LongestOutOfRange)
    -- 2 reads the setting; the bound reads its wall time, which is greater, and the cleanup
    × (judged_by (up_to 481) (lasts 481) ≡ refusal.None)
    × (judged_by (up_to 481) (lasts 482) ≡ refusal.MinutesOutOfRange)
    × (unit (up_to 481) ≡ 517)
unfolding opening_refusal verdict longest cleanup run_time hold_time unit
longest_examples = (refl, refl, refl, refl, refl, refl, refl, refl)

-- ## Orders

abbrev opens : (nodes minute ticket cleanup places : ℕ) → Refusal
opens n m t c a = opening_refusal (record {
  settings = record { kind = Easy; nodes = n; cleanup = c; quota_a = a; quota_b = 1; longest = 60 };
  minute = m;
  ticket = t;
})

-- "order: opening 1, 3"; "12, clearing above 30, after 3 at opening; 13, the places do not sum to 64 or one is 0, last at opening"; each limit just
-- met is no reason
pub opening_order : (opens 0 1000001 0 31 0 ≡ refusal.NodesOutOfRange)
    × (opens 1025 0 1 0 63 ≡ refusal.NodesOutOfRange)
    × (opens 1024 1000001 1 31 0 ≡ refusal.OpeningOutOfRange)
    × (opens 1024 1000000 0 31 0 ≡ refusal.OpeningOutOfRange)
    × (opens 1024 1000000 1000000 31 0 ≡ refusal.OpeningOutOfRange)
    × (opens 1024 1000000 999999 31 0 ≡ refusal.CleanupOutOfRange)
    × (opens 1024 1000000 999999 30 0 ≡ refusal.QuotasOutOfRange)
    × (opens 1024 1000000 999999 30 63 ≡ refusal.None)
    × (opens 1 0 1 0 63 ≡ refusal.None)
unfolding opening_refusal verdict
opening_order = (refl, refl, refl, refl, refl, refl, refl, refl, refl)

abbrev waits_for : (clock minutes : ℕ) → Refusal
waits_for c n = wait_refusal (record { settings = up_to 60; clock = c; next = 9; jobs = [] }) n

-- "`wait` 2, 6"; "`wait` outside 1 to 10,080", whatever the longest estimate is, here 60
pub wait_order : (waits_for 0 0 ≡ refusal.MinutesOutOfRange)
    × (waits_for 0 61 ≡ refusal.None)
    × (waits_for 0 10080 ≡ refusal.None)
    × (waits_for 999999 10081 ≡ refusal.MinutesOutOfRange)
    × (waits_for 999999 1 ≡ refusal.None)
    × (waits_for 999999 2 ≡ refusal.PastHorizon)
unfolding wait_refusal verdict longest
wait_order = (refl, refl, refl, refl, refl, refl)

-- A's two places are taken; this is the next ticket
abbrev submits : (next : ℕ) → Submission → Refusal
submits t o = verdict (submit_tests (record {
  settings = up_to 60;
  clock = 9;
  next = t;
  jobs = runs A 1 ∷ waits A 2 ∷ [];
}) o [])

-- "intake 1, 2, .. 5", with 14 first, "19, least above most, after 2" and 15 in place of 4
pub submission_order : (submits 1000000 (record { nodes = 0; estimate = 0; tenant = Nobody; least = 1 }) ≡ refusal.UnknownTenant)
    × (submits 1000000 (record { nodes = 0; estimate = 0; tenant = A; least = 1 }) ≡ refusal.NodesOutOfRange)
    × (submits 1000000 (record { nodes = 1; estimate = 0; tenant = A; least = 1 }) ≡ refusal.MinutesOutOfRange)
    × (submits 1000000 (record { nodes = 1; estimate = 1; tenant = A; least = 2 }) ≡ refusal.LeastAboveMost)
    × (submits 1000000 (record { nodes = 1; estimate = 1; tenant = A; least = 1 }) ≡ refusal.QuotaFull)
    × (submits 1000000 (record { nodes = 1; estimate = 1; tenant = B; least = 1 }) ≡ refusal.NoTicketLeft)
    × (submits 999999 (record { nodes = 1; estimate = 1; tenant = B; least = 1 }) ≡ refusal.None)
unfolding verdict longest
submission_order = (refl, refl, refl, refl, refl, refl, refl)
