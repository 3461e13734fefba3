-- Document 02, No. 8, computed from the definitions: whole pages of both kinds, with jobs in each state.
-- Assumes nothing.
use Rattle.std.specs.Prelude.{◌≡◌, refl, ℕ, replicate}
use mathlib.Core.List.{List, [], ◌∷◌, flat_map}
use Prim.Native.String.{String}
use Rattle.lists.specs.Pads.{pad}
use Rattle.text.specs.Numbers.{decimal_by, decimal_of}
use Rattle.text.specs.RightSet.{right_set}
use Rattle.text.specs.Quoted.{bytes}
use Rattle.scheduler.specs.declared.Kind.{Kind}
use Rattle.scheduler.specs.declared.Kind.TheVariants.{Conservative, Easy}
use Rattle.scheduler.specs.declared.State.{State}
use Rattle.scheduler.specs.declared.State.TheVariants.{Waiting, Running}
use Rattle.scheduler.specs.declared.Tenant.{Tenant}
use Rattle.scheduler.specs.declared.Tenant.TheVariants.{A, B}
use Rattle.scheduler.specs.declared.Job.{Job}
use Rattle.scheduler.specs.Jobs.{fresh, cleaning}
use Rattle.scheduler.specs.Settings.{run_time}
use Rattle.scheduler.specs.Model.{Model}
use Rattle.status_page_rules.specs.StatusPage.{heading, job_columns_of, line, rows, status_page_of}

-- a machine of this many nodes, with 19 minutes of cleanup
abbrev machine : Kind → (nodes clock next : ℕ) → List Job → Model
machine k n c t js = record { settings = record { kind = k; nodes = n; cleanup = 19; quota_a = 63; quota_b = 1; longest = 10080 }; clock = c; next = t; jobs = js }

abbrev job : (ticket nodes estimate : ℕ) → Tenant → State → (start promise : ℕ) → Job
job t n e h s start promise = fresh t (record { nodes = n; estimate = e; tenant = h; least = 0 }) s start promise

-- a line of spaces
abbrev blank : String
blank = "                                                                        \n"

abbrev loose : Model
loose = machine Easy 3 36 9
    (cleaning 35 (job 5 2 33 A Running 0 0) ∷ job 6 1 35 A Running 36 0 ∷ job 7 1 18 B Waiting 0 0 ∷ job 8 1 54 A Waiting 0 0 ∷ [])

-- jobs in each state, of both houses. Held times are without the cleanup, and a job that has started shows its start
pub loose_page : status_page_of loose
    ≡ flat_map bytes (
    "       3      36       9                                                \n"
    ∷ "      5 A    2       0       -    35  clearing                          \n"
    ∷ "      6 A    1      36       -    35   running                          \n"
    ∷ "      7 B    1       -       -    20   waiting                          \n"
    ∷ "      8 A    1       -       -    55   waiting                          \n"
    ∷ replicate 61 blank)
unfolding flat_map pad right_set decimal_by decimal_of run_time heading job_columns_of line rows status_page_of
loose_page = refl

abbrev promise : Model
promise = machine Conservative 1024 979890 1000000
    (cleaning 979880 (job 999992 600 10080 A Running 969810 969810) ∷ job 999995 423 181 B Running 979750 979890
    ∷ job 999997 1024 10051 A Waiting 979959 989919 ∷ job 999999 1 1 A Running 979890 979890 ∷ [])

-- promises, and a planned start before its promise; wide numbers
pub promise_page : status_page_of promise
    ≡ flat_map bytes (
    "    1024  979890 1000000                                                \n"
    ∷ " 999992 A  600  969810  969810 10080  clearing                          \n"
    ∷ " 999995 B  423  979750  979890   190   running                          \n"
    ∷ " 999997 A 1024  979959  989919 10080   waiting                          \n"
    ∷ " 999999 A    1  979890  979890     5   running                          \n"
    ∷ replicate 61 blank)
unfolding flat_map pad right_set decimal_by decimal_of run_time heading job_columns_of line rows status_page_of
promise_page = refl

-- no job is live, at the last minute, and the last ticket has been given
pub empty_page : status_page_of (machine Easy 1 1000000 1000000 []) ≡ flat_map bytes (
    "       1 1000000 1000000                                                \n"
    ∷ replicate 65 blank)
unfolding flat_map pad right_set decimal_by decimal_of heading line rows status_page_of
empty_page = refl
