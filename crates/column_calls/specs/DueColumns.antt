-- The minutes before the first in which a job is due are quiet.
-- Assumes nothing.
use Rattle.std.specs.Prelude.{ℕ, ◌≤◌, ◌<◌, ◌≡◌, true, ◌&&◌, List, map, eqb}
use Rattle.std.proofs.Common.{arith, sym, ◌∙◌, eqb-true}
use Rattle.lists.specs.Tests.{case, both}
use Rattle.lists.specs.Lists.{In, in_map}
use Rattle.scheduler.specs.declared.Settings.{Settings}
use Rattle.scheduler.specs.declared.Job.{Job}
use Rattle.scheduler.specs.Jobs.{is_waiting, is_running, is_cleaning, ends_at, released_at}
use Rattle.job_columns.specs.JobColumns.{never, due_of}
use Rattle.job_columns.specs.Encoding.{due_planned, ends_due, releases_due}
use Rattle.job_columns.specs.Searches.{soonest, soonest_le}
use Rattle.advance_rules.specs.Advance.{due_at}
use Rattle.quiet_minutes.specs.DueMinutes.{QuietTo}

-- a minute from the clock on, up to the last, and before the one in which somebody is due
pub record BeforeDue (due clock last r : ℕ) : Type 0 where
  pub from : clock ≤ r
  pub to : r ≤ last
  pub before : clock < r → r < due

-- nothing is due for any of these jobs up to this minute
abbrev pub AllQuiet : Settings → List Job → (clock last : ℕ) → Type 0
AllQuiet S js clock last = (j : Job) → In j js → QuietTo S clock last j

module _ (S : Settings) (j : Job) where
  -- something is due in the minute in which the job is due, and in no other
  pub due_is : (t : ℕ) → 1 ≤ t → due_at S t j ≡ true → due_of S j ≡ t
  due_is t l e =
      case (ends_at S t j) (λ x. ended t x) (λ x.
      case (released_at S t j) (λ y. released t y) (λ y.
      starts t l (rw (x, y) at e)))
    where
      ended : (t : ℕ) → ends_at S t j ≡ true → due_of S j ≡ t
      ended t x = eqb-true (due_of S j) t (both (is_running j) (eqb (due_of S j) t) (sym (ends_due S j t) ∙ x)).1

      released : (t : ℕ) → released_at S t j ≡ true → due_of S j ≡ t
      released t y = eqb-true (due_of S j) t (both (is_cleaning j) (eqb (due_of S j) t) (sym (releases_due S j t) ∙ y)).1

      starts : (t : ℕ) → 1 ≤ t → (is_waiting j && eqb j.start t) ≡ true → due_of S j ≡ t
      starts t l z =
          let b = both (is_waiting j) (eqb j.start t) z in
          let s = eqb-true j.start t b.1 in
          due_planned S j b.0 (omega arith) ∙ s

  pub before_quiet : (clock r : ℕ) → (clock < r → r < due_of S j) → QuietTo S clock r j
  before_quiet clock r f t a b =
      case (due_at S t j) (λ e. absurd (omega (arith, f (omega arith), due_is t (omega arith) e))) (λ e. e)

-- before the first minute in which somebody is due
pub soonest_quiet : (S : Settings) (js : List Job) (due clock last r : ℕ) → due ≡ soonest never (map (due_of S) js) → BeforeDue due clock last r
    → AllQuiet S js clock r
soonest_quiet S js due clock last r e b j i =
    before_quiet S j clock r (λ l. omega (arith, b.before l, e, soonest_le never (in_map (due_of S) i)))
