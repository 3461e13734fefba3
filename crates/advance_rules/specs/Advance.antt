-- So many minutes pass at once, or fewer: up to the first in which something is due. Document 01: "`wait` minutes (as many single steps)"; "`wait` 2,
-- 6": what refuses that wait refuses this call.
-- Assumes nothing.
use Rattle.std.specs.Prelude.{Bool, cond, ◌&&◌, ◌||◌, List, [], ◌∷◌, ◌++◌, ℕ, zero, suc, ◌-◌, eqb, replicate}
use Rattle.lists.specs.Lists.{any}
use Rattle.lists.specs.Least.{least}
use Rattle.scheduler.specs.declared.Settings.{Settings}
use Rattle.scheduler.specs.declared.Job.{Job}
use Rattle.scheduler.specs.declared.Refusal.{Refusal}
use Rattle.scheduler.specs.declared.Refusal.TheVariants as refusal
use Rattle.scheduler.specs.Jobs.{is_waiting, ends_at, released_at}
use Rattle.scheduler.specs.Model.{Model}
use Rattle.scheduler.specs.Answers.{Result, accepts, refuse}
use Rattle.scheduler.specs.Refusals.{judged, wait_refusal}
use Rattle.history.specs.Calls.{Call, Rules, tick, unchanged, after}

-- ## When something is due

-- a job ends, its nodes are released, or it starts as planned. Document 01, of a minute step: "stacks whose end is now leave, waiting stacks whose
-- planned start is now start"
abbrev pub due_at : Settings → (minute : ℕ) → Job → Bool
due_at S t j = ends_at S t j || released_at S t j || (is_waiting j && eqb j.start t)

-- of some job
abbrev pub is_due : Model → (minute : ℕ) → Bool
is_due m t = any (due_at m.settings t) m.jobs

-- ## What is given

-- the minute up to which time passes: the first in which something is due, and n minutes from now at the latest
unfoldable pub advances_to : Model → (n : ℕ) → ℕ
advances_to m n = least (is_due m) (n - 1) (suc m.clock)

-- how many minutes pass, of n
unfoldable pub advanced_by : Model → (n : ℕ) → ℕ
advanced_by m n = cond (accepts (wait_refusal m n)) (advances_to m n - m.clock) 0

-- so many ticks: what the last one gives, and of none nothing
abbrev pub ticks : Rules → Model → ℕ → Result
ticks R m zero = refuse m refusal.None
ticks R m (suc k) = R (after R m (replicate k tick)) tick

-- and what the last of them gives
unfoldable pub advanced : Rules → Model → (n : ℕ) → Result
advanced R m n = judged m (wait_refusal m n) (ticks R m (advanced_by m n))

-- ## In a list of demand 3

-- "a `wait` as its steps or as one refused call": so many minutes have passed, none where it is refused so
abbrev pub advance_calls : (minutes : ℕ) → Refusal → List Call
advance_calls zero r = unchanged r ∷ []
advance_calls (suc k) r = replicate (suc k) tick

-- the answers to these calls, by the one answer a: before the last minute nothing happens
abbrev pub advance_answers : {A : Type 0} → (nothing : A) → (minutes : ℕ) → A → List A
advance_answers nothing zero a = a ∷ []
advance_answers nothing (suc k) a = replicate k nothing ++ (a ∷ [])
