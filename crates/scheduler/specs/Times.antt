-- What callers use of the times for which jobs run and hold their nodes. No other file looks into `longest`, `cleanup`, `run_time`, `hold_time`,
-- `unit`, `end_of` and `until`.
-- Assumes nothing.
use Rattle.std.specs.Prelude.{ℕ, ◌+◌, ◌*◌, ◌≤◌, ◌<◌, min, ◌≡◌, false, true}
use native.Mathlib.Omega.{arith}
use Rattle.std.proofs.Common.{mul-le-mul}
use Rattle.std.proofs.Math.Path.{refl}
use Rattle.walltime.specs.Laws as wall
use Rattle.walltime.specs.Laws.{wall_time_le, le_wall_time, wall_time_pos, wall_time_mono}
use Rattle.scheduler.specs.declared.Settings.{Settings}
use Rattle.scheduler.specs.declared.Submission.{Submission}
use Rattle.scheduler.specs.declared.State.{State}
use Rattle.scheduler.specs.declared.Job.{Job}
use Rattle.scheduler.specs.Limits.{longest_estimate, longest_cleanup, longest_hold}
use Rattle.scheduler.specs.States.{cleaning?}
use Rattle.scheduler.specs.Settings.{longest, cleanup, run_time, hold_time, unit, end_of, until}
use Rattle.scheduler.specs.Jobs.{fresh, job_at, cleaning, is_cleaning}

module _ (S : Settings) where
  pub longest_le : longest S ≤ longest_estimate
  unfolding longest
  longest_le = omega arith

  -- of settings that an opening takes it is the setting
  pub longest_is : S.longest ≤ longest_estimate → longest S ≡ S.longest
  unfolding longest
  longest_is l = omega arith

  pub cleanup_le : cleanup S ≤ longest_cleanup
  unfolding cleanup
  cleanup_le = omega arith

  -- of settings that an opening takes it is the setting
  pub cleanup_is : S.cleanup ≤ longest_cleanup → cleanup S ≡ S.cleanup
  unfolding cleanup
  cleanup_is l = omega arith

  pub run_pos : (e : ℕ) → 1 ≤ e → 1 ≤ run_time S e
  unfolding run_time
  run_pos e l = wall_time_pos e l

  -- no run is planned for less than its estimate
  pub run_from : (e : ℕ) → e ≤ longest S → e ≤ run_time S e
  unfolding run_time
  run_from e l = le_wall_time e (omega (arith, longest_le))

  pub hold_is : (e : ℕ) → hold_time S e ≡ run_time S e + cleanup S
  unfolding hold_time
  hold_is e = refl

  pub hold_pos : (e : ℕ) → 1 ≤ e → 1 ≤ hold_time S e
  hold_pos e l = omega (arith, hold_is e, run_pos e l)

  pub hold_le : (e : ℕ) → hold_time S e ≤ longest_hold
  unfolding hold_time run_time
  hold_le e = omega (arith, wall_time_le e, cleanup_le)

  -- longer estimates never hold for a shorter time
  pub hold_mono : (d e : ℕ) → d ≤ e → hold_time S d ≤ hold_time S e
  unfolding hold_time run_time
  hold_mono d e l = omega (arith, wall_time_mono d e l)

  pub hold_unit : (e : ℕ) → e ≤ longest S → hold_time S e ≤ unit S
  unfolding unit
  hold_unit e l = hold_mono e (longest S) l

  pub unit_le : unit S ≤ longest_hold
  unfolding unit
  unit_le = hold_le (longest S)

  pub cleanup_unit : cleanup S ≤ unit S
  unfolding unit
  cleanup_unit = omega (arith, hold_is (longest S))

  -- this many units are at most as many of the longest hold
  pub units_le : (n k : ℕ) → n ≤ k → n * unit S ≤ k * longest_hold
  units_le n k l = mul-le-mul l unit_le

  pub end_is : (j : Job) → end_of S j ≡ j.start + run_time S j.estimate
  unfolding end_of
  end_is j = refl

  pub until_is : (j : Job) → is_cleaning j ≡ false → until S j ≡ j.start + hold_time S j.estimate
  unfolding until
  until_is j n = rw n

  pub until_end : (j : Job) → is_cleaning j ≡ false → until S j ≡ end_of S j + cleanup S
  until_end j n = omega (arith, until_is j n, hold_is j.estimate, end_is j)

  pub until_cleaning : (j : Job) → is_cleaning j ≡ true → until S j ≡ j.end + cleanup S
  unfolding until
  until_cleaning j c = rw c

  pub until_cleaned : (m : ℕ) (j : Job) → until S (cleaning m j) ≡ m + cleanup S
  unfolding until
  until_cleaned m j = refl

  pub until_at : (s : State) (start : ℕ) (j : Job) → cleaning? s ≡ false → until S (job_at s start j) ≡ start + hold_time S j.estimate
  until_at s start j n = until_is (job_at s start j) n

  pub until_still : (s : State) (j : Job) → cleaning? s ≡ false → is_cleaning j ≡ false → until S (job_at s j.start j) ≡ until S j
  until_still s j n o = omega (arith, until_at s j.start j n, until_is j o)

  pub until_fresh : (t : ℕ) (o : Submission) (s : State) (start promise : ℕ) → cleaning? s ≡ false
      → until S (fresh t o s start promise) ≡ start + hold_time S o.estimate
  until_fresh t o s start promise n = until_is (fresh t o s start promise) n

-- e is the largest estimate with which a job holds its nodes for no longer than this many minutes, 0 if there is none
pub record LongestWithin (S : Settings) (minutes e : ℕ) : Type 0 where
  pub to : e ≤ longest S
  pub within : 1 ≤ e → hold_time S e ≤ minutes
  pub most : (d : ℕ) → 1 ≤ d → d ≤ longest S → hold_time S d ≤ minutes → d ≤ e

module _ (S : Settings) (minutes : ℕ) where
  -- the wall time is within what the cleanup leaves
  pub longest_after : {x e : ℕ} → x + cleanup S ≡ minutes → wall.LongestWithin x e → LongestWithin S minutes (min e (longest S))
  unfolding hold_time run_time
  longest_after {x} {e} q w = record {
    to = omega arith;
    within = λ p. omega (arith, w.within, wall_time_mono (min e (longest S)) e (omega arith));
    most = λ d p l b. let k : d ≤ e = w.most d (omega (arith, longest_le S)) (omega arith) in omega arith;
  }

  pub longest_none : minutes < cleanup S → LongestWithin S minutes 0
  longest_none h = record { to = omega arith; within = λ p. absurd (omega arith); most = λ d p l b. absurd (omega (arith, hold_is S d)) }
