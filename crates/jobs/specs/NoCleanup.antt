-- Document 02, No. 3: "0 if left out; all former examples then hold". With a cleanup of 0 no job is ever in cleanup, and the definitions of both
-- kinds read what they read before: a job holds its nodes while it runs and no longer, and leaves when its run ends.
-- Assumes nothing.
use Rattle.std.specs.Prelude.{ℕ, ◌+◌, ◌≡◌, refl, Bool, true, false, not, ◌&&◌, eqb}
use Rattle.std.proofs.Common.{arith, ◌∙◌, eq-eqb}
use Rattle.std.proofs.Math.Path.{ap}
use Rattle.std.proofs.lemmas.Bool.{not-true}
use Rattle.lists.specs.Tests.{case}
use Rattle.lists.specs.Lists.{In, keep, keep_in, keep_cong, map_same}
use Rattle.walltime.specs.WallTime.{wall_time}
use Rattle.scheduler.specs.declared.Job.{Job}
use Rattle.scheduler.specs.declared.Settings.{Settings}
use Rattle.scheduler.specs.declared.Departure.TheVariants.{Complete, Cancel}
use Rattle.scheduler.specs.declared.Select.{Select}
use Rattle.scheduler.specs.Jobs.{is_cleaning, departs_as, picks}
use Rattle.scheduler.specs.Settings.{longest, cleanup, run_time, hold_time, unit, end_of, until}
use Rattle.scheduler.specs.Times.{longest_is, cleanup_is, hold_is, end_is, until_is, until_cleaning}
use Rattle.scheduler.specs.Table.{ends, leaves, staying, ceased}
use Rattle.scheduler.specs.Model.{Model, ending, without}
use Rattle.jobs.specs.Soundness.{Sound, SoundJob, Leaving, early, in_time_lem, cleaning_holds, stays}

module _ (S : Settings) (z : S.cleanup ≡ 0) where
  cleanup_none : cleanup S ≡ 0
  cleanup_none = cleanup_is S (omega arith) ∙ z

  -- "held time" is all that must fit, and the bound's unit is 10,080 if the longest estimate is
  pub hold_former : (e : ℕ) → hold_time S e ≡ wall_time e
  unfolding run_time
  hold_former e = omega (arith, hold_is S e, cleanup_none)

  pub unit_former : S.longest ≡ 10080 → unit S ≡ 10080
  unfolding unit
  unit_former l = hold_former (longest S) ∙ ap wall_time (longest_is S (omega arith) ∙ l)

  -- nodes are free at the end
  pub until_former : (j : Job) → is_cleaning j ≡ false → until S j ≡ j.start + wall_time j.estimate
  until_former j n = omega (arith, until_is S j n, hold_former j.estimate)

  pub end_former : (j : Job) → is_cleaning j ≡ false → end_of S j ≡ until S j
  unfolding run_time
  end_former j n = omega (arith, end_is S j, until_former j n)

  -- no job is in cleanup
  pub none_cleans : (clock : ℕ) (j : Job) → SoundJob S clock j → is_cleaning j ≡ false
  none_cleans clock j f =
      case (is_cleaning j)
      (λ c. absurd (omega (arith, f.holds (cleaning_holds j.state c), f.cleaned c, until_cleaning S j c, cleanup_none)))
      (λ c. c)

  -- who leaves is whom the call picks
  leaves_former : (m : Model) (c : ℕ) (s : Select) → Leaving m c s → (j : Job) → is_cleaning j ≡ false → leaves S s j ≡ picks s j
  leaves_former m c s l j n = go l
    where
      zero? : eqb (cleanup S) 0 ≡ true
      zero? = eq-eqb (cleanup S) 0 cleanup_none

      and-true : (b : Bool) → (b && true) ≡ b
      and-true true = refl
      and-true false = refl

      go : {c : ℕ} {s : Select} → Leaving m c s → leaves S s j ≡ picks s j
      go (early Complete t) = rw zero? (and-true (departs_as Complete t j))
      go (early Cancel t) = case (departs_as Cancel t j) (λ e. rw e) (λ e. rw e)
      go (in_time_lem h) = rw (n, zero?) (and-true (picks (ending m) j))

-- those that remain are those that the call does not pick, as they were
pub remaining_former : (m : Model) (c : ℕ) (s : Select) → Sound m → m.settings.cleanup ≡ 0 → Leaving m c s
    → (without m c s).jobs ≡ keep (λ (j : Job). not (picks s j)) m.jobs
remaining_former m c s v z l =
    map_same (ceased c s) (staying S s m.jobs) (λ j i. same j (keep_in (λ (j : Job). not (leaves S s j)) m.jobs i))
    ∙ keep_cong (λ (j : Job). not (leaves S s j)) (λ (j : Job). not (picks s j)) m.jobs
    (λ j i. ap not (leaves_former S z m c s l j (none_cleans S z m.clock j (v.each j i))))
  where
    S : Settings
    S = m.settings

    same : (j : Job) → In j m.jobs × (not (leaves S s j) ≡ true) → ceased c s j ≡ j
    same j i =
        case (ends s j)
        (λ e. absurd (omega (arith, (stays S s j (not-true (leaves S s j) i.1)).2 e, cleanup_none S z)))
        (λ e. rw e)
