-- The columns of a scheduler once its jobs are spread: what its kind keeps besides, and 0 where it keeps nothing.
-- Assumes nothing.
use Rattle.std.specs.Prelude.{ℕ, ◌≤◌, ◌≡◌, refl, List, length}
use Rattle.std.proofs.Common.{arith}
use Rattle.scheduler.specs.declared.Kind.TheVariants.{Conservative, Easy}
use Rattle.scheduler.specs.declared.Job.{Job}
use Rattle.scheduler.specs.declared.Scheduler.{Scheduler}
use Rattle.scheduler.specs.Limits.{slots}
use Rattle.scheduler.specs.Model.{view}
use Rattle.jobs.specs.Soundness.{Sound}
use Rattle.jobs.specs.Premise.{Holds, holds_as}
use Rattle.job_columns.specs.Columns.{Column, Blank, zero_column}
use Rattle.job_columns.specs.JobColumns.{AllColumns, hold_of, promise_of, submitted_of, rank_of, forecast_of}
use Rattle.easy_columns.specs.Counted.{Taken}
use Rattle.easy_columns.specs.EasyBegin.{Beginning, Begins}
use Rattle.guarantees.specs.Premise.{Valid, Premise, premise_of, valid_sound, premise_sound}
use Rattle.kept_calls.specs.KeptPoints.{KeptBeside, not_easy}
use Rattle.column_calls.specs.CallColumns.{KindColumns}

-- the premise of spreading
pub premise_spreads : (d : Scheduler) → Premise d → Holds Sound d
premise_spreads d h = holds_as Valid Sound d valid_sound h

module _ (d : Scheduler) (h : Premise d) {tickets nodes states dues starts tenants estimates leasts promises submitted ranks forecasts : List ℕ} {live : ℕ}
    (c : AllColumns d.settings (view d).jobs tickets nodes states dues starts tenants estimates leasts promises submitted ranks forecasts live) where
  abbrev js : List Job
  js = (view d).jobs

  few : length js ≤ slots
  few = (premise_sound d h).few

  pub spread_few : live ≤ slots
  spread_few = omega (arith, c.core.live_is, few)

  -- of a conservative one
  pub begun_conservative : d.settings.kind ≡ Conservative → {count holding spare : ℕ} {holds asked held ends holders ms fs lo hi : List ℕ}
      → Column (hold_of d.settings) js holds → KeptBeside (view d) count ms fs lo hi
      → KindColumns (view d) tickets nodes states dues starts tenants estimates leasts holds promises asked submitted ranks forecasts held ends holders
      ms fs lo hi live count holding spare
  unfolding view
  begun_conservative e l b =
      let v = (premise_of d Conservative e h).holds in
      record {
        conservative = λ z. record {
          columns = record { core = c.core; holds_are = l; promises_are = c.promises_are; beside = b.beside e };
          submitted_none = zero_column submitted_of js submitted (λ j i. (v.unranked j i).0) few c.submitted_are;
          ranks_none = zero_column rank_of js ranks (λ j i. (v.unranked j i).1) few c.ranks_are;
          forecasts_none = zero_column forecast_of js forecasts (λ j i. (v.unranked j i).2) few c.forecasts_are;
        };
        easy = λ z. not_easy d.settings.kind z e;
      }

  -- of one of EASY
  pub easy_begins : {asked held ends holders : List ℕ} → Blank asked → Blank held → Blank ends → Blank holders
      → Beginning tickets nodes states dues asked held ends holders live d.settings
  unfolding view
  easy_begins a l f o = record {
    model = view d;
    sound = premise_sound d h;
    settings_is = refl;
    starts = starts;
    tenants = tenants;
    estimates = estimates;
    leasts = leasts;
    core = c.core;
    asked_none = a;
    held_none = l;
    ends_none = f;
    holders_none = o;
  }

  pub begun_easy : d.settings.kind ≡ Easy → {asked held ends holders : List ℕ} (a : Blank asked) (l : Blank held) (f : Blank ends) (o : Blank holders)
      → {r : Taken} {asked' held' ends' holders' : List ℕ} → Begins (easy_begins a l f o).model asked' held' ends' holders' r
      → {count : ℕ} {holds ms fs lo hi : List ℕ}
      → KindColumns (view d) tickets nodes states dues starts tenants estimates leasts holds promises asked' submitted ranks forecasts held' ends' holders'
      ms fs lo hi live count r.holding r.spare
  unfolding view easy_begins
  begun_easy e a l f o b = record {
    conservative = λ z. not_easy d.settings.kind e z;
    easy = λ z. record {
      columns = record {
        core = c.core;
        queue = record {
          asked_are = b.asked_are;
          submitted_are = c.submitted_are;
          ranks_are = c.ranks_are;
          forecasts_are = c.forecasts_are;
        };
        held_by = b.held_by;
      };
      promises_none = zero_column promise_of js promises (premise_of d Easy e h).holds.ready.promises few c.promises_are;
    };
  }
