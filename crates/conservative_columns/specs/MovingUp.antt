-- Whoever waits moves up once a job has left the columns: what it gives back is taken out of the points, the passes go over them, the index is
-- built anew, and those that start are listed.
-- Assumes nothing.
use Rattle.std.specs.Prelude.{ℕ, ◌≤◌, ◌≡◌, List, length}
use Rattle.std.proofs.Common.{arith}
use Rattle.std.proofs.lemmas.List.{length-map}
use Rattle.spans.specs.declared.Span.{Span}
use Rattle.scheduler.specs.declared.Job.{Job}
use Rattle.scheduler.specs.declared.Settings.{Settings}
use Rattle.scheduler.specs.Limits.{slots}
use Rattle.scheduler.specs.Settings.{cleanup}
use Rattle.job_columns.specs.Columns.{Column}
use Rattle.job_columns.specs.JobColumns.{hold_of, JobColumns}
use Rattle.column_parts.specs.ColumnParts.{Listing}
use Rattle.conservative_table.specs.declared.Row.{Row}
use Rattle.conservative_table.specs.ListChanges.{rows}
use Rattle.conservative_table.specs.ProfileLists.{IsProfile, Lifting, Changed}
use Rattle.conservative_index.specs.BuiltIndex.{Built, Indexed}
use Rattle.conservative_rules.specs.Conservative.{span, spans, begun, compressed}
use Rattle.conservative_plan.specs.Pass.{Before}
use Rattle.conservative_plan.specs.StoredPass.{compressed_length}
use Rattle.conservative_kept.specs.Beside.{index_builds}
use Rattle.conservative_columns.specs.Counted.{MovedUp}
use Rattle.conservative_columns.specs.Passes.{Passing, Passed}
use Rattle.conservative_columns.specs.Started.{Compared}

-- the columns are of jobs over which passes can go; the points are their profile once this span is taken out of them
pub record MovesUp (tickets nodes states dues starts holds ms fs lo hi : List ℕ) (live n : ℕ) (x : Span) (clock clear : ℕ) : Type 0 where
  pub settings : Settings
  pub jobs : List Job
  pub tenants : List ℕ
  pub estimates : List ℕ
  pub leasts : List ℕ
  pub core : JobColumns settings jobs tickets nodes states dues starts tenants estimates leasts live
  pub holds_are : Column (hold_of settings) jobs holds
  pub before : Before live settings clock jobs
  pub clear_is : clear ≡ cleanup settings
  pub lifting : Lifting ms fs 0 n x
  pub lifted : {r : Row} {ms' fs' : List ℕ} → ((l : Lifting ms fs 0 n x) → Changed l.machine l.others l.now x ms fs n r ms' fs')
      → IsProfile settings.nodes (spans settings jobs) clock r.count ms' fs'
  pub low_long : length lo ≡ 9
  pub high_long : length hi ≡ 9

module _ {tickets nodes states dues starts holds ms fs lo hi : List ℕ} {live n : ℕ} {x : Span} {clock clear : ℕ}
    (q : MovesUp tickets nodes states dues starts holds ms fs lo hi live n x clock clear) where
  -- the jobs after the passes
  abbrev pub after : List Job
  after = compressed q.settings clock q.jobs

  pub record MovedTo (r : MovedUp) (states' dues' starts' started ms' fs' lo' hi' : List ℕ) : Type 0 where
    pub core : JobColumns q.settings after tickets nodes states' dues' starts' q.tenants q.estimates q.leasts live
    pub profile : IsProfile q.settings.nodes (spans q.settings after) clock r.count ms' fs'
    pub indexed : Indexed fs' r.count lo' hi'
    pub listing : Listing (begun q.jobs after) started r.started

  pub few_live : live ≤ slots
  few_live = q.before.fits.few

  module _ {r : Row} {ms₁ fs₁ : List ℕ} (f : (l : Lifting ms fs 0 n x) → Changed l.machine l.others l.now x ms fs n r ms₁ fs₁) where
    pub passing : Passing nodes states holds dues starts ms₁ fs₁ live r.count clock clear
    passing = record {
      settings = q.settings;
      jobs = q.jobs;
      tickets = tickets;
      tenants = q.tenants;
      estimates = q.estimates;
      leasts = q.leasts;
      columns = q.core;
      holds_are = q.holds_are;
      before = q.before;
      profile = q.lifted f;
      clear_is = q.clear_is;
    }

    module _ {states' dues' starts' ms₂ fs₂ : List ℕ} {n₂ : ℕ}
        (g : (p : Passing nodes states holds dues starts ms₁ fs₁ live r.count clock clear) → Passed p states' dues' starts' n₂ ms₂ fs₂) where
      pub core_after : JobColumns q.settings after tickets nodes states' dues' starts' q.tenants q.estimates q.leasts live
      unfolding passing
      core_after = (g passing).columns

      pub profile_after : IsProfile q.settings.nodes (spans q.settings after) clock n₂ ms₂ fs₂
      unfolding passing
      profile_after = (g passing).profile

      pub index_ready : Built fs₂ n₂ lo hi 0 × (length fs₂ ≡ rows) × (n₂ ≤ rows) × (0 ≤ 9)
      index_ready =
          index_builds profile_after
          (omega (arith, length-map after (span q.settings), compressed_length q.settings clock q.jobs, q.before.fits.all, few_live)) q.low_long
          q.high_long

      pub compared : Compared q.jobs after tickets states states' live
      compared = record {
        tickets_are = q.core.tickets_are;
        was_are = q.core.states_are;
        states_are = core_after.states_are;
        before_is = q.core.live_is;
        after_is = core_after.live_is;
      }
