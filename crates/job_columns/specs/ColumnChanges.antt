-- What becomes of the columns where a job comes in, begins, is in cleanup or leaves.
-- Assumes nothing.
use Rattle.std.specs.Prelude.{ℕ, ◌+◌, ◌-◌, ◌<◌, ◌≡◌, refl, List, [], ◌∷◌, ◌++◌, length, get_or, set}
use Rattle.std.proofs.Common.{arith, sym, ◌∙◌, length-append, length-set}
use Rattle.scheduler.specs.declared.State.TheVariants.{Running}
use Rattle.scheduler.specs.declared.Settings.{Settings}
use Rattle.scheduler.specs.declared.Job.{Job}
use Rattle.scheduler.specs.Limits.{slots}
use Rattle.scheduler.specs.Jobs.{unused, job_at, cleaning}
use Rattle.scheduler.specs.Settings.{run_time, cleanup}
use Rattle.scheduler.specs.Table.{ticket_of}
use Rattle.job_columns.specs.Removal.{remove_at, removed_length}
use Rattle.job_columns.specs.Columns.{nodes_of, estimate_of, column_push, column_set, column_still}
use Rattle.job_columns.specs.JobColumns.{state_of, tenant_of, start_of, least_of, due_of, JobColumns}
use Rattle.job_columns.specs.Encoding.{due_begun, due_cleaned}

module _ {S : Settings} {js : List Job} {tickets nodes states dues starts tenants estimates leasts : List ℕ} {live : ℕ}
    (c : JobColumns S js tickets nodes states dues starts tenants estimates leasts live) where
  -- a job comes in, last
  pub columns_joined : (j : Job) (state due tenant : ℕ) → live < slots → state ≡ state_of j → due ≡ due_of S j → tenant ≡ tenant_of j
      → JobColumns S (js ++ (j ∷ [])) (set tickets live j.ticket) (set nodes live j.nodes) (set states live state) (set dues live due)
      (set starts live j.start) (set tenants live tenant) (set estimates live j.estimate) (set leasts live j.least) (live + 1)
  columns_joined j state due tenant l es ed et =
      let n = c.live_is in
      record {
        live_is = omega (arith, length-append js (j ∷ []), n);
        tickets_are = column_push ticket_of js tickets c.tickets_are j live j.ticket n l refl;
        nodes_are = column_push nodes_of js nodes c.nodes_are j live j.nodes n l refl;
        states_are = column_push state_of js states c.states_are j live state n l es;
        dues_are = column_push (due_of S) js dues c.dues_are j live due n l ed;
        starts_are = column_push start_of js starts c.starts_are j live j.start n l refl;
        tenants_are = column_push tenant_of js tenants c.tenants_are j live tenant n l et;
        estimates_are = column_push estimate_of js estimates c.estimates_are j live j.estimate n l refl;
        leasts_are = column_push least_of js leasts c.leasts_are j live j.least n l refl;
      }

  module _ (at : ℕ) (l : at < live) where
    inside : at < length js
    inside = omega (arith, c.live_is)

    -- the job in this place runs from now on
    pub columns_begun : (clock due : ℕ) → due ≡ clock + run_time S (get_or js at unused).estimate
        → JobColumns S (set js at (job_at Running clock (get_or js at unused))) tickets nodes (set states at 2) (set dues at due) (set starts at clock)
        tenants estimates leasts live
    columns_begun clock due e =
        let j = job_at Running clock (get_or js at unused) in
        record {
          live_is = length-set js at j ∙ c.live_is;
          tickets_are = column_still ticket_of js tickets c.tickets_are unused at j refl;
          nodes_are = column_still nodes_of js nodes c.nodes_are unused at j refl;
          states_are = column_set state_of js states c.states_are at j 2 inside refl;
          dues_are = column_set (due_of S) js dues c.dues_are at j due inside (e ∙ sym (due_begun S (get_or js at unused) clock));
          starts_are = column_set start_of js starts c.starts_are at j clock inside refl;
          tenants_are = column_still tenant_of js tenants c.tenants_are unused at j refl;
          estimates_are = column_still estimate_of js estimates c.estimates_are unused at j refl;
          leasts_are = column_still least_of js leasts c.leasts_are unused at j refl;
        }

    -- its run has ended, and its nodes are not free yet
    pub columns_cleaned : (clock due : ℕ) → due ≡ clock + cleanup S
        → JobColumns S (set js at (cleaning clock (get_or js at unused))) tickets nodes (set states at 3) (set dues at due) starts tenants estimates
        leasts live
    columns_cleaned clock due e =
        let j = cleaning clock (get_or js at unused) in
        record {
          live_is = length-set js at j ∙ c.live_is;
          tickets_are = column_still ticket_of js tickets c.tickets_are unused at j refl;
          nodes_are = column_still nodes_of js nodes c.nodes_are unused at j refl;
          states_are = column_set state_of js states c.states_are at j 3 inside refl;
          dues_are = column_set (due_of S) js dues c.dues_are at j due inside (e ∙ sym (due_cleaned S (get_or js at unused) clock));
          starts_are = column_still start_of js starts c.starts_are unused at j refl;
          tenants_are = column_still tenant_of js tenants c.tenants_are unused at j refl;
          estimates_are = column_still estimate_of js estimates c.estimates_are unused at j refl;
          leasts_are = column_still least_of js leasts c.leasts_are unused at j refl;
        }

    -- and one job less is live where it leaves
    pub removed_live : length (remove_at at js) ≡ live - 1
    removed_live = omega (arith, removed_length at js inside, c.live_is)
