-- A scheduler spread into columns, and gathered from them.
-- Assumes nothing.
use Rattle.std.specs.Prelude.{ℕ, ◌+◌, ◌-◌, ◌≤◌, ◌<◌, ◌≡◌, refl, false, List, [], ◌∷◌, ◌++◌, length, get_or, set, take, replicate}
use Rattle.std.proofs.Common.{arith, add-one, sym, ap, ◌∙◌, take-suc, take_all}
use Rattle.std.proofs.Math.ListN.{get_or-append}
use Rattle.lists.specs.Lists.{in_getD}
use Rattle.lists.specs.Pads.{pad}
use Rattle.scheduler.specs.declared.State.{State}
use Rattle.scheduler.specs.declared.Tenant.{Tenant}
use Rattle.scheduler.specs.declared.Settings.{Settings}
use Rattle.scheduler.specs.declared.Job.{Job}
use Rattle.scheduler.specs.declared.Scheduler.{Scheduler}
use Rattle.scheduler.specs.Limits.{slots, max_nodes, longest_estimate}
use Rattle.scheduler.specs.Jobs.{unused, is_cleaning}
use Rattle.scheduler.specs.Settings.{cleanup}
use Rattle.scheduler.specs.Times.{longest_le}
use Rattle.scheduler.specs.Table.{ticket_of}
use Rattle.scheduler.specs.Model.{Model, store, view}
use Rattle.jobs.specs.Soundness.{Sound, SoundJob}
use Rattle.jobs.specs.Premise.{Holds}
use Rattle.jobs.specs.Slots.{slots_are}
use Rattle.job_columns.specs.Columns.{Blank, nodes_of, estimate_of, column_at, column_push}
use Rattle.job_columns.specs.JobColumns.{state_of, tenant_of, start_of, least_of, promise_of, submitted_of, rank_of, forecast_of, due_of, JobColumns, AllColumns}
use Rattle.job_columns.specs.Encoding.{state_at, tenant_at, end_at, state_back, tenant_back, due_after, end_back}

-- all lists are 0
pub record Blanks (tickets nodes states dues starts tenants estimates leasts promises submitted ranks forecasts : List ℕ) : Type 0 where
  pub tickets_are : Blank tickets
  pub nodes_are : Blank nodes
  pub states_are : Blank states
  pub dues_are : Blank dues
  pub starts_are : Blank starts
  pub tenants_are : Blank tenants
  pub estimates_are : Blank estimates
  pub leasts_are : Blank leasts
  pub promises_are : Blank promises
  pub submitted_are : Blank submitted
  pub ranks_are : Blank ranks
  pub forecasts_are : Blank forecasts

-- the numbers in a place fit the fields of a job
pub record RowFits (nodes states dues estimates leasts : List ℕ) (i clearing : ℕ) : Type 0 where
  pub nodes_low : get_or nodes i 0 ≤ max_nodes
  pub estimate_low : get_or estimates i 0 ≤ longest_estimate
  pub least_low : get_or leasts i 0 ≤ longest_estimate
  pub due_late : get_or states i 0 ≡ 3 → clearing ≤ get_or dues i 0

-- "its record, and no other, keeps its end"
abbrev pub NoEnd : Job → Type 0
NoEnd j = is_cleaning j ≡ false → j.end ≡ 0

-- the columns are those of a sound model, with its settings, clock and next ticket
pub record SchedulerColumns (S : Settings) (clock next : ℕ)
    (tickets nodes states dues starts tenants estimates leasts promises submitted ranks forecasts : List ℕ) (live : ℕ) : Type 0 where
  pub model : Model
  pub sound : Sound model
  pub settings_is : S ≡ model.settings
  pub clock_is : clock ≡ model.clock
  pub next_is : next ≡ model.next
  pub columns : AllColumns model.settings model.jobs tickets nodes states dues starts tenants estimates leasts promises submitted ranks forecasts live

-- ## Spread, job by job

-- of no job
pub all_none : (S : Settings) {tickets nodes states dues starts tenants estimates leasts promises submitted ranks forecasts : List ℕ}
    → Blanks tickets nodes states dues starts tenants estimates leasts promises submitted ranks forecasts
    → AllColumns S [] tickets nodes states dues starts tenants estimates leasts promises submitted ranks forecasts 0
all_none S b = record {
  core = record {
    live_is = refl;
    tickets_are = b.tickets_are;
    nodes_are = b.nodes_are;
    states_are = b.states_are;
    dues_are = b.dues_are;
    starts_are = b.starts_are;
    tenants_are = b.tenants_are;
    estimates_are = b.estimates_are;
    leasts_are = b.leasts_are;
  };
  promises_are = b.promises_are;
  submitted_are = b.submitted_are;
  ranks_are = b.ranks_are;
  forecasts_are = b.forecasts_are;
}

module _ {S : Settings} (js : List Job) {tickets nodes states dues starts tenants estimates leasts promises submitted ranks forecasts : List ℕ} {i : ℕ}
    (c : AllColumns S (take i js) tickets nodes states dues starts tenants estimates leasts promises submitted ranks forecasts i) where
  -- of one more
  pub all_more : {tickets' nodes' states' dues' starts' tenants' estimates' leasts' : List ℕ} (j : Job) → i < length js → i < slots → j ≡ get_or js i unused
      → JobColumns S (take i js ++ (j ∷ [])) tickets' nodes' states' dues' starts' tenants' estimates' leasts' (i + 1)
      → AllColumns S (take (i + 1) js) tickets' nodes' states' dues' starts' tenants' estimates' leasts' (set promises i j.promise)
      (set submitted i j.submitted) (set ranks i j.rank) (set forecasts i j.forecast) (i + 1)
  all_more j l q e k =
      let n = c.core.live_is in
      let grown : take i js ++ (j ∷ []) ≡ take (i + 1) js =
      ap (λ (x : Job). take i js ++ (x ∷ [])) e ∙ sym (ap (λ (m : ℕ). take m js) (add-one i) ∙ take-suc js i unused l) in
      rw (← grown) (record {
        core = k;
        promises_are = column_push promise_of (take i js) promises c.promises_are j i j.promise n q refl;
        submitted_are = column_push submitted_of (take i js) submitted c.submitted_are j i j.submitted n q refl;
        ranks_are = column_push rank_of (take i js) ranks c.ranks_are j i j.rank n q refl;
        forecasts_are = column_push forecast_of (take i js) forecasts c.forecasts_are j i j.forecast n q refl;
      })

  -- of all
  pub all_whole : length js ≤ i → AllColumns S js tickets nodes states dues starts tenants estimates leasts promises submitted ranks forecasts i
  all_whole l = rw (take_all i js l) at c

-- a live job stands in the slot of its place
pub slot_is : (d : Scheduler) → Holds Sound d → (i : ℕ) → i < length (view d).jobs → get_or d.jobs i unused ≡ get_or (view d).jobs i unused
unfolding store pad
slot_is d h i l =
    ap (λ (js : List Job). get_or js i unused) (slots_are d h)
    ∙ get_or-append (view d).jobs (replicate (slots - length (view d).jobs) unused) unused i l

-- ## The job in a place

module _ {S : Settings} {js : List Job} {tickets nodes states dues starts tenants estimates leasts promises submitted ranks forecasts : List ℕ}
    {live : ℕ} (c : AllColumns S js tickets nodes states dues starts tenants estimates leasts promises submitted ranks forecasts live) (i : ℕ)
    (l : i < live) where
  abbrev job : Job
  job = get_or js i unused

  inside : i < length js
  inside = omega (arith, c.core.live_is)

  state_is : get_or states i 0 ≡ state_of job
  state_is = column_at state_of js states c.core.states_are unused i inside

  due_is : get_or dues i 0 ≡ due_of S job
  due_is = column_at (due_of S) js dues c.core.dues_are unused i inside

  -- its fields by the numbers in its place
  pub row_back : (clearing : ℕ) (state : State) (tenant : Tenant) (end : ℕ) → clearing ≡ cleanup S → NoEnd job → state ≡ state_at (get_or states i 0)
      → tenant ≡ tenant_at (get_or tenants i 0) → end ≡ end_at (get_or states i 0) (get_or dues i 0) clearing
      → record {
        ticket = get_or tickets i 0;
        nodes = get_or nodes i 0;
        estimate = get_or estimates i 0;
        state = state;
        tenant = tenant;
        least = get_or leasts i 0;
        start = get_or starts i 0;
        promise = get_or promises i 0;
        end = end;
        submitted = get_or submitted i 0;
        rank = get_or ranks i 0;
        forecast = get_or forecasts i 0;
      } ≡ job
  row_back clearing state tenant end z n es et ee =
      let k = c.core in
      let state-back-is : state ≡ job.state = es ∙ ap state_at state_is ∙ state_back job.state in
      let tenant-back-is : tenant ≡ job.tenant = et ∙ ap tenant_at (column_at tenant_of js tenants k.tenants_are unused i inside) ∙ tenant_back job.tenant in
      let end-back-is : end ≡ job.end = ee ∙ rw (state_is, due_is, z) (end_back S job n) in
      λ q. record {
        ticket = column_at ticket_of js tickets k.tickets_are unused i inside q;
        nodes = column_at nodes_of js nodes k.nodes_are unused i inside q;
        estimate = column_at estimate_of js estimates k.estimates_are unused i inside q;
        state = state-back-is q;
        tenant = tenant-back-is q;
        least = column_at least_of js leasts k.leasts_are unused i inside q;
        start = column_at start_of js starts k.starts_are unused i inside q;
        promise = column_at promise_of js promises c.promises_are unused i inside q;
        end = end-back-is q;
        submitted = column_at submitted_of js submitted c.submitted_are unused i inside q;
        rank = column_at rank_of js ranks c.ranks_are unused i inside q;
        forecast = column_at forecast_of js forecasts c.forecasts_are unused i inside q;
      }

-- of a sound model the numbers fit
module _ {S : Settings} {clock next : ℕ} {tickets nodes states dues starts tenants estimates leasts promises submitted ranks forecasts : List ℕ}
    {live : ℕ} (k : SchedulerColumns S clock next tickets nodes states dues starts tenants estimates leasts promises submitted ranks forecasts live)
    (i : ℕ) (l : i < live) where
  abbrev its : Job
  its = get_or k.model.jobs i unused

  its_sound : SoundJob k.model.settings k.model.clock its
  its_sound = k.sound.each its (in_getD k.model.jobs i unused (inside k.columns i l))

  pub row_end : NoEnd its
  row_end = its_sound.no_end

  pub row_fits : RowFits nodes states dues estimates leasts i (cleanup S)
  row_fits =
      let c = k.columns.core in
      let js = k.model.jobs in
      let T = k.model.settings in
      let h = inside k.columns i l in
      record {
        nodes_low = omega (arith, column_at nodes_of js nodes c.nodes_are unused i h, its_sound.nodes_to, k.sound.nodes_to);
        estimate_low = omega (arith, column_at estimate_of js estimates c.estimates_are unused i h, its_sound.estimate_to, longest_le T);
        least_low = omega (arith, column_at least_of js leasts c.leasts_are unused i h, its_sound.least_to, its_sound.estimate_to, longest_le T);
        due_late = λ e. omega (arith, due_after T its (sym (state_is k.columns i l) ∙ e), due_is k.columns i l, ap cleanup k.settings_is);
      }

-- ## There and back

-- what a scheduler is spread into is gathered to that scheduler
module _ (d : Scheduler) (h : Holds Sound d) where
  pub spread_columns : {tickets nodes states dues starts tenants estimates leasts promises submitted ranks forecasts : List ℕ} {live : ℕ}
      → AllColumns d.settings (view d).jobs tickets nodes states dues starts tenants estimates leasts promises submitted ranks forecasts live
      → SchedulerColumns d.settings d.clock d.next tickets nodes states dues starts tenants estimates leasts promises submitted ranks forecasts live
  unfolding view
  spread_columns c = record { model = view d; sound = h.holds; settings_is = refl; clock_is = refl; next_is = refl; columns = c }

  pub gathered_back : store (view d) ≡ d
  gathered_back = sym h.stored
