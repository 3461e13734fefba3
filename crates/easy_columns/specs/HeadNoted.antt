-- The forecast of a new head, written into its column.
-- Assumes nothing.
use Rattle.std.specs.Prelude.{ℕ, ◌≤◌, ◌<◌, ◌≡◌, refl, true, length, get_or, set}
use Rattle.std.proofs.Common.{arith, ap, ◌∙◌, eq-eqb}
use Rattle.std.proofs.Math.Path.{sym, subst}
use Rattle.std.proofs.Math.Option.{Option, none, some}
use mathlib.Core.List.{List, map}
use Rattle.std.proofs.Math.ListN.{length-map}
use Rattle.lists.specs.Tests.{true_false}
use Rattle.lists.specs.Lists.{In, keep_all}
use Rattle.lists.specs.FirstLaws.{first_none, first_nowhere}
use Rattle.lists.specs.Pads.{pad}
use Rattle.lists.specs.Loops.{position, position_says}
use Rattle.scheduler.specs.declared.Settings.{Settings}
use Rattle.scheduler.specs.declared.Job.{Job}
use Rattle.scheduler.specs.Limits.{slots}
use Rattle.scheduler.specs.Jobs.{unused, is_holding, foretold}
use Rattle.scheduler.specs.Settings.{end_of, until}
use Rattle.scheduler.specs.Table.{ticket_of}
use Rattle.scheduler.specs.Model.{Model}
use Rattle.scheduler.specs.Answers.{Forecast, head_ticket, head_minute}
use Rattle.jobs.specs.Order.{Asc}
use Rattle.jobs.specs.Soundness.{Sound}
use Rattle.easy_rules.specs.Easy.{noting, noted}
use Rattle.easy_laws.specs.Settling.{sound_releasing}
use Rattle.easy_laws.specs.Noted.{notes_by, free_noted, sound_noted}
use Rattle.job_columns.specs.Columns.{Column, nodes_of, estimate_of, column_set, column_map}
use Rattle.job_columns.specs.JobColumns.{state_of, tenant_of, start_of, least_of, due_of, submitted_of, rank_of, forecast_of, JobColumns}
use Rattle.job_columns.specs.Searches.{place_of, has_ticket}
use Rattle.easy_engine.specs.Survey.{asks, Runs}
use Rattle.easy_columns.specs.EasyColumns.{QueueColumns, Holders}
use Rattle.easy_columns.specs.HoldersChange.{runs_kept, asc_once, once_set}

-- ## What a forecast does not change

module _ (f : Forecast) where
  noting_by : {A : Type 0} (g : Job → A) → ((t : ℕ) (j : Job) → g (foretold t j) ≡ g j) → (j : Job) → g (noting f j) ≡ g j
  noting_by g e j = notes_by g e (some f) j

  pub core_noted : {S : Settings} {js : List Job} {tickets nodes states dues starts tenants estimates leasts : List ℕ} {live : ℕ}
      → JobColumns S js tickets nodes states dues starts tenants estimates leasts live
      → JobColumns S (map (noting f) js) tickets nodes states dues starts tenants estimates leasts live
  unfolding until end_of
  core_noted {S} {js} c = record {
    live_is = length-map js (noting f) ∙ c.live_is;
    tickets_are = column_map ticket_of js _ c.tickets_are (noting f) (λ j i. noting_by ticket_of (λ t j. refl) j);
    nodes_are = column_map nodes_of js _ c.nodes_are (noting f) (λ j i. noting_by nodes_of (λ t j. refl) j);
    states_are = column_map state_of js _ c.states_are (noting f) (λ j i. noting_by state_of (λ t j. refl) j);
    dues_are = column_map (due_of S) js _ c.dues_are (noting f) (λ j i. noting_by (due_of S) (λ t j. refl) j);
    starts_are = column_map start_of js _ c.starts_are (noting f) (λ j i. noting_by start_of (λ t j. refl) j);
    tenants_are = column_map tenant_of js _ c.tenants_are (noting f) (λ j i. noting_by tenant_of (λ t j. refl) j);
    estimates_are = column_map estimate_of js _ c.estimates_are (noting f) (λ j i. noting_by estimate_of (λ t j. refl) j);
    leasts_are = column_map least_of js _ c.leasts_are (noting f) (λ j i. noting_by least_of (λ t j. refl) j);
  }

  pub queue_noted : {js : List Job} {asked submitted ranks forecasts after : List ℕ} → QueueColumns js asked submitted ranks forecasts
      → Column forecast_of (map (noting f) js) after → QueueColumns (map (noting f) js) asked submitted ranks after
  queue_noted {js} q c = record {
    asked_are = column_map asks js _ q.asked_are (noting f) (λ j i. noting_by asks (λ t j. refl) j);
    submitted_are = column_map submitted_of js _ q.submitted_are (noting f) (λ j i. noting_by submitted_of (λ t j. refl) j);
    ranks_are = column_map rank_of js _ q.ranks_are (noting f) (λ j i. noting_by rank_of (λ t j. refl) j);
    forecasts_are = c;
  }

  pub holders_noted : {m : Model} {held ends holders : List ℕ} {holding spare : ℕ} → Sound m → Holders m held ends holders holding spare
      → Holders (noted (some f) m) held ends holders holding spare
  unfolding until
  holders_noted {m} s h =
      let rs = h.jobs in
      let S = m.settings in
      let k = h.holds in
      record {
        jobs = map (noting f) rs;
        holds = record {
          releasing = sound_releasing (noted (some f) m) (sound_noted (some f) m s);
          runs =
              subst (λ (xs : List Job). Runs (noted (some f) m) (map (noting f) xs)) (keep_all (λ (j : Job). true) rs (λ j i. refl))
              (runs_kept m (noted (some f) m) (λ (j : Job). true) (noting f) (λ j. noting_by is_holding (λ t j. refl) j)
              (ap (map (noting f)) (sym (keep_all (λ (j : Job). true) m.jobs (λ j i. refl)))) rs k.runs);
          held_is = column_map nodes_of rs _ k.held_is (noting f) (λ j i. noting_by nodes_of (λ t j. refl) j);
          ends_is = column_map (until S) rs _ k.ends_is (noting f) (λ j i. noting_by (until S) (λ t j. refl) j);
          count_is = length-map rs (noting f) ∙ k.count_is;
          spare_is = k.spare_is ∙ sym (free_noted (some f) m);
        };
        holders_are = column_map ticket_of rs _ h.holders_are (noting f) (λ j i. noting_by ticket_of (λ t j. refl) j);
      }

-- ## The forecast in its place

-- a job of these has the ticket of the new head
abbrev pub Heard : List Job → Option Forecast → Type 0
Heard js o = (f : Forecast) → o ≡ some f → (1 ≤ f.ticket) × (j : Job) × In j js × (j.ticket ≡ f.ticket)

-- it stands at its place, and the store there writes the forecast
module _ (js : List Job) (a : Asc 1 js) (f : Forecast) (live at : ℕ) (n : length js ≡ live) (e : at ≡ place_of (position (has_ticket f.ticket) js) live) where
  pub noted_place : (j : Job) → In j js → j.ticket ≡ f.ticket → at < live
  noted_place j i q = by (position (has_ticket f.ticket) js) refl
    where
      by : (o : Option ℕ) → position (has_ticket f.ticket) js ≡ o → at < live
      by none x = true_false (has_ticket f.ticket j) (eq-eqb j.ticket f.ticket q)
          (first_none (has_ticket f.ticket) js (first_nowhere (has_ticket f.ticket) js 0 x) j i)
      by (some k) x =
          let h = position_says unused (has_ticket f.ticket) js 0 k x in
          omega (arith, h.at_is, h.inside, n, e ∙ ap (λ (o : Option ℕ). place_of o live) x)

  pub noted_stored : at < live → (forecasts : List ℕ) → Column forecast_of js forecasts
      → Column forecast_of (map (noting f) js) (set forecasts at f.minute)
  noted_stored l forecasts c = by (position (has_ticket f.ticket) js) refl
    where
      by : (o : Option ℕ) → position (has_ticket f.ticket) js ≡ o → Column forecast_of (map (noting f) js) (set forecasts at f.minute)
      by none x = absurd (omega (arith, e ∙ ap (λ (o : Option ℕ). place_of o live) x))
      by (some k) x =
          let h = position_says unused (has_ticket f.ticket) js 0 k x in
          let z : at ≡ h.at = omega (arith, h.at_is, e ∙ ap (λ (o : Option ℕ). place_of o live) x) in
          let t : has_ticket f.ticket (get_or js at unused) ≡ true = ap (λ (i : ℕ). has_ticket f.ticket (get_or js i unused)) z ∙ h.passes in
          column_set forecast_of js forecasts c at (foretold f.minute (get_or js at unused)) f.minute (omega arith) refl
          ∙ ap (λ (ks : List Job). pad slots 0 (map forecast_of ks))
          (sym (once_set (has_ticket f.ticket) (foretold f.minute) js at (omega arith) t (asc_once f.ticket 1 js a)))

-- ## By the numbers of the answer

-- a head of 0 says none
pub none_heard : (js : List Job) (o : Option Forecast) → Heard js o → 0 ≡ head_ticket o → o ≡ none
none_heard js none h e = refl
none_heard js (some f) h e = absurd (omega (arith, (h f refl).0))

module _ (m : Model) (a : Asc 1 m.jobs) (o : Option Forecast) (h : Heard m.jobs o) (live ticket minute at : ℕ) (n : length m.jobs ≡ live)
    (et : ticket ≡ head_ticket o) (em : minute ≡ head_minute o) (new : ticket ≡ 0 → ⊥)
    (e : at ≡ place_of (position (has_ticket ticket) m.jobs) live) where
  by_forecast : {P : Type 0} → ((f : Forecast) → o ≡ some f → ticket ≡ f.ticket → minute ≡ f.minute → P) → P
  by_forecast {P} k = go o refl
    where
      go : (x : Option Forecast) → o ≡ x → P
      go none q = absurd (new (et ∙ ap head_ticket q))
      go (some f) q = k f q (et ∙ ap head_ticket q) (em ∙ ap head_minute q)

  pub head_place : at < live
  head_place =
      by_forecast (λ f q t s. let j = h f q in
      noted_place m.jobs a f live at n (e ∙ ap (λ (t : ℕ). place_of (position (has_ticket t) m.jobs) live) t) j.1 j.2 j.3)

  pub head_stored : at < live → (forecasts : List ℕ) → Column forecast_of m.jobs forecasts
      → Column forecast_of (noted o m).jobs (set forecasts at minute)
  head_stored l forecasts c =
      by_forecast (λ f q t s.
      ap (λ (n : ℕ). set forecasts at n) s
      ∙ noted_stored m.jobs a f live at n (e ∙ ap (λ (t : ℕ). place_of (position (has_ticket t) m.jobs) live) t) l forecasts c
      ∙ ap (λ (x : Option Forecast). pad slots 0 (map forecast_of (noted x m).jobs)) (sym q))
