-- Jobs leave over columns: this kind's own columns, and who holds nodes then.
-- Assumes nothing.
use Rattle.std.specs.Prelude.{ℕ, suc, ◌-◌, ◌≤◌, ◌<◌, ◌≡◌, true, false, not, List, length, take}
use Rattle.std.proofs.Common.{arith, sym, subst, ◌∙◌, eq-eqb, lt-ltb, le-ltb}
use Rattle.std.proofs.Math.Path.{refl, ap}
use Rattle.std.proofs.lemmas.Bool.{not-false}
use Rattle.lists.specs.Tests.{case, true_false}
use Rattle.lists.specs.Lists.{any, elem}
use Rattle.lists.specs.Pads.{pad}
use Rattle.scheduler.specs.declared.Settings.{Settings}
use Rattle.scheduler.specs.declared.Job.{Job}
use Rattle.scheduler.specs.declared.Departure.{Departure}
use Rattle.scheduler.specs.declared.Departure.TheVariants.{Complete, Cancel}
use Rattle.scheduler.specs.declared.Refusal.TheVariants as refusal
use Rattle.scheduler.specs.declared.Request.TheVariants as request
use Rattle.scheduler.specs.declared.Select.{Select}
use Rattle.scheduler.specs.declared.Select.TheVariants as select
use Rattle.scheduler.specs.declared.State.{State}
use Rattle.scheduler.specs.declared.State.TheVariants.{Unused, Waiting, Running, Cleanup}
use Rattle.scheduler.specs.States.{running?, waiting?}
use Rattle.scheduler.specs.Limits.{slots}
use Rattle.scheduler.specs.Jobs.{picks}
use Rattle.scheduler.specs.Settings.{horizon, cleanup}
use Rattle.scheduler.specs.Table.{ends, ceased, remaining}
use Rattle.scheduler.specs.Model.{Model, without}
use Rattle.scheduler.specs.Answers.{verdict, accepts, refuse}
use Rattle.scheduler.specs.Refusals.{not_there_of, depart_refusal, tick_refusal}
use Rattle.jobs.specs.Departing.{Ran, not_there, left_ran, departs_alone}
use Rattle.jobs.specs.Soundness.{Sound, passed, ends_runs}
use Rattle.history.specs.Calls.{depart, tick}
use Rattle.easy_rules.specs.Easy.{call}
use Rattle.job_table.specs.Parts.{Own, refused_own, leaving, withdrawn_by, departing, own_taken, own_refused}
use Rattle.job_columns.specs.Removal.{removes}
use Rattle.job_columns.specs.JobColumns.{submitted_of, rank_of, forecast_of}
use Rattle.column_parts.specs.ColumnParts.{Gone, elapsed}
use Rattle.column_parts.specs.GoneColumns.{gone_column, gone_nobody}
use Rattle.easy_engine.specs.Survey.{asks}
use Rattle.easy.specs.Parts.{own}
use Rattle.easy_columns.specs.EasyColumns.{QueueColumns, Holders}
use Rattle.easy_columns.specs.HoldersLeave.{Ending, holders_withdrawn}

-- ## This kind's own columns

runs_waits : (s : State) → running? s ≡ true → waiting? s ≡ false
runs_waits Unused e = refl
runs_waits Waiting e = true_false false e refl
runs_waits Running e = refl
runs_waits Cleanup e = refl

-- a run that ends changes none of them
ceased_by : (f : Job → ℕ) (now : ℕ) (s : Select) (j : Job) → (ends s j ≡ true → f (ceased now s j) ≡ f j) → f (ceased now s j) ≡ f j
ceased_by f now s j g = case (ends s j) (λ e. g e) (λ e. rw e)

ceased_asks : (now : ℕ) (s : Select) (j : Job) → asks (ceased now s j) ≡ asks j
ceased_asks now s j =
    ceased_by asks now s j (λ e. rw (e, runs_waits j.state (ends_runs s j e)))

ceased_submitted : (now : ℕ) (s : Select) (j : Job) → submitted_of (ceased now s j) ≡ submitted_of j
ceased_submitted now s j = ceased_by submitted_of now s j (λ e. rw e)

ceased_rank : (now : ℕ) (s : Select) (j : Job) → rank_of (ceased now s j) ≡ rank_of j
ceased_rank now s j = ceased_by rank_of now s j (λ e. rw e)

ceased_forecast : (now : ℕ) (s : Select) (j : Job) → forecast_of (ceased now s j) ≡ forecast_of j
ceased_forecast now s j = ceased_by forecast_of now s j (λ e. rw e)

module _ {S : Settings} {s : Select} {js : List Job} {gone : List ℕ} {live left : ℕ} (g : Gone S s js gone live left) (now : ℕ)
    {asked submitted ranks forecasts : List ℕ} (q : QueueColumns js asked submitted ranks forecasts) where
  -- where nobody left they are as they were
  pub queue_nobody : live ≤ left → QueueColumns (remaining S now s js) asked submitted ranks forecasts
  queue_nobody l = record {
    asked_are = gone_nobody g now asks asked q.asked_are (λ j i. ceased_asks now s j) l;
    submitted_are = gone_nobody g now submitted_of submitted q.submitted_are (λ j i. ceased_submitted now s j) l;
    ranks_are = gone_nobody g now rank_of ranks q.ranks_are (λ j i. ceased_rank now s j) l;
    forecasts_are = gone_nobody g now forecast_of forecasts q.forecasts_are (λ j i. ceased_forecast now s j) l;
  }

  -- what `job_columns::shift_all` leaves of a list
  abbrev pub Shifted : List ℕ → List ℕ → Type 0
  Shifted list after = (xs : List ℕ) → list ≡ pad slots 0 xs → length xs ≡ live → after ≡ pad slots 0 (removes (take (live - left) gone) xs)

  pub queue_left : {asked' submitted' ranks' forecasts' : List ℕ} → length js ≡ live → Shifted asked asked' → Shifted submitted submitted'
      → Shifted ranks ranks' → Shifted forecasts forecasts' → QueueColumns (remaining S now s js) asked' submitted' ranks' forecasts'
  queue_left n a b c d = record {
    asked_are = gone_column g now asks asked q.asked_are (λ j i. ceased_asks now s j) _ n a;
    submitted_are = gone_column g now submitted_of submitted q.submitted_are (λ j i. ceased_submitted now s j) _ n b;
    ranks_are = gone_column g now rank_of ranks q.ranks_are (λ j i. ceased_rank now s j) _ n c;
    forecasts_are = gone_column g now forecast_of forecasts q.forecasts_are (λ j i. ceased_forecast now s j) _ n d;
  }

-- ## What the calls do

module _ (m : Model) where
  pub depart_refused : (h : Departure) (t : ℕ) → accepts (departing m h t).refusal ≡ false
      → (call m (depart h t) ≡ refuse m (departing m h t).refusal) × (departing m h t ≡ refused_own m (departing m h t).refusal)
  unfolding call
  depart_refused h t e =
      let d = own_refused m (depart_refusal m h t) (leaving m m.clock (select.Departing h t) (withdrawn_by h t)) refl e in
      let w : (departing m h t).refusal ≡ depart_refusal m h t = ap (λ (o : Own). o.refusal) d.1 in
      (rw (w, d.0), d.1 ∙ ap (refused_own m) (sym w))

  pub depart_taken : (h : Departure) (t : ℕ) → accepts (departing m h t).refusal ≡ true
      → (accepts (depart_refusal m h t) ≡ true) × (departing m h t ≡ leaving m m.clock (select.Departing h t) (withdrawn_by h t))
  depart_taken h t e = own_taken m (depart_refusal m h t) (leaving m m.clock (select.Departing h t) (withdrawn_by h t)) e

  -- the job whose run is over early
  pub completed : (t : ℕ) → Sound m → accepts (depart_refusal m Complete t) ≡ true → Ran m m.clock t
  unfolding depart_refusal
  completed t s a =
      let p = passed (not (any (picks (select.Departing Complete t)) m.jobs)) (not_there_of Complete) _ (not_there Complete) a in
      let e = departs_alone Complete t 1 m.jobs s.asc (not-false (any (picks (select.Departing Complete t)) m.jobs) p.0) in
      left_ran m Complete t t a (ap (elem t) e ∙ rw (eq-eqb t t refl))

  pub tick_refused : horizon m.settings ≤ m.clock → call m tick ≡ refuse m refusal.PastHorizon
  unfolding call tick_refusal verdict
  tick_refused l = rw (lt-ltb (horizon m.settings) (suc m.clock) (omega arith))

  pub tick_taken : m.clock < horizon m.settings → own m request.Tick ≡ elapsed m
  unfolding tick_refusal verdict
  tick_taken l = rw (le-ltb (horizon m.settings) (suc m.clock) (omega arith))

-- a departure that is not refused, by the numbers of the call
pub record Leaver (held ends holders : List ℕ) (holding spare clock minutes : ℕ) (h : Departure) (t : ℕ) : Type 0 where
  pub model : Model
  pub sound : Sound model
  pub clock_is : clock ≡ model.clock
  pub minutes_is : minutes ≡ cleanup model.settings
  pub held_by : Holders model held ends holders holding spare
  pub taken : accepts (depart_refusal model h t) ≡ true

module _ {held ends holders : List ℕ} {holding spare clock minutes : ℕ} {h : Departure} {t : ℕ} (l : Leaver held ends holders holding spare clock minutes h t) where
  -- the run of its job is over
  abbrev pub leaver_ends : h ≡ Complete → Ending held ends holders holding spare t clock minutes
  leaver_ends e =
      let r = completed l.model t l.sound (subst (λ (x : Departure). accepts (depart_refusal l.model x t) ≡ true) e l.taken) in
      record {
        model = l.model;
        sound = l.sound;
        clock_is = l.clock_is;
        minutes_is = l.minutes_is;
        held_by = l.held_by;
        job = r.job;
        inside = r.inside;
        runs = r.runs;
        named = r.named;
      }

  -- it waited
  pub leaver_waits : h ≡ Cancel → Holders (without l.model l.model.clock (select.Departing h t)) held ends holders holding spare
  leaver_waits e =
      subst (λ (x : Departure). Holders (without l.model l.model.clock (select.Departing x t)) held ends holders holding spare) (sym e)
      (holders_withdrawn l.model l.sound l.held_by t)

  pub leaver_completed : h ≡ Complete → {held' ends' holders' : List ℕ} {n left : ℕ}
      → Holders (without l.model l.model.clock (select.Departing Complete t)) held' ends' holders' n left
      → Holders (without l.model l.model.clock (select.Departing h t)) held' ends' holders' n left
  leaver_completed e {held'} {ends'} {holders'} {n} {left} q =
      subst (λ (x : Departure). Holders (without l.model l.model.clock (select.Departing x t)) held' ends' holders' n left) (sym e) q
