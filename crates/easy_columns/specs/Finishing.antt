-- A call that has done its own part settles: the columns after it are those of the model that it leaves.
-- Assumes nothing.
use Rattle.std.specs.Prelude.{ℕ, zero, suc, ◌+◌, ◌<◌, ◌≡◌, refl, List, [], ◌∷◌, ◌++◌, map, length, get_or, replicate}
use Rattle.std.proofs.Common.{arith, sym, ap, subst, ◌∙◌, get_or-append-add}
use Rattle.std.proofs.Math.Option.{Option, none, some}
use Rattle.std.proofs.lemmas.List.{map-append, length-map}
use Rattle.std.proofs.Math.ListN.{get_or-map}
use Rattle.lists.specs.Pads.{pad}
use Rattle.scheduler.specs.declared.Settings.{Settings}
use Rattle.scheduler.specs.declared.Job.{Job}
use Rattle.scheduler.specs.declared.Refusal.TheVariants as refusal
use Rattle.scheduler.specs.Limits.{slots}
use Rattle.scheduler.specs.Jobs.{unused}
use Rattle.scheduler.specs.Settings.{cleanup, until}
use Rattle.scheduler.specs.Table.{ticket_of, tickets_of}
use Rattle.scheduler.specs.Model.{Model}
use Rattle.scheduler.specs.Answers.{Forecast, head_ticket, head_minute}
use Rattle.jobs.specs.Order.{Asc, asc_in}
use Rattle.easy_rules.specs.Easy.{head, begun, Settling, settled, forecast, noted}
use Rattle.easy_laws.specs.Settling.{settles, settles_settings}
use Rattle.easy_laws.specs.Course as course
use Rattle.easy_laws.specs.Noted.{forecast_says}
use Rattle.easy_laws.specs.Validity.{Ready, settles_ready}
use Rattle.job_columns.specs.Columns.{Column, Whole, column_at}
use Rattle.job_columns.specs.JobColumns.{submitted_of, rank_of, forecast_of, JobColumns}
use Rattle.column_parts.specs.Counted.{Told}
use Rattle.column_parts.specs.ColumnParts.{Listing}
use Rattle.easy_engine.specs.declared.Announced.{Announced}
use Rattle.easy_engine.specs.declared.SlotAnswer.{SlotAnswer}
use Rattle.easy_engine.specs.Survey.{begins, ticket_in}
use Rattle.easy_engine.specs.Shadows.{holding_few}
use Rattle.easy_engine.specs.BySlot.{SlotSurvey, SlotAnswers, AtRest, with_starts}
use Rattle.easy_engine.specs.WrittenStarts.{begins_keep, applied}
use Rattle.easy_columns.specs.EasyColumns.{QueueColumns, Holders, EasyColumns}
use Rattle.easy_columns.specs.Starting.{tickets_at, Starting, Begun}
use Rattle.easy_columns.specs.HeadNoted.{Heard, core_noted, queue_noted, holders_noted}

-- the lists are the columns of a model that is ready to settle; the last parameter list is scratch
pub record Unfinished (tickets states dues starts estimates asked forecasts held ends holders started : List ℕ) (live holding spare clock : ℕ)
    (S : Settings) : Type 0 where
  pub model : Model
  pub ready : Ready model
  pub settings_is : S ≡ model.settings
  pub clock_is : clock ≡ model.clock
  pub nodes : List ℕ
  pub tenants : List ℕ
  pub leasts : List ℕ
  pub submitted : List ℕ
  pub ranks : List ℕ
  pub columns : EasyColumns model tickets nodes states dues starts tenants estimates leasts asked submitted ranks forecasts held ends holders live holding spare
  pub room : Whole started

-- the new head with its forecast
abbrev pub told : Model → Model → Option Forecast
told b m = forecast b (settled m).model

-- what it answers, and the columns that it leaves
pub record Finishes (b m : Model) (ticket ended clock next : ℕ) (r : Told) (started : List ℕ)
    (tickets nodes states dues starts tenants estimates leasts asked submitted ranks forecasts held ends holders : List ℕ) : Type 0 where
  pub refusal_is : r.refusal ≡ refusal.None
  pub ticket_is : r.ticket ≡ ticket
  pub promise_is : r.promise ≡ 0
  pub head_is_lem : r.head ≡ head_ticket (told b m)
  pub forecast_is : r.forecast ≡ head_minute (told b m)
  pub ended_is : r.ended ≡ ended
  pub started_are : Listing (settled m).started started r.started
  pub clock_is : r.clock ≡ clock
  pub next_is : r.next ≡ next
  pub columns : EasyColumns (noted (told b m) (settled m).model) tickets nodes states dues starts tenants estimates leasts asked submitted ranks
      forecasts held ends holders r.live r.holding r.spare

-- the numbers of the answer
abbrev pub answered : (ticket head forecast ended started clock next live holding spare : ℕ) → Told
answered ticket head forecast ended started clock next live holding spare = record {
  refusal = refusal.None;
  ticket = ticket;
  promise = 0;
  head = head;
  forecast = forecast;
  ended = ended;
  started = started;
  clock = clock;
  next = next;
  live = live;
  count = 0;
  holding = holding;
  spare = spare;
}

module _ {tickets states dues starts estimates asked forecasts held ends holders started : List ℕ} {live holding spare clock : ℕ} {S : Settings}
    (u : Unfinished tickets states dues starts estimates asked forecasts held ends holders started live holding spare clock S) where
  abbrev m : Model
  m = u.model

  abbrev rs : List Job
  rs = u.columns.held_by.jobs

  -- nobody starts, and nobody is announced
  pub rests_finished : (b : Model) → AtRest b m → (ticket ended next : ℕ)
      → Finishes b m ticket ended clock next (answered ticket 0 0 ended 0 clock next live holding spare) started tickets u.nodes states dues starts
      u.tenants estimates u.leasts asked u.submitted u.ranks forecasts held ends holders
  rests_finished b r ticket ended next =
      let none_told : told b m ≡ none = ap (λ (x : Settling). forecast b x.model) r.settled_is ∙ r.silent in
      let same : m ≡ noted (told b m) (settled m).model = ap (λ (x : Settling). x.model) (sym r.settled_is)
      ∙ ap (λ (o : Option Forecast). noted o (settled m).model) (sym none_told) in
      record {
        refusal_is = refl;
        ticket_is = refl;
        promise_is = refl;
        head_is_lem = ap head_ticket (sym none_told);
        forecast_is = ap head_minute (sym none_told);
        ended_is = refl;
        started_are = record {
          whole = u.room;
          count_is = ap (λ (x : Settling). length x.started) (sym r.settled_is);
          first_are = ap (λ (x : Settling). x.started) (sym r.settled_is);
        };
        clock_is = refl;
        next_is = refl;
        columns =
            subst (λ (x : Model). EasyColumns x tickets u.nodes states dues starts u.tenants estimates u.leasts asked u.submitted u.ranks
            forecasts held ends holders live holding spare) same u.columns;
      }

  -- the settling by slot
  abbrev pub survey : SlotSurvey held ends holding asked estimates tickets live (replicate slots 0) clock spare S
  survey = record {
    model = m;
    ready = u.ready;
    settings_is = u.settings_is;
    clock_is = u.clock_is;
    jobs = rs;
    holding = u.columns.held_by.holds;
    live_is = u.columns.core.live_is;
    asked_are = u.columns.queue.asked_are;
    estimates_are = u.columns.core.estimates_are;
    tickets_are = u.columns.core.tickets_are;
    room = refl;
  }

  abbrev last : Model
  last = (settled m).model

  last_ready : Ready last
  last_ready = settles_ready (settles m u.ready.sound) u.ready

  pub settled_asc : Asc 1 last.jobs
  settled_asc = last_ready.sound.asc

  last_settings : last.settings ≡ m.settings
  last_settings = settles_settings (settles m u.ready.sound)

  module _ {before : ℕ} {r : SlotAnswer} {held' ends' asked' order : List ℕ} (a : SlotAnswers m rs before holding r held' ends' asked' order) where
    abbrev g : ℕ → Job
    g i = begun m.clock (get_or m.jobs i unused)

    -- until when those who start hold their nodes
    pub ends_at_lem : (k : ℕ) → k < r.started
        → get_or ends' (holding + k) 0 ≡ until m.settings (begun clock (get_or m.jobs (get_or a.places k 0) unused))
    ends_at_lem k l =
        let n : length rs ≡ holding = u.columns.held_by.holds.count_is in
        column_at (until last.settings) (with_starts m rs a.places) ends' a.holding.ends_is unused (holding + k) (omega (arith, a.holding.count_is))
        ∙ ap (λ (T : Settings). until T (get_or (with_starts m rs a.places) (holding + k) unused)) last_settings
        ∙ ap (λ (i : ℕ). until m.settings (get_or (with_starts m rs a.places) (i + k) unused)) (sym n)
        ∙ ap (until m.settings) (get_or-append-add rs (map g a.places) k unused ∙ mapped a.places k (omega (arith, a.count_is)))
        ∙ ap (λ (c : ℕ). until m.settings (begun c (get_or m.jobs (get_or a.places k 0) unused))) (sym u.clock_is)
      where
        mapped : (ks : List ℕ) (k : ℕ) → k < length ks → get_or (map g ks) k unused ≡ g (get_or ks k 0)
        mapped [] k l = absurd (omega arith)
        mapped (i ∷ ks) zero l = refl
        mapped (i ∷ ks) (suc k) l = mapped ks k (omega arith)

    abbrev pub starting : (minutes : ℕ) → minutes ≡ cleanup S
        → Starting tickets states dues starts order started ends' holders r.started holding clock minutes
    starting minutes e = record {
      model = m;
      asc = u.ready.sound.asc;
      few = u.ready.sound.few;
      clock_is = u.clock_is;
      cleanup_is = e ∙ ap cleanup u.settings_is;
      live = live;
      nodes = u.nodes;
      tenants = u.tenants;
      estimates = estimates;
      leasts = u.leasts;
      core = u.columns.core;
      jobs = rs;
      holders_are = u.columns.held_by.holders_are;
      holding_is = u.columns.held_by.holds.count_is;
      room = u.room;
      places = a.places;
      low = a.low;
      count_is = a.count_is;
      order_is = λ k l. a.order_is k (omega (arith, a.count_is));
      fits = holding_few a.holding;
      ends_are = ends_at_lem;
    }

    -- the new head by its numbers
    module _ (b : Model) (q : before ≡ ticket_in (head b)) where
      pub head_told : r.head ≡ head_ticket (told b m)
      head_told = ap (λ (x : Announced). x.ticket) (a.head_is_lem b q)

      pub minute_told : r.forecast ≡ head_minute (told b m)
      minute_told = ap (λ (x : Announced). x.minute) (a.head_is_lem b q)

    -- the jobs after the starts are those of the settled model
    last_is : begins (tickets_at m a.places) m ≡ last
    last_is = ap (λ (ts : List ℕ). begins ts m) a.started_are ∙ applied m u.ready.sound

    module _ {states' dues' starts' started' holders' : List ℕ}
        (w : Begun m a.places rs tickets u.nodes states' dues' starts' u.tenants estimates u.leasts live started' holders' r.started) where
      core_settled : JobColumns last.settings last.jobs tickets u.nodes states' dues' starts' u.tenants estimates u.leasts live
      core_settled =
          subst (λ (T : Settings). JobColumns T last.jobs tickets u.nodes states' dues' starts' u.tenants estimates u.leasts live) (sym last_settings)
          (subst (λ (x : Model). JobColumns m.settings x.jobs tickets u.nodes states' dues' starts' u.tenants estimates u.leasts live) last_is w.core)

      -- what a start does not write
      kept_column : (f : Job → ℕ) → ((now : ℕ) (j : Job) → f (begun now j) ≡ f j) → (list : List ℕ) → Column f m.jobs list → Column f last.jobs list
      kept_column f e list c =
          c ∙ ap (pad slots 0) (sym (begins_keep f e (tickets_at m a.places) m) ∙ ap (λ (x : Model). map f x.jobs) last_is)

      pub forecasts_kept : Column forecast_of last.jobs forecasts
      forecasts_kept = kept_column forecast_of (λ now j. refl) forecasts u.columns.queue.forecasts_are

      pub tickets_kept : Column ticket_of last.jobs tickets
      tickets_kept = core_settled.tickets_are

      pub live_kept : length last.jobs ≡ live
      live_kept = core_settled.live_is

      holders_settled : Holders last held' ends' holders' (holding + r.started) r.spare
      holders_settled = record {
        jobs = with_starts m rs a.places;
        holds = a.holding;
        holders_are =
            w.holders_are
            ∙ ap (λ (ts : List ℕ). pad slots 0 (tickets_of rs ++ ts)) (named a.places)
            ∙ ap (pad slots 0) (sym (map-append ticket_of rs (map g a.places)));
      }
        where
          named : (ks : List ℕ) → tickets_at m ks ≡ map ticket_of (map g ks)
          named [] = refl
          named (k ∷ ks) = rw (get_or-map ticket_of m.jobs k unused, named ks)

      queue_settled : {list : List ℕ} → Column forecast_of last.jobs list → QueueColumns last.jobs asked' u.submitted u.ranks list
      queue_settled c = record {
        asked_are = a.asked_are;
        submitted_are = kept_column submitted_of (λ now j. refl) u.submitted u.columns.queue.submitted_are;
        ranks_are = kept_column rank_of (λ now j. refl) u.ranks u.columns.queue.ranks_are;
        forecasts_are = c;
      }

      -- the new head is one of these
      pub heard : (b : Model) → Heard last.jobs (told b m)
      heard b f e =
          let x = forecast_says b last f e in
          let i = (course.head_in last x.0.job x.0.later x.0.first).0 in
          (omega (arith, x.1, asc_in 1 last.jobs last_ready.sound.asc i), x.0.job, i, sym x.1)

      pub settled_finished : (b : Model) → before ≡ ticket_in (head b) → (forecasts' : List ℕ) → Column forecast_of (noted (told b m) last).jobs forecasts'
          → (ticket ended next : ℕ)
          → Finishes b m ticket ended clock next (answered ticket r.head r.forecast ended r.started clock next live (holding + r.started) r.spare) started'
          tickets u.nodes states' dues' starts' u.tenants estimates u.leasts asked' u.submitted u.ranks forecasts' held' ends' holders'
      settled_finished b q forecasts' c ticket ended next =
          record {
            refusal_is = refl;
            ticket_is = refl;
            promise_is = refl;
            head_is_lem = head_told b q;
            forecast_is = minute_told b q;
            ended_is = refl;
            started_are = record {
              whole = w.room;
              count_is = sym a.count_is ∙ sym (length-map a.places (λ (i : ℕ). get_or (tickets_of m.jobs) i 0)) ∙ ap length a.started_are;
              first_are = w.started_are ∙ a.started_are;
            };
            clock_is = refl;
            next_is = refl;
            columns = by (told b m) c;
          }
        where
          by : (o : Option Forecast) → Column forecast_of (noted o last).jobs forecasts'
              → EasyColumns (noted o last) tickets u.nodes states' dues' starts' u.tenants estimates u.leasts asked' u.submitted u.ranks
              forecasts' held' ends' holders' live (holding + r.started) r.spare
          by none c = record { core = core_settled; queue = queue_settled c; held_by = holders_settled }
          by (some f) c = record {
            core = core_noted f core_settled;
            queue = queue_noted f (queue_settled forecasts_kept) c;
            held_by = holders_noted f last_ready.sound holders_settled;
          }
