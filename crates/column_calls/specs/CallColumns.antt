-- The columns of a scheduler of either kind: what the calls over them are lent, what they give, and that the next call finds them so.
-- Assumes nothing.
use Rattle.std.specs.Prelude.{ℕ, ◌+◌, ◌-◌, ◌≤◌, ◌≡◌, refl, false, List, [], ◌∷◌, length}
use Rattle.std.proofs.Common.{arith, ◌∙◌}
use Rattle.std.proofs.Math.Path.{sym, ap, subst}
use Rattle.lists.specs.Lists.{In}
use Rattle.scheduler.specs.declared.Kind.{Kind}
use Rattle.scheduler.specs.declared.Kind.TheVariants.{Conservative, Easy}
use Rattle.scheduler.specs.declared.Settings.{Settings}
use Rattle.scheduler.specs.declared.Job.{Job}
use Rattle.scheduler.specs.declared.Request.{Request}
use Rattle.scheduler.specs.declared.Scheduler.{Scheduler}
use Rattle.scheduler.specs.Limits.{slots, horizon}
use Rattle.scheduler.specs.Model.{Model, store, view}
use Rattle.scheduler.specs.Answers.{Result, outcome}
use Rattle.jobs.specs.Soundness.{Sound}
use Rattle.history.specs.Calls as calls
use Rattle.job_columns.specs.Columns.{Blank, column_zero}
use Rattle.job_columns.specs.JobColumns.{JobColumns, AllColumns, promise_of, submitted_of, rank_of, forecast_of}
use Rattle.job_columns.specs.Gathering.{Blanks, SchedulerColumns}
use Rattle.column_parts.specs.Counted.{Told}
use Rattle.column_parts.specs.ToldReply.{TellsReply, TellsModel}
use Rattle.conservative_table.specs.ListChanges.{rows}
use Rattle.conservative_columns.specs.ConservativeColumns.{ConservativeColumns}
use Rattle.easy_columns.specs.EasyColumns.{EasyColumns}
use Rattle.guarantees.specs.Rules.{call}
use Rattle.guarantees.specs.Premise.{Valid, ValidBy, Premise, call_valid, call_premise, valid_sound, premise_sound, valid_view}
use Rattle.guarantees.specs.Cleanup.{settings_stay}
use Rattle.easy_laws.specs.Settling.{sound_releasing}
use Rattle.advance_rules.specs.Advance.{due_at}
use Rattle.quiet_minutes.specs.DueMinutes.{QuietTo, Quiet}
use Rattle.quiet_minutes.specs.QuietTicks.{passed_over, passed_premise}
use Rattle.kept_calls.specs.KeptPoints.{KeptBeside, Passing}

-- ## The columns of a model

-- of a conservative one; what only EASY keeps of a job is 0
pub record ConservativeLists (m : Model)
    (tickets nodes states dues starts tenants estimates leasts holds promises submitted ranks forecasts ms fs lo hi : List ℕ) (live count : ℕ) : Type 0 where
  pub columns : ConservativeColumns m tickets nodes states dues starts tenants estimates leasts holds promises ms fs lo hi live count
  pub submitted_none : Blank submitted
  pub ranks_none : Blank ranks
  pub forecasts_none : Blank forecasts

-- of one of EASY, which promises nothing
pub record EasyLists (m : Model)
    (tickets nodes states dues starts tenants estimates leasts promises asked submitted ranks forecasts held ends holders : List ℕ)
    (live holding spare : ℕ) : Type 0 where
  pub columns : EasyColumns m tickets nodes states dues starts tenants estimates leasts asked submitted ranks forecasts held ends holders live holding spare
  pub promises_none : Blank promises

-- by its kind
pub record KindColumns (m : Model)
    (tickets nodes states dues starts tenants estimates leasts holds promises asked submitted ranks forecasts held ends holders ms fs lo hi : List ℕ)
    (live count holding spare : ℕ) : Type 0 where
  pub conservative : m.settings.kind ≡ Conservative
      → ConservativeLists m tickets nodes states dues starts tenants estimates leasts holds promises submitted ranks forecasts ms fs lo hi live count
  pub easy : m.settings.kind ≡ Easy
      → EasyLists m tickets nodes states dues starts tenants estimates leasts promises asked submitted ranks forecasts held ends holders live holding spare

-- ## What is lent, and what is given

-- lists in which nothing has been written yet
pub record Unwritten
    (tickets nodes states dues starts tenants estimates leasts holds promises asked submitted ranks forecasts held ends holders ms fs lo hi : List ℕ) :
    Type 0 where
  pub fields_none : Blanks tickets nodes states dues starts tenants estimates leasts promises submitted ranks forecasts
  pub holds_none : Blank holds
  pub asked_none : Blank asked
  pub held_none : Blank held
  pub ends_none : Blank ends
  pub holders_none : Blank holders
  pub minutes_long : length ms ≡ rows
  pub free_long : length fs ≡ rows
  pub low_long : length lo ≡ 9
  pub high_long : length hi ≡ 9

-- the one premise of a call: the lists are the columns of a scheduler that an opening or a call handed back, and the numbers are its own
pub record Lent (S : Settings) (clock next : ℕ)
    (tickets nodes states dues starts tenants estimates leasts holds promises asked submitted ranks forecasts held ends holders ms fs lo hi : List ℕ)
    (live count holding spare : ℕ) : Type 0 where
  pub scheduler : Scheduler
  pub premise : Premise scheduler
  pub settings_is : S ≡ scheduler.settings
  pub clock_is : clock ≡ scheduler.clock
  pub next_is : next ≡ scheduler.next
  pub columns : KindColumns (view scheduler) tickets nodes states dues starts tenants estimates leasts holds promises asked submitted ranks forecasts
      held ends holders ms fs lo hi live count holding spare

-- the answer is the reply of a result, and the lists are the columns of its model
pub record Gives (o : Result) (r : Told) (ended started : List ℕ)
    (tickets nodes states dues starts tenants estimates leasts holds promises asked submitted ranks forecasts held ends holders ms fs lo hi : List ℕ) :
    Type 0 where
  pub reply : TellsReply o.reply r ended started
  pub numbers : TellsModel o.model r
  pub columns : KindColumns o.model tickets nodes states dues starts tenants estimates leasts holds promises asked submitted ranks forecasts
      held ends holders ms fs lo hi r.live r.count r.holding r.spare

-- ## Of every kind

by_kind : {A : Type 0} (k : Kind) → (k ≡ Conservative → A) → (k ≡ Easy → A) → A
by_kind Conservative f g = f refl
by_kind Easy f g = g refl

module _ (m : Model) {tickets nodes states dues starts tenants estimates leasts holds promises asked submitted ranks forecasts held ends holders : List ℕ}
    {ms fs lo hi : List ℕ} {live count holding spare : ℕ}
    (c : KindColumns m tickets nodes states dues starts tenants estimates leasts holds promises asked submitted ranks forecasts held ends holders
    ms fs lo hi live count holding spare) where
  -- the columns of both kinds
  core_of : JobColumns m.settings m.jobs tickets nodes states dues starts tenants estimates leasts live
  core_of = by_kind m.settings.kind (λ e. (c.conservative e).columns.core) (λ e. (c.easy e).columns.core)

  -- and those of every field: what a kind does not keep is 0 in a valid model
  fields_of_lem : Valid m → AllColumns m.settings m.jobs tickets nodes states dues starts tenants estimates leasts promises submitted ranks forecasts live
  fields_of_lem v =
      by_kind m.settings.kind (λ e. of_conservative_lem (c.conservative e) (subst (λ (k : Kind). ValidBy k m) e v))
      (λ e. of_easy (c.easy e) (subst (λ (k : Kind). ValidBy k m) e v))
    where
      few : length m.jobs ≤ slots
      few = (valid_sound m v).few

      of_conservative_lem :
          ConservativeLists m tickets nodes states dues starts tenants estimates leasts holds promises submitted ranks forecasts ms fs lo hi live count
          → ValidBy Conservative m
          → AllColumns m.settings m.jobs tickets nodes states dues starts tenants estimates leasts promises submitted ranks forecasts live
      of_conservative_lem l w = record {
        core = l.columns.core;
        promises_are = l.columns.promises_are;
        submitted_are = column_zero submitted_of m.jobs submitted (λ j i. (w.unranked j i).0) few l.submitted_none;
        ranks_are = column_zero rank_of m.jobs ranks (λ j i. (w.unranked j i).1) few l.ranks_none;
        forecasts_are = column_zero forecast_of m.jobs forecasts (λ j i. (w.unranked j i).2) few l.forecasts_none;
      }

      of_easy :
          EasyLists m tickets nodes states dues starts tenants estimates leasts promises asked submitted ranks forecasts held ends holders live holding spare
          → ValidBy Easy m
          → AllColumns m.settings m.jobs tickets nodes states dues starts tenants estimates leasts promises submitted ranks forecasts live
      of_easy l w = record {
        core = l.columns.core;
        promises_are = column_zero promise_of m.jobs promises (λ j i. w.ready.promises j i) few l.promises_none;
        submitted_are = l.columns.queue.submitted_are;
        ranks_are = l.columns.queue.ranks_are;
        forecasts_are = l.columns.queue.forecasts_are;
      }

-- ## What is lent

-- the columns with which a player begins
abbrev pub lent_begun : (d : Scheduler) → Premise d
    → {tickets nodes states dues starts tenants estimates leasts holds promises asked submitted ranks forecasts held ends holders ms fs lo hi : List ℕ}
    → {live count holding spare : ℕ}
    → KindColumns (view d) tickets nodes states dues starts tenants estimates leasts holds promises asked submitted ranks forecasts held ends holders
    ms fs lo hi live count holding spare
    → Lent d.settings d.clock d.next tickets nodes states dues starts tenants estimates leasts holds promises asked submitted ranks forecasts
    held ends holders ms fs lo hi live count holding spare
lent_begun d h c = record { scheduler = d; premise = h; settings_is = refl; clock_is = refl; next_is = refl; columns = c }

module _ {S : Settings} {clock next : ℕ}
    {tickets nodes states dues starts tenants estimates leasts holds promises asked submitted ranks forecasts held ends holders ms fs lo hi : List ℕ}
    {live count holding spare : ℕ}
    (k : Lent S clock next tickets nodes states dues starts tenants estimates leasts holds promises asked submitted ranks forecasts held ends holders
    ms fs lo hi live count holding spare) where
  abbrev d : Scheduler
  d = k.scheduler

  lent_sound : Sound (view d)
  lent_sound = premise_sound d k.premise

  pub lent_clock : clock ≤ horizon
  unfolding view
  lent_clock = omega (arith, k.clock_is, lent_sound.clock_to)

  -- the columns of both kinds
  pub lent_core : JobColumns S (view d).jobs tickets nodes states dues starts tenants estimates leasts live
  unfolding view
  lent_core =
      subst (λ (T : Settings). JobColumns T (view d).jobs tickets nodes states dues starts tenants estimates leasts live) (sym k.settings_is)
      (core_of (view d) k.columns)

  pub lent_few : live ≤ slots
  lent_few = omega (arith, lent_core.live_is, lent_sound.few)

  -- a call leaves them so
  unfoldable pub still_lent : (q : Request) {r : Told} {ended started : List ℕ}
      → {tickets' nodes' states' dues' starts' tenants' estimates' leasts' holds' promises' asked' submitted' ranks' forecasts' held' ends' holders' : List ℕ}
      → {ms' fs' lo' hi' : List ℕ}
      → Gives (call (view d) (calls.asked q)) r ended started tickets' nodes' states' dues' starts' tenants' estimates' leasts' holds' promises' asked'
      submitted' ranks' forecasts' held' ends' holders' ms' fs' lo' hi'
      → Lent S r.clock r.next tickets' nodes' states' dues' starts' tenants' estimates' leasts' holds' promises' asked' submitted' ranks' forecasts'
      held' ends' holders' ms' fs' lo' hi' r.live r.count r.holding r.spare
  unfolding store view
  still_lent q {r} {ended} {started} {tickets'} {nodes'} {states'} {dues'} {starts'} {tenants'} {estimates'} {leasts'} {holds'} {promises'} {asked'}
      {submitted'} {ranks'} {forecasts'} {held'} {ends'} {holders'} {ms'} {fs'} {lo'} {hi'} g =
      let c = calls.asked q in
      record {
        scheduler = (outcome (call (view d) c)).scheduler;
        premise = call_premise d c k.premise;
        settings_is = k.settings_is ∙ sym (settings_stay (view d) (c ∷ []) k.premise.holds);
        clock_is = g.numbers.clock_is;
        next_is = g.numbers.next_is;
        columns =
            subst (λ (m : Model). KindColumns m tickets' nodes' states' dues' starts' tenants' estimates' leasts' holds' promises' asked' submitted' ranks'
            forecasts' held' ends' holders' ms' fs' lo' hi' r.live r.count r.holding r.spare)
            (sym (valid_view (call (view d) c).model (call_valid (view d) c k.premise.holds))) g.columns;
      }

  -- ## Minutes passed over

  module _ (t : ℕ) (l : clock ≤ t) (h : t ≤ horizon) where
    pub later_is : t ≡ d.clock + (t - clock)
    later_is = omega (arith, k.clock_is)

    pub lent_passing : Passing S.kind t count ms fs lo hi
    unfolding view
    lent_passing = record {
      scheduler = d;
      minutes = t - clock;
      premise = k.premise;
      beside = record { beside = λ e. (k.columns.conservative e).columns.beside };
      kind_is = ap (λ (T : Settings). T.kind) k.settings_is;
      clock_is = later_is;
      until = h;
    }

    -- nothing was due in them
    pub lent_quiet : ((j : Job) → In j (view d).jobs → QuietTo S clock t j) → Quiet (view d) (t - clock)
    unfolding view
    lent_quiet f j i n a b =
        subst (λ (T : Settings). due_at T n j ≡ false) k.settings_is (f j i n (omega (arith, k.clock_is)) (omega (arith, later_is)))

    unfoldable pub lent_passed : Quiet (view d) (t - clock) → {n : ℕ} {ms' fs' lo' hi' : List ℕ}
        → KeptBeside (view (passed_over lent_passing.scheduler lent_passing.minutes)) n ms' fs' lo' hi'
        → Lent S t next tickets nodes states dues starts tenants estimates leasts holds promises asked submitted ranks forecasts held ends holders
        ms' fs' lo' hi' live n holding spare
    unfolding view lent_passing
    lent_passed q b =
        let p = passed_premise d (t - clock) k.premise (omega (arith, later_is)) q in
        record {
          scheduler = passed_over d (t - clock);
          premise = p;
          settings_is = k.settings_is;
          clock_is = later_is;
          next_is = k.next_is;
          columns = record {
            conservative = λ e.
                let l = k.columns.conservative e in
                record {
                  columns = record {
                    core = l.columns.core;
                    holds_are = l.columns.holds_are;
                    promises_are = l.columns.promises_are;
                    beside = b.beside e;
                  };
                  submitted_none = l.submitted_none;
                  ranks_none = l.ranks_none;
                  forecasts_none = l.forecasts_none;
                };
            easy = λ e.
                let l = k.columns.easy e in
                let o = l.columns.held_by in
                record {
                  columns = record {
                    core = l.columns.core;
                    queue = l.columns.queue;
                    held_by = record {
                      jobs = o.jobs;
                      holds = record {
                        releasing = sound_releasing (view (passed_over d (t - clock))) (premise_sound (passed_over d (t - clock)) p);
                        runs = record { each = o.holds.runs.each; same = o.holds.runs.same };
                        held_is = o.holds.held_is;
                        ends_is = o.holds.ends_is;
                        count_is = o.holds.count_is;
                        spare_is = o.holds.spare_is;
                      };
                      holders_are = o.holders_are;
                    };
                  };
                  promises_none = l.promises_none;
                };
          };
        }

  -- ## Gathered

  pub lent_gathers : SchedulerColumns S clock next tickets nodes states dues starts tenants estimates leasts promises submitted ranks forecasts live
  unfolding view
  lent_gathers = record {
    model = view d;
    sound = lent_sound;
    settings_is = k.settings_is;
    clock_is = k.clock_is;
    next_is = k.next_is;
    columns = fields_of_lem (view d) k.columns k.premise.holds;
  }

  -- to the scheduler that the columns are of
  pub lent_stored : store lent_gathers.model ≡ d
  unfolding lent_gathers
  lent_stored = sym k.premise.stored
