-- A tick over columns: it is refused, or runs end, nodes are free again, and the columns are settled.
-- Assumes nothing.
use Rattle.std.specs.Prelude.{ℕ, suc, ◌+◌, ◌≤◌, ◌<◌, ◌≡◌, refl, List}
use Rattle.std.proofs.Common.{arith, add-one, ap, subst, ◌∙◌}
use Rattle.scheduler.specs.declared.Settings.{Settings}
use Rattle.scheduler.specs.declared.Refusal.TheVariants as refusal
use Rattle.scheduler.specs.declared.Request.TheVariants as request
use Rattle.scheduler.specs.Limits.{horizon}
use Rattle.scheduler.specs.Settings.{cleanup, until}
use Rattle.scheduler.specs.Table.{remaining}
use Rattle.scheduler.specs.Model.{Model, ending, without}
use Rattle.history.specs.Calls.{tick}
use Rattle.easy_rules.specs.Easy.{head, call}
use Rattle.easy_laws.specs.Validity.{Ready}
use Rattle.job_columns.specs.Columns.{Whole}
use Rattle.column_parts.specs.Counted.{Expired}
use Rattle.column_parts.specs.Counted.{Told}
use Rattle.column_parts.specs.ColumnParts.{MinuteColumns, elapsed, Expires}
use Rattle.column_parts.specs.ToldReply.{refused_told}
use Rattle.easy_engine.specs.Survey.{ticket_in, head_before}
use Rattle.easy.specs.Parts.{own}
use Rattle.easy_columns.specs.EasyColumns.{QueueColumns, Holders}
use Rattle.easy_columns.specs.Sifting.{Sift, Sifted}
use Rattle.easy_columns.specs.HoldersLeave.{tick_sift, holders_ticked}
use Rattle.easy_columns.specs.Finishing.{Unfinished, Finishes}
use Rattle.easy_columns.specs.EasyCalls.{Kept, Gives, refused_gives, finished_gives, call_gives, before_is, ready_is}
use Rattle.easy_columns.specs.EasyLeave.{tick_refused, tick_taken}

module _ {tickets nodes states dues starts tenants estimates leasts asked submitted ranks forecasts held ends holders : List ℕ}
    {live holding spare clock next : ℕ} {S : Settings}
    (k : Kept tickets nodes states dues starts tenants estimates leasts asked submitted ranks forecasts held ends holders live holding spare clock next S) where
  abbrev m : Model
  m = k.model

  -- it is refused
  pub tick_turned : horizon ≤ clock → {ended started : List ℕ} → Whole ended → Whole started
      → Gives (call m tick) (refused_told refusal.PastHorizon clock next live 0 holding spare) ended started tickets nodes states dues starts tenants estimates
      leasts asked submitted ranks forecasts held ends holders
  tick_turned l e f =
      refused_gives m (call m tick) refusal.PastHorizon (tick_refused m (omega (arith, k.clock_is))) k.clock_is k.next_is e f k.columns

  -- it is not
  module _ (l : clock < horizon) where
    pub minute_is : clock + 1 ≡ suc m.clock
    minute_is = add-one clock ∙ ap suc k.clock_is

    abbrev pub minute_columns_of : (minutes : ℕ) → minutes ≡ cleanup S → MinuteColumns (clock + 1) minutes tickets nodes states dues starts tenants estimates leasts live
    minute_columns_of minutes q = record {
      model = m;
      sound = k.valid.ready.sound;
      minute_is = minute_is;
      in_time_lem = omega arith;
      clearing_is = q ∙ ap cleanup k.settings_is;
      columns = k.columns.core;
    }

    abbrev after : Model
    after = without m (suc m.clock) (ending m)

    part_is : own m request.Tick ≡ elapsed m
    part_is = tick_taken m (omega (arith, k.clock_is))

    pub part_ready : Ready after
    part_ready = ready_is m k.valid request.Tick (elapsed m) part_is

    -- who holds nodes then
    abbrev pub sift : Sift held ends holders holding spare
    sift = tick_sift m k.valid.ready.sound k.columns.held_by

    pub holders_left : {held' ends' holders' : List ℕ} {n left : ℕ}
        → Sifted k.columns.held_by.jobs (until m.settings) (clock + 1) spare held' ends' holders' n left n → Holders after held' ends' holders' n left
    holders_left {held'} {ends'} {holders'} {n} {left} v =
        holders_ticked m k.valid.ready.sound k.columns.held_by (omega (arith, k.clock_is))
        (subst (λ (c : ℕ). Sifted k.columns.held_by.jobs (until m.settings) c spare held' ends' holders' n left n) minute_is v) (omega arith)

    module _ {r : Expired} {ended gone tickets' nodes' states' dues' starts' tenants' estimates' leasts' : List ℕ}
        (x : Expires m live r ended gone tickets' nodes' states' dues' starts' tenants' estimates' leasts') where
      module _ {asked' submitted' ranks' forecasts' held' ends' holders' started : List ℕ} {n left : ℕ}
          (q : QueueColumns (remaining m.settings (suc m.clock) (ending m) m.jobs) asked' submitted' ranks' forecasts')
          (d : Holders after held' ends' holders' n left) (f : Whole started) where
        abbrev pub ticked : Unfinished tickets' states' dues' starts' estimates' asked' forecasts' held' ends' holders' started r.live n left (clock + 1) S
        ticked = record {
          model = after;
          ready = part_ready;
          settings_is = k.settings_is;
          clock_is = minute_is;
          nodes = nodes';
          tenants = tenants';
          leasts = leasts';
          submitted = submitted';
          ranks = ranks';
          columns = record { core = x.columns; queue = q; held_by = d };
          room = f;
        }

      pub tick_before : head_before 0 0 (ticket_in (head after)) ≡ ticket_in (head m)
      tick_before = before_is m k.valid request.Tick (elapsed m) part_is

      pub tick_gives : {w : Told} {started'' states'' dues'' starts'' asked'' submitted'' ranks'' forecasts'' held'' ends'' holders'' : List ℕ}
          → Finishes m after 0 r.ended (clock + 1) next w started'' tickets' nodes' states'' dues'' starts'' tenants' estimates' leasts' asked'' submitted'' ranks''
          forecasts'' held'' ends'' holders''
          → Gives (call m tick) w ended started'' tickets' nodes' states'' dues'' starts'' tenants' estimates' leasts' asked'' submitted'' ranks'' forecasts'' held''
          ends'' holders''
      tick_gives g =
          call_gives m k.valid request.Tick (elapsed m) part_is
          (finished_gives m (elapsed m) refl part_ready.sound g x.ended_are minute_is k.next_is)
