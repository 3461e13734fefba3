-- A departure over columns: it is refused, or the job leaves, its nodes are given back, and the columns are settled.
-- Assumes nothing.
use Rattle.std.specs.Prelude.{ℕ, ◌≤◌, ◌≡◌, refl, true, false, List}
use Rattle.std.proofs.Common.{arith, sym, ap, subst, ◌∙◌}
use Rattle.scheduler.specs.declared.Settings.{Settings}
use Rattle.scheduler.specs.declared.Departure.{Departure}
use Rattle.scheduler.specs.declared.Request.TheVariants as request
use Rattle.scheduler.specs.declared.Select.TheVariants as select
use Rattle.scheduler.specs.Limits.{slots}
use Rattle.scheduler.specs.Settings.{cleanup}
use Rattle.scheduler.specs.Table.{remaining}
use Rattle.scheduler.specs.Model.{Model, without}
use Rattle.scheduler.specs.Answers.{accepts, refuse}
use Rattle.scheduler.specs.Refusals.{depart_refusal}
use Rattle.history.specs.Calls.{depart}
use Rattle.easy_rules.specs.Easy.{head, call}
use Rattle.easy_laws.specs.Validity.{Ready}
use Rattle.job_table.specs.Parts.{Own, leaving, withdrawn_by, departing}
use Rattle.job_columns.specs.Columns.{Whole}
use Rattle.job_columns.specs.JobColumns.{JobColumns}
use Rattle.column_parts.specs.Counted.{Left}
use Rattle.column_parts.specs.Counted.{Told}
use Rattle.column_parts.specs.ColumnParts.{Listing, Gone, SoundColumns, Leaves}
use Rattle.column_parts.specs.ToldReply.{refused_told}
use Rattle.easy_engine.specs.Survey.{ticket_in, head_before}
use Rattle.easy.specs.Parts.{own}
use Rattle.easy_columns.specs.EasyColumns.{QueueColumns, Holders}
use Rattle.easy_columns.specs.Finishing.{Unfinished, Finishes}
use Rattle.easy_columns.specs.EasyCalls.{Kept, Gives, refused_gives, finished_gives, call_gives, before_is, ready_is}
use Rattle.easy_columns.specs.EasyLeave.{depart_refused, depart_taken, Leaver}

module _ {tickets nodes states dues starts tenants estimates leasts asked submitted ranks forecasts held ends holders : List ℕ}
    {live holding spare clock next : ℕ} {S : Settings}
    (k : Kept tickets nodes states dues starts tenants estimates leasts asked submitted ranks forecasts held ends holders live holding spare clock next S) where
  abbrev m : Model
  m = k.model

  abbrev pub sound_columns : SoundColumns S clock tickets nodes states dues starts tenants estimates leasts live
  sound_columns = record {
    model = m;
    sound = k.valid.ready.sound;
    settings_is = k.settings_is;
    clock_is = k.clock_is;
    columns = k.columns.core;
  }

  pub live_low : live ≤ slots
  live_low = omega (arith, k.columns.core.live_is, k.valid.ready.sound.few)

  module _ {h : Departure} {t : ℕ} {r : Left} {ended gone tickets' nodes' states' dues' starts' tenants' estimates' leasts' : List ℕ}
      (l : Leaves m h t live r ended gone tickets' nodes' states' dues' starts' tenants' estimates' leasts') where
    -- it is refused
    pub depart_turned : accepts r.refusal ≡ false → {started : List ℕ} → Whole started
        → Gives (call m (depart h t)) (refused_told r.refusal clock next r.live 0 holding spare) ended started tickets' nodes' states' dues' starts'
        tenants' estimates' leasts' asked submitted ranks forecasts held ends holders
    depart_turned e f =
        let d = depart_refused m h t (ap accepts (sym l.refusal_is) ∙ e) in
        refused_gives m (call m (depart h t)) r.refusal (d.0 ∙ ap (refuse m) (sym l.refusal_is)) k.clock_is k.next_is l.ended_are.whole f
        (record {
          core =
              subst (λ (o : Own). JobColumns m.settings o.model.jobs tickets' nodes' states' dues' starts' tenants' estimates' leasts' r.live) d.1
              l.columns;
          queue = k.columns.queue;
          held_by = k.columns.held_by;
        })

    -- it is not
    module _ (e : accepts r.refusal ≡ true) where
      pub taken : (accepts (depart_refusal m h t) ≡ true)
          × (departing m h t ≡ leaving m m.clock (select.Departing h t) (withdrawn_by h t))
      taken = depart_taken m h t (ap accepts (sym l.refusal_is) ∙ e)

      abbrev after : Model
      after = without m m.clock (select.Departing h t)

      abbrev part : Own
      part = leaving m m.clock (select.Departing h t) r.withdrawn

      part_is : own m (request.Depart h t) ≡ part
      part_is =
          taken.1
          ∙ ap (leaving m m.clock (select.Departing h t))
          (sym (l.withdrawn_is ∙ ap (λ (o : Own). o.withdrawn) taken.1))

      pub part_ready : Ready after
      part_ready = ready_is m k.valid (request.Depart h t) part part_is

      -- where the jobs that left stood
      pub gone_are : Gone m.settings (select.Departing h t) m.jobs gone live r.live
      gone_are = l.gone_are e

      abbrev pub leaver : (minutes : ℕ) → minutes ≡ cleanup S → Leaver held ends holders holding spare clock minutes h t
      leaver minutes q = record {
        model = m;
        sound = k.valid.ready.sound;
        clock_is = k.clock_is;
        minutes_is = q ∙ ap cleanup k.settings_is;
        held_by = k.columns.held_by;
        taken = taken.0;
      }

      module _ {asked' submitted' ranks' forecasts' held' ends' holders' started : List ℕ} {n left : ℕ}
          (q : QueueColumns (remaining m.settings m.clock (select.Departing h t) m.jobs) asked' submitted' ranks' forecasts')
          (d : Holders after held' ends' holders' n left) (f : Whole started) where
        abbrev pub departed : Unfinished tickets' states' dues' starts' estimates' asked' forecasts' held' ends' holders' started r.live n left clock S
        departed = record {
          model = after;
          ready = part_ready;
          settings_is = k.settings_is;
          clock_is = k.clock_is;
          nodes = nodes';
          tenants = tenants';
          leasts = leasts';
          submitted = submitted';
          ranks = ranks';
          columns = record {
            core =
                subst (λ (o : Own). JobColumns m.settings o.model.jobs tickets' nodes' states' dues' starts' tenants' estimates' leasts' r.live)
                taken.1 l.columns;
            queue = q;
            held_by = d;
          };
          room = f;
        }

      pub depart_before : head_before 0 r.withdrawn (ticket_in (head after)) ≡ ticket_in (head m)
      depart_before = before_is m k.valid (request.Depart h t) part part_is

      pub depart_gives : {w : Told} {started'' states'' dues'' starts'' asked'' submitted'' ranks'' forecasts'' held'' ends'' holders'' : List ℕ}
          → Finishes m after 0 r.ended clock next w started'' tickets' nodes' states'' dues'' starts'' tenants' estimates' leasts' asked'' submitted'' ranks''
          forecasts'' held'' ends'' holders''
          → Gives (call m (depart h t)) w ended started'' tickets' nodes' states'' dues'' starts'' tenants' estimates' leasts' asked'' submitted'' ranks'' forecasts''
          held'' ends'' holders''
      depart_gives g =
          call_gives m k.valid (request.Depart h t) part part_is
          (finished_gives m part refl part_ready.sound g (subst (λ (o : Own). Listing o.ended ended r.ended) taken.1 l.ended_are) k.clock_is
          k.next_is)
