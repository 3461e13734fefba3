-- A minute passes over columns: who leaves is taken out of every column, those that are due start, and the points move with the clock.
-- Assumes nothing.
use Rattle.std.specs.Prelude.{ℕ, suc, ◌+◌, ◌≤◌, ◌<◌, ◌≡◌, refl, true, false, List, [], ◌∷◌, map, length}
use Rattle.std.proofs.Common.{arith, sym, ap, ◌∙◌, lt-ltb, le-ltb}
use Rattle.std.proofs.Math.Path.{subst}
use Rattle.lists.specs.Tests.{case}
use Rattle.lists.specs.Lists.{keep, In, in_nil, in_keep}
use Rattle.scheduler.specs.declared.Job.{Job}
use Rattle.scheduler.specs.declared.Refusal.TheVariants as refusal
use Rattle.scheduler.specs.declared.Settings.{Settings}
use Rattle.scheduler.specs.Limits.{horizon}
use Rattle.scheduler.specs.Jobs.{is_waiting}
use Rattle.scheduler.specs.Settings.{cleanup}
use Rattle.scheduler.specs.Table.{remaining}
use Rattle.scheduler.specs.Model.{Model, ending}
use Rattle.scheduler.specs.Answers.{Result, verdict, refuse}
use Rattle.scheduler.specs.Refusals.{tick_refusal}
use Rattle.jobs.specs.Soundness.{remained_waits}
use Rattle.job_columns.specs.Columns.{Column, column_map}
use Rattle.job_columns.specs.JobColumns.{hold_of, promise_of, JobColumns}
use Rattle.column_parts.specs.Counted.{Told}
use Rattle.column_parts.specs.Counted.{Expired}
use Rattle.column_parts.specs.ColumnParts.{Listing, MinuteColumns, Expires, starts_in}
use Rattle.column_parts.specs.ToldReply.{TellsReply, TellsModel}
use Rattle.history.specs.Calls.{tick}
use Rattle.conservative_table.specs.ProfileLists.{IsProfile, Advancing}
use Rattle.conservative_index.specs.BuiltIndex.{Indexed}
use Rattle.conservative_rules.specs.Conservative.{begun, turned, ticked, advanced, call}
use Rattle.conservative_laws.specs.Sentences.{starts_at}
use Rattle.conservative_kept.specs.Beside.{Beside}
use Rattle.conservative_kept.specs.Tick.{advances, ticked_profile}
use Rattle.conservative_columns.specs.ConservativeColumns.{ConservativeColumns, KeptColumns, Answered, Shifted, shifted_column, few_live}
use Rattle.conservative_columns.specs.Due.{Starting, AllStarted, starts_due}

none_in : {A : Type 0} (xs : List A) {a : A} → length xs ≡ 0 → In a xs → ⊥
none_in [] e i = in_nil i
none_in (x ∷ xs) e i = omega arith

module _ {S : Settings} {clock next : ℕ} {tickets nodes states dues starts tenants estimates leasts holds promises ms fs lo hi : List ℕ} {live n : ℕ}
    (k : KeptColumns S clock next tickets nodes states dues starts tenants estimates leasts holds promises ms fs lo hi live n) where
  abbrev m : Model
  m = k.model

  -- past the last minute it is refused
  pub tick_refused : horizon ≤ clock → call m tick ≡ refuse m refusal.PastHorizon
  unfolding call tick_refusal verdict
  tick_refused l = rw (lt-ltb horizon (suc m.clock) (omega (arith, k.clock_is)))

  module _ {minute clear : ℕ} (l : clock < horizon) (t : minute ≡ clock + 1) (c : clear ≡ cleanup S) where
    call_is : call m tick ≡ ticked m
    unfolding call tick_refusal verdict
    call_is = rw (le-ltb horizon (suc m.clock) (omega (arith, k.clock_is)))

    pub minute_is : minute ≡ suc m.clock
    minute_is = omega (arith, t, k.clock_is)

    pub clear_is : clear ≡ cleanup m.settings
    clear_is = c ∙ ap cleanup k.settings_is

    abbrev pub minute_columns_of : MinuteColumns minute clear tickets nodes states dues starts tenants estimates leasts live
    minute_columns_of = record {
      model = m;
      sound = k.valid.sound;
      minute_is = minute_is;
      in_time_lem = omega (arith, t);
      clearing_is = clear_is;
      columns = k.columns.core;
    }

    -- the points move with the clock
    clock_next : m.clock + 1 ≡ minute
    clock_next = omega (arith, minute_is)

    in_time_lem : m.clock < horizon
    in_time_lem = omega (arith, k.clock_is)

    pub advancing : Advancing ms fs n minute
    advancing = subst (Advancing ms fs n) clock_next (advances m k.valid k.columns.beside.profile in_time_lem)

    abbrev rest : List Job
    rest = remaining m.settings (suc m.clock) (ending m) m.jobs

    module _ {ended gone tickets' nodes' states' dues' starts' tenants' estimates' leasts' : List ℕ} {r : Expired}
        (v : Expires m live r ended gone tickets' nodes' states' dues' starts' tenants' estimates' leasts') where
      module _ {holds' promises' : List ℕ} (eh : Shifted gone live r.live holds holds') (ep : Shifted gone live r.live promises promises') where
        long : length m.jobs ≡ live
        long = k.columns.core.live_is

        holds_rest : Column (hold_of m.settings) rest holds'
        holds_rest = shifted_column v.gone_are long (suc m.clock) (hold_of m.settings) (λ j. refl) holds holds' k.columns.holds_are eh

        promises_rest : Column promise_of rest promises'
        promises_rest = shifted_column v.gone_are long (suc m.clock) promise_of (λ j. refl) promises promises' k.columns.promises_are ep

        -- who waits waited before
        idle : r.starting ≡ 0 → (j : Job) → In j rest → starts_at minute j ≡ false
        idle e j i = case (is_waiting j) waits (λ w. rw w)
          where
            waits : is_waiting j ≡ true → starts_at minute j ≡ false
            waits w =
                let was : In j m.jobs = (remained_waits m.settings (suc m.clock) (ending m) m.jobs i w).0 in
                let p = starts_in m.settings (suc m.clock) in
                sym (starts_due m.settings minute j (omega (arith, t)) (omega (arith, t)))
                ∙ ap (λ (x : ℕ). starts_in m.settings x j) minute_is
                ∙ case (p j) (λ y. absurd (none_in (keep p m.jobs) (sym v.starting_is ∙ e) (in_keep p was y))) (λ y. y)

        pub starting : Starting tickets' states' holds' dues' starts' r.live r.starting minute clear
        starting = record {
          settings = m.settings;
          jobs = rest;
          nodes = nodes';
          tenants = tenants';
          estimates = estimates';
          leasts = leasts';
          columns = v.columns;
          holds_are = holds_rest;
          few = omega (arith, v.gone_are.fewer, few_live k);
          minute_from = omega (arith, t);
          minute_to = omega (arith, t);
          clear_is = clear_is;
          idle = idle;
        }

        -- what is told
        abbrev pub ticked_told : (begun count : ℕ) → Told
        ticked_told begun count = record {
          refusal = refusal.None;
          ticket = 0;
          promise = 0;
          head = 0;
          forecast = 0;
          ended = r.ended;
          started = begun;
          clock = minute;
          next = next;
          live = r.live;
          count = count;
          holding = 0;
          spare = 0;
        }

        turned_keeps : (f : Job → ℕ) → ((j : Job) → f (turned (suc m.clock) j) ≡ f j) → {list : List ℕ} → Column f rest list
            → Column f (map (turned (suc m.clock)) rest) list
        turned_keeps f same {list} c = column_map f rest list c (turned (suc m.clock)) (λ j i. same j)

        module _ {begun-count count : ℕ} {states'' dues'' starts'' started ms' fs' lo' hi' : List ℕ}
            (g : AllStarted starting begun-count states'' dues'' starts'' started)
            (a : ((x : Advancing ms fs n minute) → IsProfile x.machine x.spans minute count ms' fs') × Indexed fs' count lo' hi') where
          moved_on : Beside (call m tick).model count ms' fs' lo' hi'
          moved_on = record {
            profile =
                ticked_profile m k.valid k.columns.beside.profile in_time_lem
                (subst (λ (x : ℕ). (y : Advancing ms fs n x) → IsProfile y.machine y.spans x count ms' fs') (sym clock_next) a.0);
            indexed = a.1;
          }

          columns_after : ConservativeColumns (ticked m).model tickets' nodes' states'' dues'' starts'' tenants' estimates' leasts' holds' promises' ms' fs' lo'
              hi' r.live count
          unfolding starting ticked advanced
          columns_after = record {
            core =
                subst (λ (x : ℕ). JobColumns m.settings (map (turned x) rest) tickets' nodes' states'' dues'' starts'' tenants' estimates' leasts' r.live)
                minute_is g.columns;
            holds_are =
                turned_keeps (hold_of m.settings) (λ j. case (starts_at (suc m.clock) j) (λ y. rw y) (λ y. rw y)) holds_rest;
            promises_are = turned_keeps promise_of (λ j. case (starts_at (suc m.clock) j) (λ y. rw y) (λ y. rw y)) promises_rest;
            beside = subst (λ (y : Result). Beside y.model count ms' fs' lo' hi') call_is moved_on;
          }

          pub ticked_answer : Answered (call m tick) (ticked_told begun-count count) ended started tickets' nodes' states'' dues'' starts'' tenants' estimates'
              leasts' holds' promises' ms' fs' lo' hi'
          unfolding starting ticked advanced
          ticked_answer = record {
            reply = subst (λ (y : Result). TellsReply y.reply (ticked_told begun-count count) ended started) (sym call_is) (record {
              refusal_is = refl;
              ticket_is = refl;
              promise_is = refl;
              head_is_lem = refl;
              forecast_is = refl;
              ended_are = v.ended_are;
              started_are = subst (λ (x : ℕ). Listing (begun rest (map (turned x) rest)) started begun-count) minute_is g.listing;
            });
            numbers = subst (λ (y : Result). TellsModel y.model (ticked_told begun-count count)) (sym call_is) (record {
              clock_is = minute_is;
              next_is = k.next_is;
            });
            columns =
                subst
                (λ (y : Result). ConservativeColumns y.model tickets' nodes' states'' dues'' starts'' tenants' estimates' leasts' holds' promises' ms' fs' lo'
                hi' r.live count)
                (sym call_is) columns_after;
          }
