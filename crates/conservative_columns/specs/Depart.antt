-- An early completion or a withdrawal over columns: the job leaves every column, what it gives back is taken out of the points, and whoever
-- waits moves up.
-- Assumes nothing.
use Rattle.std.specs.Prelude.{ℕ, ◌≤◌, ◌<◌, ◌≡◌, refl, Bool, true, false, cond, ◌&&◌, List, [], ◌∷◌, map, eqb, length, get_or}
use Rattle.std.proofs.Common.{arith, sym, ◌∙◌, eq-eqb}
use Rattle.std.proofs.Math.Path.{ap, subst}
use Rattle.std.proofs.Math.Option.{Option, none, some}
use Rattle.lists.specs.Tests.{case, true_false}
use Rattle.lists.specs.Lists.{In, in_getD}
use Rattle.lists.specs.Loops.{position}
use Rattle.lists.specs.Pads.{pad}
use Rattle.spans.specs.declared.Span.{Span}
use Rattle.scheduler.specs.declared.Departure.{Departure}
use Rattle.scheduler.specs.declared.Job.{Job}
use Rattle.scheduler.specs.declared.Refusal.TheVariants as refusal
use Rattle.scheduler.specs.declared.Select.{Select}
use Rattle.scheduler.specs.declared.Select.TheVariants as select
use Rattle.scheduler.specs.declared.Settings.{Settings}
use Rattle.scheduler.specs.Limits.{slots, horizon, longest_hold}
use Rattle.scheduler.specs.Jobs.{unused, departs_as}
use Rattle.scheduler.specs.Settings.{cleanup, hold_time}
use Rattle.scheduler.specs.Times.{hold_le}
use Rattle.scheduler.specs.Table.{ended_of}
use Rattle.scheduler.specs.Model.{Model, without}
use Rattle.scheduler.specs.Answers.{Result, accepts, refuse}
use Rattle.scheduler.specs.Refusals.{not_there_of, depart_refusal}
use Rattle.jobs.specs.Departing.{not_there}
use Rattle.jobs.specs.Slots.{sound_low}
use Rattle.job_table.specs.Parts.{Own, leaving, refused_own, departing, withdrawn_by, own_taken, own_refused}
use Rattle.job_columns.specs.Columns.{Column, Whole, nodes_of, column_at}
use Rattle.job_columns.specs.JobColumns.{state_of, start_of, hold_of, promise_of, JobColumns}
use Rattle.job_columns.specs.Searches.{place_of, has_ticket}
use Rattle.column_parts.specs.Counted.{Told}
use Rattle.column_parts.specs.Counted.{Left}
use Rattle.column_parts.specs.ColumnParts.{Listing, Gone, SoundColumns, Leaves}
use Rattle.column_parts.specs.Departures.{leaves_from, early_by, leaves_from_lem, refused_nowhere, refused_there, found_inside, found_named}
use Rattle.column_parts.specs.ToldReply.{TellsReply, TellsModel, refused_told, refused_tells}
use Rattle.history.specs.Calls.{depart}
use Rattle.conservative_table.specs.declared.Row.{Row}
use Rattle.conservative_table.specs.ProfileLists.{IsProfile, Lifting, Changed}
use Rattle.conservative_rules.specs.Conservative.{spans, begun, compressed, departed, advanced, call}
use Rattle.conservative_laws.specs.Validity.{Zip, Follows, stays, moves, follows_promise}
use Rattle.conservative_laws.specs.Compression.{compressed_is}
use Rattle.conservative_plan.specs.Pass.{Before, Replannable, jobs_before, compressible_jobs}
use Rattle.conservative.specs.Depart.{replannable}
use Rattle.conservative_kept.specs.Depart.{freed_by, freed, lifts, lifted_profile}
use Rattle.conservative_columns.specs.Counted.{MovedUp}
use Rattle.conservative_columns.specs.ConservativeColumns.{ConservativeColumns, KeptColumns, Answered, Shifted, shifted_column}
use Rattle.conservative_columns.specs.MovingUp.{MovesUp, MovedTo}

-- what a move leaves as it is keeps its column
zip_column : (now : ℕ) (f : Job → ℕ) → ((j i : Job) → Follows now j i → f i ≡ f j) → (js ks : List Job) {list : List ℕ} → Zip (Follows now) js ks
    → Column f js list → Column f ks list
zip_column now f same js ks z c = c ∙ ap (pad slots 0) (mapped js ks z)
  where
    mapped : (js ks : List Job) → Zip (Follows now) js ks → map f js ≡ map f ks
    mapped [] [] z = refl
    mapped [] (y ∷ ys) z = absurd z
    mapped (x ∷ xs) [] z = absurd z
    mapped (x ∷ xs) (y ∷ ys) z = rw (same x y z.0, mapped xs ys z.1)

follows_hold : (S : Settings) (now : ℕ) (j i : Job) → Follows now j i → hold_of S i ≡ hold_of S j
follows_hold S now j i (stays e) = refl
follows_hold S now j i (moves s e a b) = refl

module _ {S : Settings} {clock next : ℕ} {tickets nodes states dues starts tenants estimates leasts holds promises ms fs lo hi : List ℕ} {live n : ℕ}
    (k : KeptColumns S clock next tickets nodes states dues starts tenants estimates leasts holds promises ms fs lo hi live n) where
  abbrev m : Model
  m = k.model

  abbrev pub sound_columns : SoundColumns S clock tickets nodes states dues starts tenants estimates leasts live
  sound_columns = record {
    model = m;
    sound = k.valid.sound;
    settings_is = k.settings_is;
    clock_is = k.clock_is;
    columns = k.columns.core;
  }

  pub clock_low : clock ≤ horizon
  clock_low = omega (arith, k.clock_is, k.valid.sound.clock_to)

  -- ## What a job gives back

  module _ {at : ℕ} (l : at < live) where
    abbrev j : Job
    j = get_or m.jobs at unused

    in_jobs : at < length m.jobs
    in_jobs = omega (arith, k.columns.core.live_is)

    pub inside : In j m.jobs
    inside = in_getD m.jobs at unused in_jobs

    nodes_there : get_or nodes at 0 ≡ j.nodes
    nodes_there = column_at nodes_of m.jobs nodes k.columns.core.nodes_are unused at in_jobs

    start_there : get_or starts at 0 ≡ j.start
    start_there = column_at start_of m.jobs starts k.columns.core.starts_are unused at in_jobs

    hold_there : get_or holds at 0 ≡ hold_time m.settings j.estimate
    hold_there = column_at (hold_of m.settings) m.jobs holds k.columns.holds_are unused at in_jobs

    pub back_low : (get_or starts at 0 ≤ horizon) × (get_or holds at 0 ≤ longest_hold)
    back_low = (
      omega (arith, start_there, (sound_low m k.valid.sound j inside).0),
      omega (arith, hold_there, hold_le m.settings j.estimate),
    )

    pub back_is : (h : Departure) (clear : ℕ) → clear ≡ cleanup S
        → freed_by h (get_or nodes at 0) (get_or starts at 0) (get_or holds at 0) clock clear ≡ freed m.settings m.clock h j
    back_is h clear e = λ i. freed_by h (nodes_there i) (start_there i) (hold_there i) (k.clock_is i) ((e ∙ ap cleanup k.settings_is) i)

  -- ## Who leaves

  module _ (h : Departure) (t : ℕ) where
    pub record Leaver (at : ℕ) : Type 0 where
      pub low : at < live
      pub departs : departs_as h t (get_or m.jobs at unused) ≡ true

    leaves_there : (at : ℕ) → position (has_ticket t) m.jobs ≡ some at → accepts (depart_refusal m h t) ≡ true → Leaver at
    leaves_there at p a =
        let j = get_or m.jobs at unused in
        let b = eqb (state_of j) (leaves_from h) in
        let asc = k.valid.sound.asc in
        let yes : b ≡ true =
        case b (λ e. e) (λ e. true_false (accepts (not_there_of h))
        (ap (λ (x : Bool). accepts (cond x (cond (early_by m.clock h j.start j.least) refusal.BeforeLeast refusal.None) (not_there_of h))) (sym e)
        ∙ ap accepts (sym (refused_there m asc h t at p)) ∙ a) (not_there h)) in
        record {
          low = omega (arith, found_inside m asc h t at p, k.columns.core.live_is);
          departs =
              ap (λ (x : Bool). x && eqb j.ticket t) (sym (leaves_from_lem h j.state) ∙ yes) ∙ eq-eqb j.ticket t (found_named m asc h t at p);
        }

    pub leaver : (at : ℕ) → at ≡ place_of (position (has_ticket t) m.jobs) live → accepts (depart_refusal m h t) ≡ true → Leaver at
    leaver at e a = by (position (has_ticket t) m.jobs) refl
      where
        by : (p : Option ℕ) → position (has_ticket t) m.jobs ≡ p → Leaver at
        by none q = true_false (accepts (not_there_of h)) (ap accepts (sym (refused_nowhere m k.valid.sound.asc h t q)) ∙ a) (not_there h)
        by (some i) q = subst Leaver (sym (e ∙ ap (λ (p : Option ℕ). place_of p live) q)) (leaves_there i q a)

    -- ## What the call answers

    abbrev sel : Select
    sel = select.Departing h t

    abbrev rest : Model
    rest = without m m.clock sel

    module _ {ended gone tickets' nodes' states' dues' starts' tenants' estimates' leasts' : List ℕ} {r : Left}
        (v : Leaves m h t live r ended gone tickets' nodes' states' dues' starts' tenants' estimates' leasts') where
      -- it is refused, and all columns are as they were
      module _ (a : accepts r.refusal ≡ false) where
        none_left : (accepts (depart_refusal m h t) ≡ false) × (departing m h t ≡ refused_own m (depart_refusal m h t))
        none_left = own_refused m (depart_refusal m h t) (leaving m m.clock sel (withdrawn_by h t)) refl (ap accepts (sym v.refusal_is) ∙ a)

        refused_is : call m (depart h t) ≡ refuse m r.refusal
        unfolding call
        refused_is = rw none_left.0 (ap (refuse m) (sym (v.refusal_is ∙ ap (λ (o : Own). o.refusal) none_left.1)))

        pub left_refused : (started : List ℕ) → Whole started
            → Answered (call m (depart h t)) (refused_told r.refusal clock next r.live n 0 0) ended started tickets' nodes' states' dues' starts' tenants'
            estimates' leasts' holds promises ms fs lo hi
        left_refused started w = rw refused_is (record {
          reply = refused_tells r.refusal clock next r.live n 0 0 ended started v.ended_are.whole w;
          numbers = record { clock_is = k.clock_is; next_is = k.next_is };
          columns = record {
            core =
                subst (λ (o : Own). JobColumns m.settings o.model.jobs tickets' nodes' states' dues' starts' tenants' estimates' leasts' r.live)
                none_left.1 v.columns;
            holds_are = k.columns.holds_are;
            promises_are = k.columns.promises_are;
            beside = k.columns.beside;
          };
        })

      -- it is not
      module _ (a : accepts r.refusal ≡ true) where
        left_so : (accepts (depart_refusal m h t) ≡ true) × (departing m h t ≡ leaving m m.clock sel (withdrawn_by h t))
        left_so = own_taken m (depart_refusal m h t) (leaving m m.clock sel (withdrawn_by h t)) (ap accepts (sym v.refusal_is) ∙ a)

        pub not_refused : accepts (depart_refusal m h t) ≡ true
        not_refused = left_so.0

        call_is : call m (depart h t) ≡ departed m h t
        unfolding call
        call_is = rw not_refused

        core_rest : JobColumns m.settings rest.jobs tickets' nodes' states' dues' starts' tenants' estimates' leasts' r.live
        core_rest =
            subst (λ (o : Own). JobColumns m.settings o.model.jobs tickets' nodes' states' dues' starts' tenants' estimates' leasts' r.live)
            left_so.1 v.columns

        ended_rest : Listing (ended_of sel m.jobs) ended r.ended
        ended_rest = subst (λ (o : Own). Listing o.ended ended r.ended) left_so.1 v.ended_are

        pub gone_are : Gone m.settings sel m.jobs gone live r.live
        gone_are = v.gone_are a

        module _ {holds' promises' : List ℕ} (eh : Shifted gone live r.live holds holds') (ep : Shifted gone live r.live promises promises') where
          holds_rest : Column (hold_of m.settings) rest.jobs holds'
          holds_rest =
              shifted_column gone_are k.columns.core.live_is m.clock (hold_of m.settings) (λ j. refl) holds holds' k.columns.holds_are eh

          promises_rest : Column promise_of rest.jobs promises'
          promises_rest = shifted_column gone_are k.columns.core.live_is m.clock promise_of (λ j. refl) promises promises' k.columns.promises_are ep

          ready : Replannable rest
          ready = replannable m h t k.valid

          before : Before r.live m.settings clock rest.jobs
          before =
              subst (λ (c : ℕ). Before r.live m.settings c rest.jobs) (sym k.clock_is)
              (subst (λ (i : ℕ). Before i m.settings m.clock rest.jobs) core_rest.live_is (jobs_before rest ready))

          module _ {at : ℕ} (w : Leaver at) {x : Span} (e : x ≡ freed m.settings m.clock h (get_or m.jobs at unused)) {clear : ℕ}
              (c : clear ≡ cleanup S) where
            out : {u : Row} {ms' fs' : List ℕ} → ((l : Lifting ms fs 0 n x) → Changed l.machine l.others l.now x ms fs n u ms' fs')
                → IsProfile m.settings.nodes (spans m.settings rest.jobs) clock u.count ms' fs'
            out {u} {ms'} {fs'} f =
                subst (λ (c : ℕ). IsProfile m.settings.nodes (spans m.settings rest.jobs) c u.count ms' fs') (sym k.clock_is)
                (lifted_profile m k.valid h t (inside w.low) w.departs k.columns.beside.profile
                (subst (λ (y : Span). (l : Lifting ms fs 0 n y) → Changed l.machine l.others l.now y ms fs n u ms' fs') e f))

            pub moves_up : MovesUp tickets' nodes' states' dues' starts' holds' ms fs lo hi r.live n x clock clear
            moves_up = record {
              settings = m.settings;
              jobs = rest.jobs;
              tenants = tenants';
              estimates = estimates';
              leasts = leasts';
              core = core_rest;
              holds_are = holds_rest;
              before = before;
              clear_is = c ∙ ap cleanup k.settings_is;
              lifting = subst (Lifting ms fs 0 n) (sym e) (lifts m k.valid h t (inside w.low) w.departs k.columns.beside.profile);
              lifted = out;
              low_long = k.columns.beside.indexed.low_long;
              high_long = k.columns.beside.indexed.high_long;
            }

            -- what is told
            abbrev pub departed_told : MovedUp → Told
            departed_told u = record {
              refusal = refusal.None;
              ticket = 0;
              promise = 0;
              head = 0;
              forecast = 0;
              ended = r.ended;
              started = u.started;
              clock = clock;
              next = next;
              live = r.live;
              count = u.count;
              holding = 0;
              spare = 0;
            }

            abbrev moved : ℕ → List Job
            moved c = compressed m.settings c rest.jobs

            follow : Zip (Follows m.clock) rest.jobs (moved m.clock)
            follow = (compressed_is m.settings m.clock rest.jobs (compressible_jobs rest ready)).follow

            module _ {u : MovedUp} {states'' dues'' starts'' started ms' fs' lo' hi' : List ℕ}
                (g : MovedTo moves_up u states'' dues'' starts'' started ms' fs' lo' hi') where
              columns_after : ConservativeColumns (departed m h t).model tickets' nodes' states'' dues'' starts'' tenants' estimates' leasts' holds' promises' ms'
                  fs' lo' hi' r.live u.count
              unfolding moves_up departed advanced
              columns_after = record {
                core =
                    subst (λ (c : ℕ). JobColumns m.settings (moved c) tickets' nodes' states'' dues'' starts'' tenants' estimates' leasts' r.live)
                    k.clock_is g.core;
                holds_are = zip_column m.clock (hold_of m.settings) (follows_hold m.settings m.clock) rest.jobs (moved m.clock) follow holds_rest;
                promises_are = zip_column m.clock promise_of (follows_promise m.clock) rest.jobs (moved m.clock) follow promises_rest;
                beside = record {
                  profile =
                      subst (λ (c : ℕ). IsProfile m.settings.nodes (spans m.settings (moved c)) c u.count ms' fs') k.clock_is g.profile;
                  indexed = g.indexed;
                };
              }

              pub departed_answer : Answered (call m (depart h t)) (departed_told u) ended started tickets' nodes' states'' dues'' starts'' tenants' estimates'
                  leasts' holds' promises' ms' fs' lo' hi'
              unfolding moves_up departed advanced
              departed_answer = record {
                reply = subst (λ (y : Result). TellsReply y.reply (departed_told u) ended started) (sym call_is) (record {
                  refusal_is = refl;
                  ticket_is = refl;
                  promise_is = refl;
                  head_is_lem = refl;
                  forecast_is = refl;
                  ended_are = ended_rest;
                  started_are = subst (λ (c : ℕ). Listing (begun rest.jobs (moved c)) started u.started) k.clock_is g.listing;
                });
                numbers = subst (λ (y : Result). TellsModel y.model (departed_told u)) (sym call_is) (record {
                  clock_is = k.clock_is;
                  next_is = k.next_is;
                });
                columns =
                    subst
                    (λ (y : Result). ConservativeColumns y.model tickets' nodes' states'' dues'' starts'' tenants' estimates' leasts' holds' promises' ms' fs'
                    lo' hi' r.live u.count)
                    (sym call_is) columns_after;
              }
