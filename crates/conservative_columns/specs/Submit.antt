-- A submission over columns: the start is sought through the index, the span is taken in, and the job stands last in every column.
-- Assumes nothing.
use Prim.Native.Nat.{ℕ, suc, ◌+◌, ◌≤◌, ◌<◌}
use Rattle.std.proofs.Common.{arith, sym, ◌∙◌}
use Rattle.std.proofs.Math.Numerals.{add-one}
use Rattle.std.specs.Prelude.{◌≡◌, refl, true, cond, List, [], ◌∷◌, ◌++◌, eqb, length, set}
use Rattle.std.proofs.Math.Path.{ap, subst}
use Rattle.scheduler.specs.declared.Job.{Job}
use Rattle.scheduler.specs.declared.Settings.{Settings}
use Rattle.scheduler.specs.declared.Submission.{Submission}
use Rattle.scheduler.specs.declared.Refusal.TheVariants as refusal
use Rattle.scheduler.specs.Limits.{slots, horizon, max_nodes, longest_estimate, last_ticket}
use Rattle.scheduler.specs.Settings.{quota, hold_time}
use Rattle.scheduler.specs.Times.{longest_le, hold_pos}
use Rattle.scheduler.specs.Jobs.{fresh}
use Rattle.scheduler.specs.Table.{live_of}
use Rattle.scheduler.specs.Model.{Model}
use Rattle.scheduler.specs.Answers.{Result, accepts}
use Rattle.jobs.specs.Soundness.{Fit}
use Rattle.jobs.specs.Slots.{Low}
use Rattle.job_table.specs.Parts.{refusal_by, shared_refusal}
use Rattle.job_table.specs.Submitting.{Tells, judged_alike}
use Rattle.job_columns.specs.Columns.{Whole, column_push}
use Rattle.job_columns.specs.JobColumns.{hold_of, promise_of, JobColumns}
use Rattle.column_parts.specs.Counted.{Told}
use Rattle.column_parts.specs.ColumnParts.{Listing}
use Rattle.column_parts.specs.LeavingColumns.{list_none}
use Rattle.column_parts.specs.ToldReply.{TellsReply, TellsModel}
use Rattle.history.specs.Calls.{submit}
use Rattle.spans.specs.declared.Span.{Span}
use Rattle.conservative_table.specs.ProfileLists.{Laying}
use Rattle.conservative_index.specs.declared.Start.{Start}
use Rattle.conservative_index.specs.BuiltIndex.{Indexed}
use Rattle.conservative_index.specs.Search.{Searches, Sought}
use Rattle.conservative_index.specs.Intake.{Took}
use Rattle.conservative_rules.specs.Conservative.{state_at, new_job, planned, submitted, call}
use Rattle.conservative.specs.Submit.{submit_taken, submit_fits, submit_room}
use Rattle.conservative_kept.specs.Beside.{Beside}
use Rattle.conservative_kept.specs.Submit.{searches, start_found, lays, taken_beside}
use Rattle.conservative_columns.specs.ConservativeColumns.{ConservativeColumns, KeptColumns, Answered}

-- the span of a job with a start and a hold time
abbrev pub held_span : (start hold nodes : ℕ) → Span
held_span start hold nodes = record { from = start; until = start + hold; nodes = nodes }

-- the columns are kept, no test refuses the submission, and this start has been found
pub record Admits (S : Settings) (clock next : ℕ) (tickets nodes states dues starts tenants estimates leasts holds promises ms fs lo hi : List ℕ)
    (live n : ℕ) (o : Submission) (start hold : ℕ) : Type 0 where
  pub kept : KeptColumns S clock next tickets nodes states dues starts tenants estimates leasts holds promises ms fs lo hi live n
  pub shared : accepts (shared_refusal kept.model o) ≡ true
  pub start_is : start ≡ planned kept.model o
  pub hold_is : hold ≡ hold_time kept.model.settings o.estimate
  pub within : start + hold ≤ horizon

module _ {S : Settings} {clock next : ℕ} {tickets nodes states dues starts tenants estimates leasts holds promises ms fs lo hi : List ℕ} {live n : ℕ}
    (k : KeptColumns S clock next tickets nodes states dues starts tenants estimates leasts holds promises ms fs lo hi live n) (o : Submission) where
  abbrev m : Model
  m = k.model

  -- the tests that both kinds share, by the number of the tenant's live jobs
  pub judged : (places own : ℕ) → places ≡ quota S o.tenant → Tells places (live_of o.tenant m.jobs) own → refusal_by S own next o ≡ shared_refusal m o
  judged places own e t =
      judged_alike S (live_of o.tenant m.jobs) own next o (rw e at t)
      ∙ (λ i. refusal_by (k.settings_is i) (live_of o.tenant m.jobs) (k.next_is i) o)

  module _ (a : accepts (shared_refusal m o) ≡ true) (hold : ℕ) (h : hold ≡ hold_time m.settings o.estimate) where
    pub sought_from : Searches ms fs n lo hi o.nodes hold
    sought_from =
        let f = submit_fits m o k.valid.sound a in
        rw h (searches m o k.valid k.columns.beside f.nodes_to (hold_pos m.settings o.estimate f.estimate_from))

    pub sought_start : {s : Start} → ((q : Searches ms fs n lo hi o.nodes hold) → Sought q s) → s.minute ≡ planned m o
    sought_start f =
        let t = submit_fits m o k.valid.sound a in
        start_found m o k.valid k.columns.beside t.nodes_to (hold_pos m.settings o.estimate t.estimate_from) (rw h at f)

module _ {S : Settings} {clock next : ℕ} {tickets nodes states dues starts tenants estimates leasts holds promises ms fs lo hi : List ℕ} {live n : ℕ}
    {o : Submission} {start hold : ℕ}
    (q : Admits S clock next tickets nodes states dues starts tenants estimates leasts holds promises ms fs lo hi live n o start hold) where
  abbrev at : Model
  at = q.kept.model

  fit : Fit at o
  fit = submit_fits at o q.kept.valid.sound q.shared

  pub admit_room : live < slots
  admit_room = omega (arith, q.kept.columns.core.live_is, submit_room at o q.kept.valid.sound q.shared)

  ends_in : planned at o + hold_time at.settings o.estimate ≤ horizon
  ends_in = omega (arith, q.within, q.start_is, q.hold_is)

  span_is : held_span start hold o.nodes ≡ held_span (planned at o) (hold_time at.settings o.estimate) o.nodes
  span_is = λ i. held_span (q.start_is i) (q.hold_is i) o.nodes

  few : length at.jobs < slots
  few = submit_room at o q.kept.valid.sound q.shared

  pub admit_lays : Laying ms fs 0 n (held_span start hold o.nodes)
  admit_lays = rw span_is (lays at o q.kept.valid q.kept.columns.beside fit.nodes_to few ends_in)

  pub admit_order : (o.nodes ≤ max_nodes) × (o.estimate ≤ longest_estimate) × (o.least ≤ o.estimate)
  admit_order = (
    omega (arith, fit.nodes_to, q.kept.valid.sound.nodes_to),
    omega (arith, fit.estimate_to, longest_le at.settings),
    fit.least_to,
  )

  pub admit_ticket : next ≤ last_ticket
  admit_ticket = omega (arith, q.kept.next_is, fit.ticket_left)

  -- the job as the code has it
  abbrev pub arriving : Job
  arriving = fresh next o (state_at clock start) start start

  pub admit_low : Low arriving
  admit_low = (omega (arith, q.within), omega arith)

  arriving_is : arriving ≡ new_job at o (planned at o)
  arriving_is = λ i. fresh (q.kept.next_is i) o (state_at (q.kept.clock_is i) (q.start_is i)) (q.start_is i) (q.start_is i)

  call_is : call at (submit o) ≡ submitted at o (planned at o)
  call_is = submit_taken at o q.kept.valid.sound q.shared ends_in

  pub core_by_settings : JobColumns S at.jobs tickets nodes states dues starts tenants estimates leasts live
  core_by_settings =
      subst (λ (T : Settings). JobColumns T at.jobs tickets nodes states dues starts tenants estimates leasts live) (sym q.kept.settings_is)
      q.kept.columns.core

  -- what is told
  abbrev pub admitted_told : (begun count : ℕ) → Told
  admitted_told begun count = record {
    refusal = refusal.None;
    ticket = next;
    promise = start;
    head = 0;
    forecast = 0;
    ended = 0;
    started = begun;
    clock = clock;
    next = next + 1;
    live = live + 1;
    count = count;
    holding = 0;
    spare = 0;
  }

  module _ {tickets' nodes' states' dues' starts' tenants' estimates' leasts' ms' fs' lo' hi' : List ℕ} {count : ℕ}
      (core : JobColumns S (at.jobs ++ (arriving ∷ [])) tickets' nodes' states' dues' starts' tenants' estimates' leasts' (live + 1))
      (took : (l : Laying ms fs 0 n (held_span start hold o.nodes)) → Indexed fs n lo hi → Took l count ms' fs' lo' hi') where
    core_after : JobColumns at.settings (at.jobs ++ (new_job at o (planned at o) ∷ [])) tickets' nodes' states' dues' starts' tenants' estimates' leasts' (live + 1)
    core_after =
        subst (λ (T : Settings). JobColumns T (at.jobs ++ (new_job at o (planned at o) ∷ [])) tickets' nodes' states' dues' starts' tenants' estimates' leasts' (live + 1))
        q.kept.settings_is
        (subst (λ (j : Job). JobColumns S (at.jobs ++ (j ∷ [])) tickets' nodes' states' dues' starts' tenants' estimates' leasts' (live + 1)) arriving_is core)

    listed_is : cond (eqb start clock) (next ∷ []) [] ≡ cond (eqb (planned at o) at.clock) (at.next ∷ []) []
    listed_is = λ i. cond (eqb (q.start_is i) (q.kept.clock_is i)) (q.kept.next_is i ∷ []) []

    columns_after : ConservativeColumns (submitted at o (planned at o)).model tickets' nodes' states' dues' starts' tenants' estimates' leasts'
        (set holds live hold) (set promises live start) ms' fs' lo' hi' (live + 1) count
    unfolding submitted
    columns_after =
        let long = q.kept.columns.core.live_is in
        record {
          core = core_after;
          holds_are =
              column_push (hold_of at.settings) at.jobs holds q.kept.columns.holds_are (new_job at o (planned at o)) live hold long admit_room q.hold_is;
          promises_are =
              column_push promise_of at.jobs promises q.kept.columns.promises_are (new_job at o (planned at o)) live start long admit_room q.start_is;
          beside =
              subst (λ (x : Result). Beside x.model count ms' fs' lo' hi') call_is
              (taken_beside at o q.kept.valid q.kept.columns.beside fit.nodes_to few ends_in call_is (rw span_is at took));
        }

    pub admitted : (ended : List ℕ) → Whole ended → {started : List ℕ} {begun : ℕ} → Listing (cond (eqb start clock) (next ∷ []) []) started begun
        → Answered (call at (submit o)) (admitted_told begun count) ended started tickets' nodes' states' dues' starts' tenants' estimates' leasts'
        (set holds live hold) (set promises live start) ms' fs' lo' hi'
    unfolding submitted
    admitted ended whole {started} {begun} listed = record {
      reply = subst (λ (x : Result). TellsReply x.reply (admitted_told begun count) ended started) (sym call_is) (record {
        refusal_is = refl;
        ticket_is = q.kept.next_is;
        promise_is = q.start_is;
        head_is_lem = refl;
        forecast_is = refl;
        ended_are = list_none ended whole;
        started_are = rw listed_is at listed;
      });
      numbers = subst (λ (x : Result). TellsModel x.model (admitted_told begun count)) (sym call_is) (record {
        clock_is = q.kept.clock_is;
        next_is = add-one next ∙ ap suc q.kept.next_is;
      });
      columns =
          subst
          (λ (x : Result). ConservativeColumns x.model tickets' nodes' states' dues' starts' tenants' estimates' leasts' (set holds live hold)
          (set promises live start) ms' fs' lo' hi' (live + 1) count)
          (sym call_is) columns_after;
    }
