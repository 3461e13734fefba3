-- A submission over columns: its tests, and the job that stands last.
-- Assumes nothing.
use Rattle.std.specs.Prelude.{ℕ, suc, ◌+◌, ◌*◌, ◌≤◌, ◌<◌, ◌≡◌, refl, Bool, true, false, List, [], ◌∷◌, ◌++◌, ltb, length, set}
use Rattle.std.proofs.Common.{arith, add-one, sym, ap, subst, ◌∙◌, lt-ltb, le-ltb}
use Rattle.lists.specs.Lists.{keep, length_keep_le}
use Rattle.scheduler.specs.declared.Settings.{Settings}
use Rattle.scheduler.specs.declared.Job.{Job}
use Rattle.scheduler.specs.declared.Refusal.{Refusal}
use Rattle.scheduler.specs.declared.Refusal.TheVariants as refusal
use Rattle.scheduler.specs.declared.Request.TheVariants as request
use Rattle.scheduler.specs.declared.State.TheVariants.{Waiting}
use Rattle.scheduler.specs.declared.Submission.{Submission}
use Rattle.scheduler.specs.Limits.{slots, max_nodes, horizon, longest_estimate, longest_hold}
use Rattle.scheduler.specs.Jobs.{is_waiting, fresh, entered}
use Rattle.scheduler.specs.Settings.{quota, hold_time, unit}
use Rattle.scheduler.specs.Times.{longest_le, hold_le, units_le}
use Rattle.scheduler.specs.Table.{live_of}
use Rattle.scheduler.specs.Model.{Model, joined}
use Rattle.scheduler.specs.Answers.{verdict, accepts, refuse}
use Rattle.jobs.specs.Soundness.{Sound, Fit, submit_fit, fit_room}
use Rattle.history.specs.Calls.{submit}
use Rattle.easy_rules.specs.Easy.{head, new_job, rank, submit_refusal, call}
use Rattle.easy_laws.specs.Validity.{Ready, latest_end}
use Rattle.job_table.specs.Parts.{Own, coming, refusal_by, shared_refusal}
use Rattle.job_table.specs.Submitting.{Tells, tests_more, judged_alike}
use Rattle.job_columns.specs.Columns.{Whole, column_push}
use Rattle.job_columns.specs.JobColumns.{submitted_of, rank_of, forecast_of, JobColumns}
use Rattle.column_parts.specs.Counted.{Told}
use Rattle.column_parts.specs.ToldReply.{refused_told}
use Rattle.easy_engine.specs.Survey.{asks, ticket_in, head_before}
use Rattle.easy.specs.Parts.{own}
use Rattle.easy_columns.specs.EasyColumns.{QueueColumns, EasyColumns}
use Rattle.easy_columns.specs.HoldersLeave.{holders_joined}
use Rattle.easy_columns.specs.Finishing.{Unfinished, Finishes}
use Rattle.easy_columns.specs.EasyCalls.{Kept, Gives, refused_gives, finished_gives, call_gives, before_is, ready_is}

-- the job that comes in
abbrev pub entering : (clock rank next : ℕ) → Submission → Job
entering clock rank next o = entered clock rank (fresh next o Waiting 0 0)

-- what is asked for can be kept in a record
pub record Orderly (o : Submission) : Type 0 where
  pub nodes_to : o.nodes ≤ max_nodes
  pub estimate_to : o.estimate ≤ longest_estimate
  pub least_to : o.least ≤ o.estimate

-- this kind's own columns, with it
pub queue_joined : {js : List Job} {asked submitted ranks forecasts : List ℕ} (live clock rank next : ℕ) (o : Submission) → length js ≡ live → live < slots
    → QueueColumns js asked submitted ranks forecasts
    → QueueColumns (js ++ (entering clock rank next o ∷ [])) (set asked live o.nodes) (set submitted live clock) (set ranks live rank) (set forecasts live 0)
queue_joined {js} live clock rank next o n l q =
    let j = entering clock rank next o in
    record {
      asked_are = column_push asks js _ q.asked_are j live o.nodes n l refl;
      submitted_are = column_push submitted_of js _ q.submitted_are j live clock n l refl;
      ranks_are = column_push rank_of js _ q.ranks_are j live rank n l refl;
      forecasts_are = column_push forecast_of js _ q.forecasts_are j live 0 n l refl;
    }

-- ## Its tests

module _ (m : Model) (o : Submission) where
  abbrev late : List (Bool × Refusal)
  late = (ltb horizon (latest_end m o.estimate), refusal.PastHorizon) ∷ []

  pub turned_away : accepts (shared_refusal m o) ≡ false → call m (submit o) ≡ refuse m (shared_refusal m o)
  unfolding call submit_refusal
  turned_away e =
      let w : submit_refusal m o ≡ shared_refusal m o = tests_more m.settings (live_of o.tenant m.jobs) m.next o late ∙ rw e in
      rw (w, e)

  module _ (e : accepts (shared_refusal m o) ≡ true) where
    by_latest : submit_refusal m o ≡ verdict late
    unfolding submit_refusal
    by_latest = tests_more m.settings (live_of o.tenant m.jobs) m.next o late ∙ rw e

    pub too_late : horizon < latest_end m o.estimate → call m (submit o) ≡ refuse m refusal.PastHorizon
    unfolding call verdict
    too_late l = let w : submit_refusal m o ≡ refusal.PastHorizon = by_latest ∙ rw (lt-ltb horizon (latest_end m o.estimate) l) in rw w

    module _ (l : latest_end m o.estimate ≤ horizon) where
      passes : submit_refusal m o ≡ refusal.None
      unfolding verdict
      passes = by_latest ∙ rw (le-ltb horizon (latest_end m o.estimate) l)

      pub comes : own m (request.Submit o) ≡ coming m.next (joined m (new_job m o))
      comes = rw passes

      pub fits : Fit m o
      unfolding submit_refusal
      fits = (submit_fit m o late (ap accepts passes)).0

      pub room : Sound m → length m.jobs < slots
      room s = fit_room m o s fits

      pub orderly : Sound m → Orderly o
      orderly s = record {
        nodes_to = omega (arith, fits.nodes_to, s.nodes_to);
        estimate_to = omega (arith, fits.estimate_to, longest_le m.settings);
        least_to = fits.least_to;
      }

-- ## By the numbers of the call

-- a submission that the tests of both kinds let through
pub record Admits (tickets nodes states dues starts tenants estimates leasts asked submitted ranks forecasts held ends holders started : List ℕ)
    (live holding spare clock next : ℕ) (S : Settings) (o : Submission) : Type 0 where
  pub kept : Kept tickets nodes states dues starts tenants estimates leasts asked submitted ranks forecasts held ends holders live holding spare clock next S
  pub room : Whole started
  pub judged : accepts (shared_refusal kept.model o) ≡ true

module _ {tickets nodes states dues starts tenants estimates leasts asked submitted ranks forecasts held ends holders : List ℕ}
    {live holding spare clock next : ℕ} {S : Settings}
    (k : Kept tickets nodes states dues starts tenants estimates leasts asked submitted ranks forecasts held ends holders live holding spare clock next S)
    (o : Submission) where
  abbrev m : Model
  m = k.model

  -- so many wait before it
  module _ (waits : ℕ) (w : waits ≡ length (keep is_waiting m.jobs)) where
    pub few_wait : waits ≤ slots
    few_wait = omega (arith, w, length_keep_le is_waiting m.jobs, k.valid.ready.sound.few)

    pub rank_is : waits + 1 ≡ rank m
    rank_is = ap (λ (n : ℕ). n + 1) w ∙ add-one (length (keep is_waiting m.jobs))

    pub latest_is : (u h : ℕ) → u ≡ unit S → h ≡ hold_time S o.estimate → clock + (waits + 1) * u + h ≡ latest_end m o.estimate
    latest_is u h eu eh =
        ap (λ (c : ℕ). c + (waits + 1) * u + h) k.clock_is
        ∙ ap (λ (n : ℕ). m.clock + n * u + h) rank_is
        ∙ ap (λ (n : ℕ). m.clock + rank m * n + h) (eu ∙ ap unit k.settings_is)
        ∙ ap (λ (n : ℕ). m.clock + rank m * unit m.settings + n) (eh ∙ ap (λ (T : Settings). hold_time T o.estimate) k.settings_is)

    -- none of these sums is too large
    pub latest_low : (u h : ℕ) → u ≡ unit S → h ≡ hold_time S o.estimate
        → ((waits + 1) * u ≤ 657150) × (clock + (waits + 1) * u ≤ 1657150) × (clock + (waits + 1) * u + h ≤ 1667260)
    latest_low u h eu eh =
        let p : (waits + 1) * u ≤ 65 * longest_hold = rw eu (units_le S (waits + 1) 65 (omega (arith, few_wait))) in
        let q : clock ≤ horizon = omega (arith, k.clock_is, k.valid.ready.sound.clock_to) in
        (omega arith, omega arith, omega (arith, eh, hold_le S o.estimate))

    -- it is this job
    pub new_is : entering clock (waits + 1) next o ≡ new_job m o
    new_is =
        ap (λ (c : ℕ). entering c (waits + 1) next o) k.clock_is
        ∙ ap (λ (n : ℕ). entering m.clock n next o) rank_is
        ∙ ap (λ (t : ℕ). entering m.clock (rank m) t o) k.next_is

    -- the columns with it
    pub joined_columns : {tickets' nodes' states' dues' starts' tenants' estimates' leasts' asked' submitted' ranks' forecasts' : List ℕ}
        → Sound (joined m (new_job m o))
        → JobColumns S (m.jobs ++ (entering clock (waits + 1) next o ∷ [])) tickets' nodes' states' dues' starts' tenants' estimates' leasts' (live + 1)
        → QueueColumns (m.jobs ++ (entering clock (waits + 1) next o ∷ [])) asked' submitted' ranks' forecasts'
        → EasyColumns (joined m (new_job m o)) tickets' nodes' states' dues' starts' tenants' estimates' leasts' asked' submitted' ranks' forecasts' held ends
        holders (live + 1) holding spare
    joined_columns {tickets'} {nodes'} {states'} {dues'} {starts'} {tenants'} {estimates'} {leasts'} {asked'} {submitted'} {ranks'} {forecasts'} s c q = record {
      core =
          subst (λ (T : Settings). JobColumns T (m.jobs ++ (new_job m o ∷ [])) tickets' nodes' states' dues' starts' tenants' estimates' leasts' (live + 1))
          k.settings_is
          (subst (λ (j : Job). JobColumns S (m.jobs ++ (j ∷ [])) tickets' nodes' states' dues' starts' tenants' estimates' leasts' (live + 1)) new_is c);
      queue = subst (λ (j : Job). QueueColumns (m.jobs ++ (j ∷ [])) asked' submitted' ranks' forecasts') new_is q;
      held_by = holders_joined m k.valid.ready.sound k.columns.held_by o s;
    }

-- the columns of both kinds, by the settings of the call
pub settled_core : {tickets nodes states dues starts tenants estimates leasts asked submitted ranks forecasts held ends holders : List ℕ}
    {live holding spare clock next : ℕ} {S : Settings}
    (k : Kept tickets nodes states dues starts tenants estimates leasts asked submitted ranks forecasts held ends holders live holding spare clock next S)
    → JobColumns S k.model.jobs tickets nodes states dues starts tenants estimates leasts live
settled_core {tickets} {nodes} {states} {dues} {starts} {tenants} {estimates} {leasts} {live = live} k =
    subst (λ (T : Settings). JobColumns T k.model.jobs tickets nodes states dues starts tenants estimates leasts live) (sym k.settings_is) k.columns.core

-- ## It comes in, and the columns are settled

module _ {tickets nodes states dues starts tenants estimates leasts asked submitted ranks forecasts held ends holders started : List ℕ}
    {live holding spare clock next : ℕ} {S : Settings} {o : Submission}
    (a : Admits tickets nodes states dues starts tenants estimates leasts asked submitted ranks forecasts held ends holders started live holding spare
    clock next S o) (waits : ℕ) (w : waits ≡ length (keep is_waiting a.kept.model.jobs)) (latest : ℕ)
    (e : latest ≡ latest_end a.kept.model o.estimate) where
  abbrev k : Kept tickets nodes states dues starts tenants estimates leasts asked submitted ranks forecasts held ends holders live holding spare clock next S
  k = a.kept

  abbrev before : Model
  before = a.kept.model

  -- it is refused
  pub admit_refused : horizon < latest → {ended : List ℕ} → Whole ended
      → Gives (call before (submit o)) (refused_told refusal.PastHorizon clock next live 0 holding spare) ended started tickets nodes states dues starts tenants
      estimates leasts asked submitted ranks forecasts held ends holders
  admit_refused l f =
      refused_gives before (call before (submit o)) refusal.PastHorizon (too_late before o a.judged (omega arith)) k.clock_is k.next_is f a.room k.columns

  module _ (l : latest ≤ horizon) where
    in_time_lem : latest_end before o.estimate ≤ horizon
    in_time_lem = omega arith

    -- its own part, by the numbers
    abbrev part : Own
    part = coming next (joined before (new_job before o))

    part_is : own before (request.Submit o) ≡ part
    part_is = comes before o a.judged in_time_lem ∙ ap (λ (t : ℕ). coming t (joined before (new_job before o))) (sym k.next_is)

    pub admit_room : (live < slots) × Orderly o
    admit_room =
        (omega (arith, room before o a.judged in_time_lem k.valid.ready.sound, k.columns.core.live_is), orderly before o a.judged in_time_lem k.valid.ready.sound)

    -- a ticket is left
    pub admit_next : next ≤ 999999
    admit_next = omega (arith, k.next_is, (fits before o a.judged in_time_lem).ticket_left)

    pub part_ready : Ready (joined before (new_job before o))
    part_ready = ready_is before k.valid (request.Submit o) part part_is

    module _ {tickets' nodes' states' dues' starts' tenants' estimates' leasts' asked' submitted' ranks' forecasts' : List ℕ}
        (c : JobColumns S (before.jobs ++ (entering clock (waits + 1) next o ∷ [])) tickets' nodes' states' dues' starts' tenants' estimates' leasts' (live + 1))
        (q : QueueColumns (before.jobs ++ (entering clock (waits + 1) next o ∷ [])) asked' submitted' ranks' forecasts') where
      abbrev pub admitted : Unfinished tickets' states' dues' starts' estimates' asked' forecasts' held ends holders started (live + 1) holding spare clock S
      admitted = record {
        model = joined before (new_job before o);
        ready = part_ready;
        settings_is = k.settings_is;
        clock_is = k.clock_is;
        nodes = nodes';
        tenants = tenants';
        leasts = leasts';
        submitted = submitted';
        ranks = ranks';
        columns = joined_columns k o waits w part_ready.sound c q;
        room = a.room;
      }

      pub admit_before : head_before next 0 (ticket_in (head (joined before (new_job before o)))) ≡ ticket_in (head before)
      admit_before = before_is before k.valid (request.Submit o) part part_is

      pub admit_gives : {r : Told} {ended started'' states'' dues'' starts'' asked'' forecasts'' held'' ends'' holders'' : List ℕ} → Whole ended
          → Finishes before (joined before (new_job before o)) next 0 clock (next + 1) r started'' tickets' nodes' states'' dues'' starts'' tenants' estimates' leasts'
          asked'' submitted' ranks' forecasts'' held'' ends'' holders''
          → Gives (call before (submit o)) r ended started'' tickets' nodes' states'' dues'' starts'' tenants' estimates' leasts' asked'' submitted' ranks' forecasts''
          held'' ends'' holders''
      admit_gives f g =
          call_gives before k.valid (request.Submit o) part part_is
          (finished_gives before part refl part_ready.sound g (record { whole = f; count_is = refl; first_are = refl }) k.clock_is
          (add-one next ∙ ap suc k.next_is))

-- what the tests of both kinds say, by the numbers of the call
pub shared_judged : {tickets nodes states dues starts tenants estimates leasts asked submitted ranks forecasts held ends holders : List ℕ}
    {live holding spare clock next : ℕ} {S : Settings}
    (k : Kept tickets nodes states dues starts tenants estimates leasts asked submitted ranks forecasts held ends holders live holding spare clock next S)
    (o : Submission) (mine : ℕ) → Tells (quota S o.tenant) (live_of o.tenant k.model.jobs) mine → (why : Refusal) → why ≡ refusal_by S mine next o
    → why ≡ shared_refusal k.model o
shared_judged {next = next} {S = S} k o mine t why e =
    e
    ∙ judged_alike S (live_of o.tenant k.model.jobs) mine next o t
    ∙ ap (λ (T : Settings). refusal_by T (live_of o.tenant k.model.jobs) next o) k.settings_is
    ∙ ap (λ (n : ℕ). refusal_by k.model.settings (live_of o.tenant k.model.jobs) n o) k.next_is

module _ {tickets nodes states dues starts tenants estimates leasts asked submitted ranks forecasts held ends holders started : List ℕ}
    {live holding spare clock next : ℕ} {S : Settings}
    (k : Kept tickets nodes states dues starts tenants estimates leasts asked submitted ranks forecasts held ends holders live holding spare clock next S)
    (o : Submission) (f : Whole started) (why : Refusal) (w : why ≡ shared_refusal k.model o) where
  -- they refuse it
  pub submit_refused : accepts why ≡ false → {ended : List ℕ} → Whole ended
      → Gives (call k.model (submit o)) (refused_told why clock next live 0 holding spare) ended started tickets nodes states dues starts tenants
      estimates leasts asked submitted ranks forecasts held ends holders
  submit_refused e g =
      refused_gives k.model (call k.model (submit o)) why (turned_away k.model o (ap accepts (sym w) ∙ e) ∙ ap (refuse k.model) (sym w)) k.clock_is
      k.next_is g f k.columns

  -- they let it through
  abbrev pub submit_admits : accepts why ≡ true
      → Admits tickets nodes states dues starts tenants estimates leasts asked submitted ranks forecasts held ends holders started live holding spare clock
      next S o
  submit_admits e = record { kept = k; room = f; judged = ap accepts (sym w) ∙ e }
