-- The passes after an early end or a withdrawal over columns: a turn writes the job's start, when it is due and its state.
-- Assumes nothing.
use Rattle.std.specs.Prelude.{ℕ, ◌+◌, ◌-◌, ◌*◌, ◌≤◌, ◌<◌, ◌≡◌, refl, true, false, List, map, ◌≢◌, length, get_or, set}
use Rattle.std.proofs.Common.{arith, sym, ap, subst, ◌∙◌, length-set, ne_eqb, eq-eqb}
use Rattle.std.proofs.lemmas.List.{set-get_or}
use Rattle.lists.specs.Lists.{sum, sum_map, all_at}
use Rattle.lists.specs.Pads.{sum_pad}
use Rattle.scheduler.specs.declared.State.TheVariants.{Waiting, Running}
use Rattle.scheduler.specs.declared.Job.{Job}
use Rattle.scheduler.specs.declared.Settings.{Settings}
use Rattle.scheduler.specs.Limits.{longest_hold, slots}
use Rattle.scheduler.specs.Jobs.{unused, is_waiting, job_at}
use Rattle.scheduler.specs.States.{waiting?}
use Rattle.scheduler.specs.Settings.{horizon, cleanup, run_time, hold_time}
use Rattle.scheduler.specs.Times.{hold_is, hold_le}
use Rattle.scheduler.specs.Table.{ticket_of}
use Rattle.jobs.specs.Soundness.{waiting_is}
use Rattle.job_columns.specs.Columns.{Column, nodes_of, estimate_of, column_at, column_set, column_still}
use Rattle.job_columns.specs.JobColumns.{state_number, state_of, tenant_of, start_of, least_of, due_of, hold_of, JobColumns}
use Rattle.job_columns.specs.Encoding.{number_waiting, due_planned}
use Rattle.conservative_table.specs.ProfileLists.{IsProfile}
use Rattle.conservative_rules.specs.Conservative.{spans, placed, compressed}
use Rattle.conservative_laws.specs.Compression.{Movable, placed_still}
use Rattle.conservative_plan.specs.declared.Turn.{Turn}
use Rattle.conservative_plan.specs.declared.Replanned.{Replanned}
use Rattle.conservative_plan.specs.Replan.{Replans, Turned, TurnDone, TurnAsked, done_placed, moved_low, start_later}
use Rattle.conservative_plan.specs.Pass.{SlotJob, Before, Turning, calm_turns, slot_after, turns_begin, turn_asked, turn_taken, taken_falls, turn_passed, turns_end}

-- ## One job

-- it waits, and can be placed at this minute
pub record Placeable (S : Settings) (js : List Job) (at from to run clock : ℕ) : Type 0 where
  pub waits : is_waiting (get_or js at unused) ≡ true
  pub from_is : from ≡ (get_or js at unused).start
  pub ahead : clock < from
  pub later : clock ≤ to
  pub no_end : (get_or js at unused).end ≡ 0
  pub run_is : run ≡ run_time S (get_or js at unused).estimate

module _ {S : Settings} {js : List Job} {tickets nodes states dues starts tenants estimates leasts : List ℕ} {live : ℕ}
    (c : JobColumns S js tickets nodes states dues starts tenants estimates leasts live) {at from to run clock : ℕ} (l : at < live)
    (p : Placeable S js at from to run clock) where
  abbrev j : Job
  j = get_or js at unused

  abbrev after : List Job
  after = set js at (placed clock to j)

  inside : at < length js
  inside = omega (arith, c.live_is)

  -- where it is already: nothing changes
  pub placed_here : to ≡ from → JobColumns S after tickets nodes states dues starts tenants estimates leasts live
  placed_here e =
      let same : placed clock to j ≡ j =
      ap (λ (s : ℕ). placed clock s j) (e ∙ p.from_is) ∙ placed_still clock j p.waits (omega (arith, p.ahead, p.from_is)) p.no_end in
      subst (λ (ks : List Job). JobColumns S ks tickets nodes states dues starts tenants estimates leasts live)
      (sym (ap (set js at) same ∙ set-get_or js at unused)) c

  -- it begins
  pub placed_now : {states' dues' starts' : List ℕ} → to ≡ clock
      → JobColumns S (set js at (job_at Running clock j)) tickets nodes states' dues' starts' tenants estimates leasts live
      → JobColumns S after tickets nodes states' dues' starts' tenants estimates leasts live
  placed_now e k = rw (e, eq-eqb clock clock refl) k

  -- it waits on
  pub placed_later : to ≢ clock → JobColumns S after tickets nodes states (set dues at to) (set starts at to) tenants estimates leasts live
  placed_later n =
      let k : Job = placed clock to j in
      let waits : k.state ≡ Waiting = rw (ne_eqb to clock n) in
      record {
        live_is = length-set js at k ∙ c.live_is;
        tickets_are = column_still ticket_of js tickets c.tickets_are unused at k refl;
        nodes_are = column_still nodes_of js nodes c.nodes_are unused at k refl;
        states_are = column_still state_of js states c.states_are unused at k (ap state_number (waits ∙ sym (waiting_is j.state p.waits)));
        dues_are =
            column_set (due_of S) js dues c.dues_are at k to inside
            (sym (due_planned S k (ap waiting? waits) (omega (arith, p.later, n))));
        starts_are = column_set start_of js starts c.starts_are at k to inside refl;
        tenants_are = column_still tenant_of js tenants c.tenants_are unused at k refl;
        estimates_are = column_still estimate_of js estimates c.estimates_are unused at k refl;
        leasts_are = column_still least_of js leasts c.leasts_are unused at k refl;
      }

-- ## The passes

-- the columns are of jobs over which passes can go, and the lists are their profile
pub record Passing (nodes states holds dues starts ms fs : List ℕ) (live n clock clear : ℕ) : Type 0 where
  pub settings : Settings
  pub jobs : List Job
  pub tickets : List ℕ
  pub tenants : List ℕ
  pub estimates : List ℕ
  pub leasts : List ℕ
  pub columns : JobColumns settings jobs tickets nodes states dues starts tenants estimates leasts live
  pub holds_are : Column (hold_of settings) jobs holds
  pub before : Before live settings clock jobs
  pub profile : IsProfile settings.nodes (spans settings jobs) clock n ms fs
  pub clear_is : clear ≡ cleanup settings

sums : (js : List Job) {starts : List ℕ} → Column start_of js starts → sum (λ (s : ℕ). s) starts ≡ sum start_of js
sums js c = ap (sum (λ (s : ℕ). s)) c ∙ sum_pad slots 0 (λ (s : ℕ). s) (map start_of js) refl ∙ sum_map (λ (s : ℕ). s) start_of js

-- the sum of the planned starts falls where somebody moves
abbrev pub column_turns_left : List ℕ → ℕ → ℕ
column_turns_left starts turns = 65 * sum (λ (s : ℕ). s) starts + (64 - turns)

module _ {nodes states₀ holds dues₀ starts₀ ms₀ fs₀ : List ℕ} {live n₀ clock clear : ℕ}
    (q : Passing nodes states₀ holds dues₀ starts₀ ms₀ fs₀ live n₀ clock clear) where
  abbrev S : Settings
  S = q.settings

  -- it is the turn of the job in this place
  pub record Turns (states dues starts : List ℕ) (at turns n : ℕ) (ms fs : List ℕ) : Type 0 where
    pub jobs : List Job
    pub turning : Turning live S clock q.jobs jobs at turns n ms fs
    pub columns : JobColumns S jobs q.tickets nodes states dues starts q.tenants q.estimates q.leasts live
    pub holds_are : Column (hold_of S) jobs holds

  -- the passes are over
  pub record Passed (states dues starts : List ℕ) (n : ℕ) (ms fs : List ℕ) : Type 0 where
    pub columns : JobColumns S (compressed S clock q.jobs) q.tickets nodes states dues starts q.tenants q.estimates q.leasts live
    pub profile : IsProfile S.nodes (spans S (compressed S clock q.jobs)) clock n ms fs

  pub passes_begin : Turns states₀ dues₀ starts₀ 0 0 n₀ ms₀ fs₀
  passes_begin = record { jobs = q.jobs; turning = turns_begin q.before q.profile; columns = q.columns; holds_are = q.holds_are }

  module _ {states dues starts ms fs : List ℕ} {at turns n : ℕ} (v : Turns states dues starts at turns n ms fs) where
    pub passes_end : live ≤ turns → Passed states dues starts n ms fs
    passes_end l =
        let e = turns_end v.turning l in
        record {
          columns =
              subst (λ (ks : List Job). JobColumns S ks q.tickets nodes states dues starts q.tenants q.estimates q.leasts live) e v.columns;
          profile = subst (λ (ks : List Job). IsProfile S.nodes (spans S ks) clock n ms fs) e v.turning.profile;
        }

    module _ (l : turns < live) where
      abbrev job : Job
      job = get_or v.jobs at unused

      pub place_low : at < live
      place_low = v.turning.low l

      pub slot_low : at < slots
      slot_low = omega (arith, place_low, v.turning.before.fits.few)

      in_jobs : at < length v.jobs
      in_jobs = omega (arith, place_low, v.columns.live_is)

      -- what the columns have of it
      state_there : get_or states at 0 ≡ state_of job
      state_there = column_at state_of v.jobs states v.columns.states_are unused at in_jobs

      nodes_there : get_or nodes at 0 ≡ job.nodes
      nodes_there = column_at nodes_of v.jobs nodes v.columns.nodes_are unused at in_jobs

      start_there : get_or starts at 0 ≡ job.start
      start_there = column_at start_of v.jobs starts v.columns.starts_are unused at in_jobs

      hold_there : get_or holds at 0 ≡ hold_time S job.estimate
      hold_there = column_at (hold_of S) v.jobs holds v.holds_are unused at in_jobs

      pub clears : clear ≤ get_or holds at 0
      clears = omega (arith, q.clear_is, hold_there, hold_is S job.estimate)

      run_there : get_or holds at 0 - clear ≡ run_time S job.estimate
      run_there = omega (arith, q.clear_is, hold_there, hold_is S job.estimate)

      pub run_low : get_or holds at 0 - clear ≤ longest_hold
      run_low = omega (arith, hold_there, hold_le S job.estimate)

      pub waits_if : get_or states at 0 ≡ 1 → is_waiting job ≡ true
      waits_if e = sym (number_waiting job.state) ∙ eq-eqb (state_of job) 1 (sym state_there ∙ e)

      -- it does not wait
      pub passed_by_lem : get_or states at 0 ≢ 1 → Turns states dues starts (slot_after live at) (turns + 1) n ms fs
      passed_by_lem w =
          let rests : is_waiting job ≡ false = sym (number_waiting job.state) ∙ ne_eqb (state_of job) 1 (λ e. w (state_there ∙ e)) in
          record { jobs = v.jobs; turning = turn_passed v.turning l rests; columns = v.columns; holds_are = v.holds_are }

      -- it waits, and has its turn
      module _ (w : is_waiting job ≡ true) where
        movable : Movable S clock job
        movable = (all_at (SlotJob S clock) v.jobs at unused v.turning.before.each in_jobs).movable

        pub asked : TurnAsked ms fs n (get_or nodes at 0) (get_or starts at 0) (get_or holds at 0)
        asked =
            let r = turn_asked v.turning l hold_there w in
            record { job = job; now = clock; replans = r.0; nodes_are = nodes_there; start_is = start_there; hold_is = r.1 }

        module _ (t : Turn) {ms' fs' : List ℕ}
            (f : (a : TurnAsked ms fs n (get_or nodes at 0) (get_or starts at 0) (get_or holds at 0)) → Turned a.replans t ms' fs') where
          pub start_low : t.start ≤ horizon S
          unfolding asked
          start_low = omega (arith, (f asked).start_is, moved_low asked.replans)

          pub placeable : Placeable S v.jobs at (get_or starts at 0) t.start (get_or holds at 0 - clear) clock
          unfolding asked
          placeable = record {
            waits = w;
            from_is = start_there;
            ahead = omega (arith, start_there, movable.ahead w);
            later = omega (arith, (f asked).start_is, start_later asked.replans);
            no_end = movable.no_end w;
            run_is = run_there;
          }

          abbrev there : Replanned
          there = record { job = placed clock t.start job; count = t.count }

          done : (p : Replans ms fs n job clock) → get_or holds at 0 ≡ hold_time p.settings job.estimate → TurnDone p there ms' fs'
          done p h =
              done_placed p (f (record { job = job; now = clock; replans = p; nodes_are = nodes_there; start_is = start_there; hold_is = h }))

          pub turn_over : {states' dues' starts' : List ℕ}
              → JobColumns S (set v.jobs at (placed clock t.start job)) q.tickets nodes states' dues' starts' q.tenants q.estimates q.leasts live
              → Turns states' dues' starts' (slot_after live at) (calm_turns (turns + 1) (get_or starts at 0) t.start) t.count ms' fs'
          turn_over k = record {
            jobs = set v.jobs at (placed clock t.start job);
            turning = rw start_there (turn_taken v.turning l hold_there w there done);
            columns = k;
            holds_are = column_still (hold_of S) v.jobs holds v.holds_are unused at (placed clock t.start job) refl;
          }

          pub turn_falls : {states' dues' starts' : List ℕ}
              → JobColumns S (set v.jobs at (placed clock t.start job)) q.tickets nodes states' dues' starts' q.tenants q.estimates q.leasts live
              → column_turns_left starts' (calm_turns (turns + 1) (get_or starts at 0) t.start) < column_turns_left starts turns
          turn_falls k =
              rw (start_there, sums v.jobs v.columns.starts_are, sums (set v.jobs at (placed clock t.start job)) k.starts_are) (taken_falls v.turning l hold_there w there done)
