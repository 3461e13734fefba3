-- A minute in which waiting jobs start over columns: those that are due are found one after another.
-- Assumes nothing.
use Rattle.std.specs.Prelude.{ℕ, zero, suc, ◌+◌, ◌-◌, ◌≤◌, ◌<◌, ◌≡◌, refl, Bool, true, false, ◌&&◌, List, [], ◌∷◌, ◌++◌, map, eqb, length, get_or, set, take, drop}
use Rattle.std.proofs.Common.{arith, sym, ap, subst, ◌∙◌, append-nil, drop_of_length-le, take_all, length-take-le, get_or-append-add, get_or-drop, eqb-true, eq-eqb, ne_eqb}
use Rattle.std.proofs.lemmas.List.{map-append, length-map}
use Rattle.std.proofs.lemmas.Bool.{eqb-false}
use Rattle.lists.specs.Tests.{case, and_right_false}
use Rattle.lists.specs.Lists.{keep, In, keep_none, map_same, length_keep_le}
use Rattle.lists.specs.Loops.{keep_take_yes, keep_take_no, mapped_set, mapped_skip}
use Rattle.scheduler.specs.declared.State.TheVariants.{Running}
use Rattle.scheduler.specs.declared.Job.{Job}
use Rattle.scheduler.specs.declared.Settings.{Settings}
use Rattle.scheduler.specs.Limits.{slots, horizon, longest_hold}
use Rattle.scheduler.specs.Jobs.{unused, is_waiting, job_at}
use Rattle.scheduler.specs.Settings.{cleanup, run_time, hold_time}
use Rattle.scheduler.specs.Times.{hold_is, hold_le}
use Rattle.scheduler.specs.Table.{ticket_of, tickets_of}
use Rattle.job_columns.specs.Columns.{Column, Whole, column_at}
use Rattle.job_columns.specs.JobColumns.{never, state_of, due_of, hold_of, JobColumns}
use Rattle.job_columns.specs.Searches.{FirstDue}
use Rattle.job_columns.specs.Encoding.{number_waiting, due_planned, due_unplanned}
use Rattle.column_parts.specs.ColumnParts.{Listing, starts_in}
use Rattle.column_parts.specs.LeavingColumns.{list_none}
use Rattle.conservative_rules.specs.Conservative.{begun, turned}
use Rattle.conservative_laws.specs.Sentences.{starts_at, begun_turned}
use Rattle.conservative_laws.specs.TickedJob.{turned_due, turned_other}
use Rattle.conservative_columns.specs.Started.{listing_more}

-- a waiting job is due when it is planned to start
pub starts_due : (S : Settings) (t : ℕ) (j : Job) → 1 ≤ t → t ≤ horizon → starts_in S t j ≡ starts_at t j
starts_due S t j a b =
    case (is_waiting j)
    (λ w. case (eqb j.start 0)
    (λ z. let e = eqb-true j.start 0 z in
    ap (λ (d : ℕ). is_waiting j && eqb d t) (due_unplanned S j w e)
    ∙ and_right_false (is_waiting j) (ne_eqb never t (λ x. omega arith))
    ∙ sym (and_right_false (is_waiting j) (ne_eqb j.start t (λ x. omega arith))))
    (λ z. ap (λ (d : ℕ). is_waiting j && eqb d t) (due_planned S j w (omega (arith, eqb-false j.start 0 z)))))
    (λ w. rw w)

-- the columns are of jobs of which those due in this minute are to start; where it is said that none starts, none does
pub record Starting (tickets states holds dues starts : List ℕ) (live starting minute clear : ℕ) : Type 0 where
  pub settings : Settings
  pub jobs : List Job
  pub nodes : List ℕ
  pub tenants : List ℕ
  pub estimates : List ℕ
  pub leasts : List ℕ
  pub columns : JobColumns settings jobs tickets nodes states dues starts tenants estimates leasts live
  pub holds_are : Column (hold_of settings) jobs holds
  pub few : live ≤ slots
  pub minute_from : 1 ≤ minute
  pub minute_to : minute ≤ horizon
  pub clear_is : clear ≡ cleanup settings
  pub idle : starting ≡ 0 → (j : Job) → In j jobs → starts_at minute j ≡ false

module _ {tickets states₀ holds dues₀ starts₀ : List ℕ} {live starting minute clear : ℕ}
    (q : Starting tickets states₀ holds dues₀ starts₀ live starting minute clear) where
  abbrev S : Settings
  S = q.settings

  abbrev js : List Job
  js = q.jobs

  -- the jobs once those in the first places have started
  abbrev started_to : ℕ → List Job
  started_to i = map (turned minute) (take i js) ++ drop i js

  -- so many places have been looked at
  pub record Starts (i n : ℕ) (states dues starts started : List ℕ) : Type 0 where
    pub to : i ≤ live
    pub columns : JobColumns S (started_to i) tickets q.nodes states dues starts q.tenants q.estimates q.leasts live
    pub listing : Listing (tickets_of (keep (starts_at minute) (take i js))) started n

  long : length js ≡ live
  long = q.columns.live_is

  pub starts_begin : (started : List ℕ) → Whole started → Starts 0 0 states₀ dues₀ starts₀ started
  starts_begin started w = record { to = omega arith; columns = q.columns; listing = list_none started w }

  module _ {i n : ℕ} {states dues starts started : List ℕ} (v : Starts i n states dues starts started) where
    pub few_started : n ≤ i
    few_started =
        omega (
          arith,
          v.listing.count_is,
          length-map (keep (starts_at minute) (take i js)) ticket_of,
          length_keep_le (starts_at minute) (take i js),
          length-take-le i js (omega (arith, v.to, long)),
        )

    -- a job further on is as it was
    later_is : (k : ℕ) → i ≤ k → k < live → get_or (started_to i) k unused ≡ get_or js k unused
    later_is k a b =
        let ys = map (turned minute) (take i js) in
        let m : length ys ≡ i = length-map (take i js) (turned minute) ∙ length-take-le i js (omega (arith, v.to, long)) in
        let e : k ≡ length ys + (k - i) = omega arith in
        let z : i + (k - i) ≡ k = omega arith in
        ap (λ (p : ℕ). get_or (started_to i) p unused) e
        ∙ get_or-append-add ys (drop i js) (k - i) unused
        ∙ get_or-drop i js (k - i) unused
        ∙ ap (λ (p : ℕ). get_or js p unused) z

    length_now : length (started_to i) ≡ live
    length_now = v.columns.live_is

    due_there : (k : ℕ) → i ≤ k → k < live → get_or dues k 0 ≡ due_of S (get_or js k unused)
    due_there k a b =
        column_at (due_of S) (started_to i) dues v.columns.dues_are unused k (omega (arith, length_now)) ∙ ap (due_of S) (later_is k a b)

    -- whoever is not due does not start
    not_due : (k : ℕ) → i ≤ k → k < live → (get_or dues k 0 ≡ minute → ⊥) → starts_at minute (get_or js k unused) ≡ false
    not_due k a b f =
        sym (starts_due S minute (get_or js k unused) q.minute_from q.minute_to)
        ∙ and_right_false (is_waiting (get_or js k unused)) (ne_eqb (due_of S (get_or js k unused)) minute (λ e. f (due_there k a b ∙ e)))

    -- the next places are passed over
    pub starts_far : (d : ℕ) → i + d ≤ live → ((k : ℕ) → i ≤ k → k < i + d → get_or dues k 0 ≡ minute → ⊥) → Starts (i + d) n states dues starts started
    starts_far d l f = record {
      to = l;
      columns =
          subst (λ (ks : List Job). JobColumns S ks tickets q.nodes states dues starts q.tenants q.estimates q.leasts live)
          (far d l f).0 v.columns;
      listing = subst (λ (ks : List Job). Listing (tickets_of ks) started n) (sym (far d l f).1) v.listing;
    }
      where
        far : (d : ℕ) → i + d ≤ live → ((k : ℕ) → i ≤ k → k < i + d → get_or dues k 0 ≡ minute → ⊥)
            → (started_to i ≡ started_to (i + d)) × (keep (starts_at minute) (take (i + d) js) ≡ keep (starts_at minute) (take i js))
        far zero l f = let e : i + 0 ≡ i = omega arith in rw e (refl, refl)
        far (suc d) l f =
            let e : i + suc d ≡ i + d + 1 = omega arith in
            let r = far d (omega arith) (λ k a b. f k a (omega arith)) in
            let no = not_due (i + d) (omega arith) (omega arith) (f (i + d) (omega arith) (omega arith)) in
            let h : i + d < length js = omega (arith, long) in
            rw e (
              r.0 ∙ mapped_skip unused (turned minute) js (i + d) h (turned_other minute (get_or js (i + d) unused) no),
              keep_take_no unused (starts_at minute) js (i + d) h no ∙ r.1,
            )

    pub starts_next : {r : ℕ} → FirstDue dues i live minute r → Starts r n states dues starts started
    starts_next {r} f =
        let e : i + (r - i) ≡ r = omega (arith, f.from_to) in
        rw e at (starts_far (r - i) (omega (arith, f.from_to, f.to_end)) (λ k a b. f.passed k a (omega (arith, f.from_to))))

    -- the job in this place
    module _ (l : i < live) where
      abbrev job : Job
      job = get_or js i unused

      in_jobs : i < length js
      in_jobs = omega (arith, long)

      in_now : i < length (started_to i)
      in_now = omega (arith, length_now)

      there : get_or (started_to i) i unused ≡ job
      there = later_is i (omega arith) l

      state_there : get_or states i 0 ≡ state_of job
      state_there = column_at state_of (started_to i) states v.columns.states_are unused i in_now ∙ ap state_of there

      ticket_there : get_or tickets i 0 ≡ job.ticket
      ticket_there = column_at ticket_of (started_to i) tickets v.columns.tickets_are unused i in_now ∙ ap ticket_of there

      hold_there : get_or holds i 0 ≡ hold_time S job.estimate
      hold_there = column_at (hold_of S) js holds q.holds_are unused i in_jobs

      pub clears : clear ≤ get_or holds i 0
      clears = omega (arith, q.clear_is, hold_there, hold_is S job.estimate)

      pub run_there : get_or holds i 0 - clear ≡ run_time S (get_or (started_to i) i unused).estimate
      run_there = omega (arith, q.clear_is, hold_there, hold_is S job.estimate, ap (λ (j : Job). run_time S j.estimate) there)

      pub run_low : get_or holds i 0 - clear ≤ longest_hold
      run_low = omega (arith, hold_there, hold_le S job.estimate)

      -- it does not wait
      pub starts_past : (get_or states i 0 ≡ 1 → ⊥) → Starts (i + 1) n states dues starts started
      starts_past f =
          let rests : is_waiting job ≡ false = sym (number_waiting job.state) ∙ ne_eqb (state_of job) 1 (λ e. f (state_there ∙ e)) in
          let no : starts_at minute job ≡ false = rw rests in
          record {
            to = omega arith;
            columns =
                subst (λ (ks : List Job). JobColumns S ks tickets q.nodes states dues starts q.tenants q.estimates q.leasts live)
                (mapped_skip unused (turned minute) js i in_jobs (turned_other minute job no)) v.columns;
            listing = rw (keep_take_no unused (starts_at minute) js i in_jobs no) v.listing;
          }

      -- it starts
      pub starts_now : get_or states i 0 ≡ 1 → get_or dues i 0 ≡ minute → {states' dues' starts' : List ℕ}
          → JobColumns S (set (started_to i) i (job_at Running minute (get_or (started_to i) i unused))) tickets q.nodes states' dues' starts' q.tenants
          q.estimates q.leasts live
          → Starts (i + 1) (n + 1) states' dues' starts' (set started n (get_or tickets i 0))
      starts_now w u {states'} {dues'} {starts'} k =
          let waits : is_waiting job ≡ true = sym (number_waiting job.state) ∙ eq-eqb (state_of job) 1 (sym state_there ∙ w) in
          let due : eqb (due_of S job) minute ≡ true = eq-eqb (due_of S job) minute (sym (due_there i (omega arith) l) ∙ u) in
          let both : starts_in S minute job ≡ true = ap (λ (b : Bool). b && eqb (due_of S job) minute) waits ∙ due in
          let yes : starts_at minute job ≡ true = sym (starts_due S minute job q.minute_from q.minute_to) ∙ both in
          let same : job_at Running minute (get_or (started_to i) i unused) ≡ turned minute job =
          ap (job_at Running minute) there ∙ sym (turned_due minute job yes ∙ rw (eq-eqb minute minute refl)) in
          record {
            to = omega arith;
            columns =
                subst (λ (ks : List Job). JobColumns S ks tickets q.nodes states' dues' starts' q.tenants q.estimates q.leasts live)
                (mapped_set unused (turned minute) js i (job_at Running minute (get_or (started_to i) i unused)) in_jobs same) k;
            listing =
                rw (ticket_there, keep_take_yes unused (starts_at minute) js i in_jobs yes, map-append ticket_of (keep (starts_at minute) (take i js)) (job ∷ []))
                (listing_more job.ticket (omega (arith, few_started, q.few)) v.listing);
          }

  -- all have been looked at
  pub record AllStarted (n : ℕ) (states dues starts started : List ℕ) : Type 0 where
    pub columns : JobColumns S (map (turned minute) js) tickets q.nodes states dues starts q.tenants q.estimates q.leasts live
    pub listing : Listing (begun js (map (turned minute) js)) started n

  pub starts_end : {i n : ℕ} {states dues starts started : List ℕ} → Starts i n states dues starts started → live ≤ i → AllStarted n states dues starts started
  starts_end {i} {n} {states} {dues} {starts} {started} v l =
      let le : length js ≤ i = omega (arith, long) in
      let all = take_all i js le in
      record {
        columns =
            subst (λ (ks : List Job). JobColumns S ks tickets q.nodes states dues starts q.tenants q.estimates q.leasts live)
            (rw (all, drop_of_length-le js le) (append-nil (map (turned minute) js))) v.columns;
        listing = rw (begun_turned minute js) (rw all at v.listing);
      }

  -- nobody starts
  pub starts_nobody : starting ≡ 0 → (started : List ℕ) → Whole started → AllStarted 0 states₀ dues₀ starts₀ started
  starts_nobody e started w =
      let same : map (turned minute) js ≡ js = map_same (turned minute) js (λ j i. turned_other minute j (q.idle e j i)) in
      record {
        columns =
            subst (λ (ks : List Job). JobColumns S ks tickets q.nodes states₀ dues₀ starts₀ q.tenants q.estimates q.leasts live) (sym same)
            q.columns;
        listing = rw (begun_turned minute js, keep_none (starts_at minute) js (q.idle e)) (list_none started w);
      }
