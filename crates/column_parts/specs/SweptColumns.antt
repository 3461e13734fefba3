-- The columns while the jobs are looked at one after another in the minute after the clock.
-- Assumes nothing.
use Rattle.std.specs.Prelude.{ℕ, zero, suc, ◌+◌, ◌-◌, ◌≤◌, ◌<◌, ◌≡◌, refl, Bool, true, false, List, [], ◌∷◌, ◌++◌, eqb, length, get_or, set, take, drop}
use Rattle.std.proofs.Common.{arith, add-one, sym, ap, subst, ◌∙◌, length-append, length-set, take-suc-set, length-take-le, get_or-append-add, get_or-drop, eq-eqb, ne_eqb, lt-ltb, le-ltb}
use Rattle.std.proofs.Math.Seq.{take-length}
use Rattle.lists.specs.Tests.{true_false, and_right_false}
use Rattle.lists.specs.Lists.{keep, in_getD, length_keep_le}
use Rattle.lists.specs.Every.{and_both}
use Rattle.lists.specs.Loops.{keep_take_yes, keep_take_no}
use Rattle.scheduler.specs.declared.State.{State}
use Rattle.scheduler.specs.declared.State.TheVariants.{Unused, Waiting, Running, Cleanup}
use Rattle.scheduler.specs.declared.Settings.{Settings}
use Rattle.scheduler.specs.declared.Job.{Job}
use Rattle.scheduler.specs.declared.Select.{Select}
use Rattle.scheduler.specs.Limits.{slots, horizon}
use Rattle.scheduler.specs.States.{live?, running?}
use Rattle.scheduler.specs.Jobs.{unused, is_waiting, is_running, is_cleaning, ends_at, released_at, cleaning}
use Rattle.scheduler.specs.Settings.{cleanup}
use Rattle.scheduler.specs.Table.{ticket_of, ends, leaves, remaining}
use Rattle.scheduler.specs.Model.{Model, ending}
use Rattle.jobs.specs.Soundness.{Sound}
use Rattle.job_table.specs.Leaving.{tick_goes, tick_cleans, tick_releases, tick_stays}
use Rattle.job_columns.specs.Removal.{remove_at}
use Rattle.job_columns.specs.Columns.{Whole, column_at}
use Rattle.job_columns.specs.JobColumns.{state_number, state_of, due_of, JobColumns}
use Rattle.job_columns.specs.Encoding.{number_waiting, number_running, number_cleaning, ends_due, releases_due}
use Rattle.job_columns.specs.Searches.{FirstDue}
use Rattle.column_parts.specs.Counted.{Swept}
use Rattle.column_parts.specs.ColumnParts.{starts_in, Expires}
use Rattle.column_parts.specs.Sweep.{Sweep, swept, sweep_first, sweep_count, swept_length, sweep_there, sweep_on, swept_on, sweep_cleans}
use Rattle.column_parts.specs.Sweep.{swept_cleans, sweep_released, sweep_goes, swept_leaves, sweep_far, swept_all, stay_all, ended_all}
use Rattle.column_parts.specs.LeavingColumns.{gone_listed}

abbrev pub minute_after : Model → ℕ
minute_after m = suc m.clock

-- the columns are those of the list as it stands; the tickets ended and the places left stand first in their lists
pub record Sweeping (m : Model) (ended gone tickets nodes states dues starts tenants estimates leasts : List ℕ) (d : Swept) : Type 0 where
  pub ended_whole : Whole ended
  pub gone_whole : Whole gone
  pub ended_low : d.ended ≤ d.at + d.gone
  pub sweep : Sweep m.settings (minute_after m) (ending m) m.jobs (d.at + d.gone) d.at (take d.gone gone) (take d.ended ended)
  pub columns : JobColumns m.settings (swept m.settings (minute_after m) (ending m) m.jobs (d.at + d.gone)) tickets nodes states dues starts tenants
      estimates leasts d.live
  pub starting_is : d.starting ≡ length (keep (starts_in m.settings (minute_after m)) (take (d.at + d.gone) m.jobs))

-- the job in the place is due in this minute
pub record DueColumns (minute clearing : ℕ) (ended gone tickets nodes states dues starts tenants estimates leasts : List ℕ) (d : Swept) : Type 0 where
  pub model : Model
  pub sound : Sound model
  pub minute_is : minute ≡ minute_after model
  pub in_time_lem : minute ≤ horizon
  pub clearing_is : clearing ≡ cleanup model.settings
  pub sweeping : Sweeping model ended gone tickets nodes states dues starts tenants estimates leasts d
  pub more : d.at < d.live
  pub due : get_or dues d.at 0 ≡ minute

-- a live job that neither waits nor is in cleanup runs
live_runs : (st : State) → live? st ≡ true → (state_number st ≡ 1 → ⊥) → (state_number st ≡ 3 → ⊥) → running? st ≡ true
live_runs Unused l a b = true_false false l refl
live_runs Waiting l a b = absurd (a refl)
live_runs Running l a b = refl
live_runs Cleanup l a b = absurd (b refl)

-- none of the next k passes the test
kept_far : (p : Job → Bool) (xs : List Job) (i k : ℕ) → i + k ≤ length xs → ((n : ℕ) → i ≤ n → n < i + k → p (get_or xs n unused) ≡ false)
    → keep p (take (i + k) xs) ≡ keep p (take i xs)
kept_far p xs i zero l f = let z : i + 0 ≡ i = omega arith in rw z
kept_far p xs i (suc k) l f =
    let z : i + suc k ≡ i + k + 1 = omega arith in
    rw z (keep_take_no unused p xs (i + k) (omega arith) (f (i + k) (omega arith) (omega arith)) ∙ kept_far p xs i k (omega arith) (λ n a b. f n a (omega arith)))

module _ {m : Model} (v : Sound m) {ended gone tickets nodes states dues starts tenants estimates leasts : List ℕ} {d : Swept}
    (w : Sweeping m ended gone tickets nodes states dues starts tenants estimates leasts d) where
  abbrev S : Settings
  S = m.settings

  abbrev now : ℕ
  now = suc m.clock

  abbrev s : Select
  s = ending m

  abbrev js : List Job
  js = m.jobs

  abbrev i : ℕ
  i = d.at + d.gone

  -- the numbers
  pub sweeping_live : d.live + d.gone ≡ length js
  sweeping_live =
      omega (
        arith,
        sweep_count S now s js w.sweep,
        swept_length S now s js w.sweep,
        w.columns.live_is,
      )

  pub starting_low : d.starting ≤ i
  starting_low =
      omega (
        arith,
        w.starting_is,
        length_keep_le (starts_in S now) (take i js),
        length-take-le i js w.sweep.low,
      )

  -- ## The job in the place

  -- n places on from it stands the job that is n after the next one
  later_is : (n : ℕ) → get_or (swept S now s js i) (d.at + n) unused ≡ get_or js (i + n) unused
  later_is n =
      ap (λ (k : ℕ). get_or (swept S now s js i) (k + n) unused) (sym w.sweep.at_is)
      ∙ get_or-append-add (remaining S now s (take i js)) (drop i js) n unused
      ∙ get_or-drop i js n unused

  module _ (l : d.at < d.live) where
    pub inside : i < length js
    inside = omega (arith, sweeping_live)

    abbrev next : Job
    next = get_or js i unused

    listed : d.at < length (swept S now s js i)
    listed = omega (arith, w.columns.live_is)

    there : get_or (swept S now s js i) d.at unused ≡ next
    there = sweep_there S now s js w.sweep inside

    pub state_there : get_or states d.at 0 ≡ state_of next
    state_there = column_at state_of (swept S now s js i) states w.columns.states_are unused d.at listed ∙ ap state_of there

    pub ticket_there : get_or tickets d.at 0 ≡ next.ticket
    ticket_there = column_at ticket_of (swept S now s js i) tickets w.columns.tickets_are unused d.at listed ∙ ap ticket_of there

    due_there : get_or dues d.at 0 ≡ due_of S next
    due_there = column_at (due_of S) (swept S now s js i) dues w.columns.dues_are unused d.at listed ∙ ap (due_of S) there

    -- one number more in a list
    listed_more : (list : List ℕ) (k x : ℕ) → Whole list → k ≤ i → take (k + 1) (set list k x) ≡ take k list ++ (x ∷ [])
    listed_more list k x u q = rw add-one (take-suc-set list k x (omega (arith, inside, v.few)))

    -- one job more has been looked at
    looked : {ended' gone' tickets' nodes' states' dues' starts' tenants' estimates' leasts' : List ℕ} (d' : Swept) → d'.at + d'.gone ≡ i + 1
        → Whole ended' → Whole gone' → d'.ended ≤ i + 1 → Sweep S now s js (i + 1) d'.at (take d'.gone gone') (take d'.ended ended')
        → JobColumns S (swept S now s js (i + 1)) tickets' nodes' states' dues' starts' tenants' estimates' leasts' d'.live
        → d'.starting ≡ length (keep (starts_in S now) (take (i + 1) js))
        → Sweeping m ended' gone' tickets' nodes' states' dues' starts' tenants' estimates' leasts' d'
    looked d' e we wg el sw c st = record {
      ended_whole = we;
      gone_whole = wg;
      ended_low = rw e el;
      sweep = rw e sw;
      columns = rw e c;
      starting_is = rw e st;
    }

    -- what the number of its state says
    waits_if : (n : ℕ) → get_or states d.at 0 ≡ n → is_waiting next ≡ eqb n 1
    waits_if n e = sym (number_waiting next.state) ∙ ap (λ (k : ℕ). eqb k 1) (sym state_there ∙ e)

    runs_if : (n : ℕ) → get_or states d.at 0 ≡ n → is_running next ≡ eqb n 2
    runs_if n e = sym (number_running next.state) ∙ ap (λ (k : ℕ). eqb k 2) (sym state_there ∙ e)

    cleans_if_lem : (n : ℕ) → get_or states d.at 0 ≡ n → is_cleaning next ≡ eqb n 3
    cleans_if_lem n e = sym (number_cleaning next.state) ∙ ap (λ (k : ℕ). eqb k 3) (sym state_there ∙ e)

    module _ (due : get_or dues d.at 0 ≡ now) where
      due_now : eqb (due_of S next) now ≡ true
      due_now = eq-eqb (due_of S next) now (sym due_there ∙ due)

      starts_no : is_waiting next ≡ false → d.starting ≡ length (keep (starts_in S now) (take (i + 1) js))
      starts_no n = rw (keep_take_no unused (starts_in S now) js i inside (rw n)) w.starting_is

      -- it waits
      pub sweeping_starts : get_or states d.at 0 ≡ 1
          → Sweeping m ended gone tickets nodes states dues starts tenants estimates leasts
          (record { at = d.at + 1; live = d.live; ended = d.ended; gone = d.gone; starting = d.starting + 1 })
      sweeping_starts e =
          let no : ends_at S now next ≡ false = rw (runs_if 1 e) in
          let stays : leaves S s next ≡ false = tick_stays S now next no (rw (cleans_if_lem 1 e)) in
          let starts_now : starts_in S now next ≡ true = and_both (waits_if 1 e) due_now in
          looked _ (omega arith) w.ended_whole w.gone_whole (omega (arith, w.ended_low)) (sweep_on S now s js w.sweep inside stays no)
          (rw (swept_on S now s js w.sweep inside stays no) w.columns)
          (rw (keep_take_yes unused (starts_in S now) js i inside starts_now, length-append) (ap (λ (n : ℕ). n + 1) w.starting_is))

      -- its nodes are free
      pub sweeping_released : {tickets' nodes' states' dues' starts' tenants' estimates' leasts' : List ℕ} → get_or states d.at 0 ≡ 3
          → JobColumns S (remove_at d.at (swept S now s js i)) tickets' nodes' states' dues' starts' tenants' estimates' leasts' (d.live - 1)
          → Sweeping m ended (set gone d.gone d.at) tickets' nodes' states' dues' starts' tenants' estimates' leasts'
          (record { at = d.at; live = d.live - 1; ended = d.ended; gone = d.gone + 1; starting = d.starting })
      sweeping_released e c =
          let no : ends_at S now next ≡ false = rw (runs_if 3 e) in
          let free : released_at S now next ≡ true = releases_due S next now ∙ and_both (cleans_if_lem 3 e) due_now in
          let goes : leaves S s next ≡ true = tick_releases S now next no free in
          looked _ (omega arith) w.ended_whole (length-set gone d.gone d.at ∙ w.gone_whole) (omega (arith, w.ended_low))
          (rw (listed_more gone d.gone d.at w.gone_whole (omega arith)) (sweep_released S now s js w.sweep inside goes no))
          (rw (swept_leaves S now s js w.sweep inside goes) c) (starts_no (waits_if 3 e))

      -- its run ends
      module _ (a : get_or states d.at 0 ≡ 1 → ⊥) (b : get_or states d.at 0 ≡ 3 → ⊥) where
        runs : is_running next ≡ true
        runs = live_runs next.state (v.each next (in_getD js i unused inside)).is_live (λ e. a (state_there ∙ e)) (λ e. b (state_there ∙ e))

        over : ends_at S now next ≡ true
        over = ends_due S next now ∙ and_both runs due_now

        waits_not : is_waiting next ≡ false
        waits_not = sym (number_waiting next.state) ∙ ne_eqb (state_of next) 1 (λ e. a (state_there ∙ e))

        ended_more : take (d.ended + 1) (set ended d.ended (get_or tickets d.at 0)) ≡ take d.ended ended ++ (next.ticket ∷ [])
        ended_more = rw ticket_there (listed_more ended d.ended next.ticket w.ended_whole w.ended_low)

        -- and it is in cleanup
        pub sweeping_cleans : {tickets' nodes' states' dues' starts' tenants' estimates' leasts' : List ℕ} → 0 < cleanup S
            → JobColumns S (set (swept S now s js i) d.at (cleaning now (get_or (swept S now s js i) d.at unused))) tickets' nodes' states' dues' starts'
            tenants' estimates' leasts' d.live
            → Sweeping m (set ended d.ended (get_or tickets d.at 0)) gone tickets' nodes' states' dues' starts' tenants' estimates' leasts'
            (record { at = d.at + 1; live = d.live; ended = d.ended + 1; gone = d.gone; starting = d.starting })
        sweeping_cleans p c =
            let stays : leaves S s next ≡ false = tick_cleans S now next over (lt-ltb 0 (cleanup S) p) in
            looked _ (omega arith) (length-set ended d.ended (get_or tickets d.at 0) ∙ w.ended_whole) w.gone_whole (omega (arith, w.ended_low))
            (rw ended_more (sweep_cleans S now s js w.sweep inside stays over))
            (rw (swept_cleans S now s js w.sweep inside stays over) (rw there at c)) (starts_no waits_not)

        -- and it leaves
        pub sweeping_goes : {tickets' nodes' states' dues' starts' tenants' estimates' leasts' : List ℕ} → cleanup S ≡ 0
            → JobColumns S (remove_at d.at (swept S now s js i)) tickets' nodes' states' dues' starts' tenants' estimates' leasts' (d.live - 1)
            → Sweeping m (set ended d.ended (get_or tickets d.at 0)) (set gone d.gone d.at) tickets' nodes' states' dues' starts' tenants' estimates'
            leasts' (record { at = d.at; live = d.live - 1; ended = d.ended + 1; gone = d.gone + 1; starting = d.starting })
        sweeping_goes p c =
            let goes : leaves S s next ≡ true = tick_goes S now next over (le-ltb 0 (cleanup S) (omega arith)) in
            looked _ (omega arith) (length-set ended d.ended (get_or tickets d.at 0) ∙ w.ended_whole)
            (length-set gone d.gone d.at ∙ w.gone_whole) (omega (arith, w.ended_low))
            (rw (ended_more, listed_more gone d.gone d.at w.gone_whole (omega arith)) (sweep_goes S now s js w.sweep inside goes over))
            (rw (swept_leaves S now s js w.sweep inside goes) c) (starts_no waits_not)

  -- ## The jobs up to the next that is due

  module _ (minute r : ℕ) (u : minute ≡ now) (f : FirstDue dues d.at d.live minute r) where
    abbrev far : ℕ
    far = r - d.at

    reach : i + far ≤ length js
    reach = omega (arith, sweeping_live, f.from_to, f.to_end)

    -- none of them is due
    not_due : (n : ℕ) → i ≤ n → n < i + far → eqb (due_of S (get_or js n unused)) now ≡ false
    not_due n a b =
        let k = n - i in
        let z : i + k ≡ n = omega arith in
        let at_there : get_or dues (d.at + k) 0 ≡ due_of S (get_or js n unused) =
        column_at (due_of S) (swept S now s js i) dues w.columns.dues_are unused (d.at + k) (omega (arith, w.columns.live_is, f.to_end, f.from_to))
        ∙ ap (due_of S) (later_is k ∙ ap (λ (q : ℕ). get_or js q unused) z) in
        ne_eqb (due_of S (get_or js n unused)) now (λ e. f.passed (d.at + k) (omega arith) (omega (arith, f.from_to)) (at_there ∙ e ∙ sym u))

    unmoved : (n : ℕ) → i ≤ n → n < i + far → (ends s (get_or js n unused) ≡ false) × (leaves S s (get_or js n unused) ≡ false)
    unmoved n a b =
        let j = get_or js n unused in
        let e : ends_at S now j ≡ false = ends_due S j now ∙ and_right_false (is_running j) (not_due n a b) in
        let c : released_at S now j ≡ false = releases_due S j now ∙ and_right_false (is_cleaning j) (not_due n a b) in
        (e, tick_stays S now j e c)

    -- they are passed
    pub sweeping_far : Sweeping m ended gone tickets nodes states dues starts tenants estimates leasts
        (record { at = r; live = d.live; ended = d.ended; gone = d.gone; starting = d.starting })
    sweeping_far =
        let all = sweep_far S now s js far w.sweep reach unmoved in
        let at-r : d.at + far ≡ r = omega (arith, f.from_to) in
        let i-r : i + far ≡ r + d.gone = omega (arith, f.from_to) in
        record {
          ended_whole = w.ended_whole;
          gone_whole = w.gone_whole;
          ended_low = omega (arith, w.ended_low, f.from_to);
          sweep = rw (at-r, i-r) at all.0;
          columns =
              subst (λ (n : ℕ). JobColumns S (swept S now s js n) tickets nodes states dues starts tenants estimates leasts d.live) i-r
              (rw all.1 w.columns);
          starting_is =
              w.starting_is
              ∙ ap length (sym (kept_far (starts_in S now) js i far reach (λ n a b. and_right_false (is_waiting (get_or js n unused)) (not_due n a b))))
              ∙ ap (λ (n : ℕ). length (keep (starts_in S now) (take n js))) i-r;
        }

  -- ## All have been looked at

  pub sweeping_done : (live : ℕ) → length js ≡ live → d.live ≤ d.at
      → Expires m live (record { live = d.live; ended = d.ended; starting = d.starting }) ended gone tickets nodes states dues starts tenants estimates leasts
  sweeping_done live few l =
      let all : i ≡ length js = omega (arith, sweeping_live, w.sweep.low) in
      let left : live - d.live ≡ d.gone = omega (arith, sweeping_live) in
      let sw : Sweep S now s js (length js) d.at (take d.gone gone) (take d.ended ended) = rw all at w.sweep in
      let over = ended_all S now s js sw in
      record {
        ended_are = record {
          whole = w.ended_whole;
          count_is = sym (length-take-le d.ended ended (omega (arith, w.ended_low, w.ended_whole, v.few))) ∙ ap length over;
          first_are = over;
        };
        columns =
            subst (λ (xs : List Job). JobColumns S xs tickets nodes states dues starts tenants estimates leasts d.live) (swept_all S now s js sw)
            (rw all at w.columns);
        gone_whole = w.gone_whole;
        gone_are = gone_listed S s js gone (take d.gone gone) live d.live few (omega (arith, sweeping_live)) (rw left) sw.places (stay_all S now s js sw);
        starting_is = w.starting_is ∙ ap (λ (xs : List Job). length (keep (starts_in S now) xs)) (ap (λ (n : ℕ). take n js) all ∙ take-length js);
      }

-- nobody has been looked at yet
pub sweeping_first : (m : Model) (live : ℕ) {tickets nodes states dues starts tenants estimates leasts : List ℕ}
    → JobColumns m.settings m.jobs tickets nodes states dues starts tenants estimates leasts live → (ended gone : List ℕ) → Whole ended → Whole gone
    → Sweeping m ended gone tickets nodes states dues starts tenants estimates leasts (record { at = 0; live = live; ended = 0; gone = 0; starting = 0 })
sweeping_first m live c ended gone we wg = record {
  ended_whole = we;
  gone_whole = wg;
  ended_low = omega arith;
  sweep = sweep_first m.settings (minute_after m) (ending m) m.jobs;
  columns = c;
  starting_is = refl;
}

-- the numbers are within their bounds
pub record LowNumbers (d : Swept) : Type 0 where
  pub at_low : d.at < slots
  pub live_low : d.live ≤ slots
  pub ended_low : d.ended < slots
  pub gone_low : d.gone < slots
  pub starting_low : d.starting < slots

pub due_low : {minute clearing : ℕ} {ended gone tickets nodes states dues starts tenants estimates leasts : List ℕ} {d : Swept}
    → DueColumns minute clearing ended gone tickets nodes states dues starts tenants estimates leasts d → LowNumbers d
due_low k =
    let w = k.sweeping in
    let live = sweeping_live k.sound w in
    let i = inside k.sound w k.more in
    record {
      at_low = omega (arith, k.sound.few, i);
      live_low = omega (arith, k.sound.few, live);
      ended_low = omega (arith, k.sound.few, i, w.ended_low);
      gone_low = omega (arith, k.sound.few, i);
      starting_low = omega (arith, k.sound.few, i, starting_low k.sound w);
    }
