-- The columns once a job has left on request, or is in cleanup, are those that the definition gives.
-- Assumes nothing.
use Rattle.std.specs.Prelude.{ℕ, ◌-◌, ◌≤◌, ◌<◌, ◌≡◌, refl, true, false, List, [], ◌∷◌, length, get_or, set, take}
use Rattle.std.proofs.Common.{arith, sym, ap, subst, ◌∙◌, length-set, take-suc-set, eq-eqb, ne_eqb, ltb-true, ltb-false}
use Rattle.std.proofs.Math.Option.{some}
use Rattle.lists.specs.Tests.{case, true_false, on}
use Rattle.lists.specs.Lists.{in_getD}
use Rattle.lists.specs.Loops.{position}
use Rattle.scheduler.specs.declared.Settings.{Settings}
use Rattle.scheduler.specs.declared.Job.{Job}
use Rattle.scheduler.specs.declared.Departure.{Departure}
use Rattle.scheduler.specs.declared.Departure.TheVariants.{Complete, Cancel}
use Rattle.scheduler.specs.declared.Refusal.{Refusal}
use Rattle.scheduler.specs.declared.Refusal.TheVariants as refusal
use Rattle.scheduler.specs.declared.Select.{Select}
use Rattle.scheduler.specs.declared.Select.TheVariants as select
use Rattle.scheduler.specs.Limits.{horizon, longest_estimate}
use Rattle.scheduler.specs.Times.{longest_le}
use Rattle.scheduler.specs.Jobs.{unused, departs?, departs_as, cleaning}
use Rattle.scheduler.specs.Settings.{cleanup}
use Rattle.scheduler.specs.Table.{staying}
use Rattle.scheduler.specs.Model.{Model}
use Rattle.scheduler.specs.Answers.{accepts}
use Rattle.scheduler.specs.Refusals.{not_there_of, depart_refusal}
use Rattle.jobs.specs.Soundness.{Sound}
use Rattle.jobs.specs.Departing.{not_there}
use Rattle.jobs.specs.Judgement.{accepts_none}
use Rattle.jobs.specs.Slots.{sound_low}
use Rattle.job_table.specs.Parts.{Own, judged_own, refused_own, leaving, withdrawn_by, departing, ends?}
use Rattle.job_columns.specs.Removal.{remove_at, removes, Places}
use Rattle.job_columns.specs.Columns.{Whole, column_at}
use Rattle.job_columns.specs.JobColumns.{state_of, start_of, least_of, JobColumns}
use Rattle.job_columns.specs.Searches.{has_ticket, place_of, place_some, place_none}
use Rattle.column_parts.specs.Counted.{Left}
use Rattle.column_parts.specs.ColumnParts.{Listing, Gone, SoundColumns, Leaves}
use Rattle.column_parts.specs.Departures.{refusal_at, cleans_by, leaves_from_lem, refused_nowhere, refused_there, found_inside, found_named, LeftAt}
use Rattle.column_parts.specs.Departures.{left_cleaning, left_over, left_withdrawn}

-- ## Numbers in lent lists

-- one number has been put first
pub list_one : (list : List ℕ) (t : ℕ) → Whole list → Listing (t ∷ []) (set list 0 t) 1
list_one list t w = record { whole = length-set list 0 t ∙ w; count_is = refl; first_are = take-suc-set list 0 t (omega arith) }

pub list_none : (list : List ℕ) → Whole list → Listing [] list 0
list_none list w = record { whole = w; count_is = refl; first_are = refl }

-- the places of those who leave are the first of this list
pub gone_listed : (S : Settings) (s : Select) (js : List Job) (gone gs : List ℕ) (live left : ℕ) → length js ≡ live → left ≤ live
    → take (live - left) gone ≡ gs → Places (length js) gs → removes gs js ≡ staying S s js → Gone S s js gone live left
gone_listed S s js gone gs live left n l e p q = record { fewer = l; places = rw (e, ← n) p; stay = rw e q }

-- ## Who can leave

-- the job in this place is the one of the ticket, and it can leave so now
pub record Leavable (m : Model) (h : Departure) (t at : ℕ) : Type 0 where
  pub found : position (has_ticket t) m.jobs ≡ some at
  pub allowed : depart_refusal m h t ≡ refusal.None

module _ (m : Model) (v : Sound m) (h : Departure) (t at : ℕ) (p : position (has_ticket t) m.jobs ≡ some at) (ok : depart_refusal m h t ≡ refusal.None) where
  abbrev j : Job
  j = get_or m.jobs at unused

  abbrev s : Select
  s = select.Departing h t

  able : departs? h j.state ≡ true
  able =
      case (departs? h j.state) (λ e. e)
      (λ e. let z : refusal_at m.clock h (state_of j) j.start j.least ≡ not_there_of h = rw (leaves_from_lem h j.state, e) in
      true_false true refl (ap accepts (sym ok ∙ refused_there m v.asc h t at p ∙ z) ∙ not_there h))

  picked : departs_as h t j ≡ true
  picked = rw (able, eq-eqb j.ticket t (found_named m v.asc h t at p))

  done : departing m h t ≡ leaving m m.clock s (withdrawn_by h t)
  done = ap (λ (r : Refusal). judged_own m r (leaving m m.clock s (withdrawn_by h t))) ok

  module _ {tickets nodes states dues starts tenants estimates leasts : List ℕ} {live : ℕ} (few : length m.jobs ≡ live) (gone : List ℕ) (w : Whole gone) where
    -- what is handed back
    given : (r : Left) (ended gs ts : List ℕ) (after : List Job) → LeftAt m h t gs ts after → r.refusal ≡ refusal.None → r.withdrawn ≡ withdrawn_by h t
        → Listing ts ended r.ended → r.live ≤ live → take (live - r.live) gone ≡ gs
        → JobColumns m.settings after tickets nodes states dues starts tenants estimates leasts r.live
        → Leaves m h t live r ended gone tickets nodes states dues starts tenants estimates leasts
    given r ended gs ts after a er ew el l eg c = record {
      refusal_is = er ∙ sym (ap (λ (o : Own). o.refusal) done);
      withdrawn_is = ew ∙ sym (ap (λ (o : Own). o.withdrawn) done);
      ended_are = subst (λ (xs : List ℕ). Listing xs ended r.ended) (sym (ap (λ (o : Own). o.ended) done ∙ a.ended_is)) el;
      columns =
          subst (λ (xs : List Job). JobColumns m.settings xs tickets nodes states dues starts tenants estimates leasts r.live)
          (sym (ap (λ (o : Own). o.model.jobs) done ∙ a.remain)) c;
      gone_whole = w;
      gone_are = λ y. gone_listed m.settings s m.jobs gone gs live r.live few l eg a.places a.stay;
    }

-- ## What each way of leaving gives

module _ (m : Model) (v : Sound m) (t at : ℕ) (p : position (has_ticket t) m.jobs ≡ some at) {live : ℕ} (few : length m.jobs ≡ live)
    (ended gone : List ℕ) (we : Whole ended) (wg : Whole gone) where
  abbrev leaver : Job
  leaver = get_or m.jobs at unused

  -- one place has been left
  one_left : take (live - (live - 1)) (set gone 0 at) ≡ at ∷ []
  one_left =
      let z : live - (live - 1) ≡ 1 = omega (arith, found_inside m v.asc Cancel t at p) in
      rw z (take-suc-set gone 0 at (omega arith))

  leaves_cleaning : {tickets nodes states dues starts tenants estimates leasts : List ℕ} → depart_refusal m Complete t ≡ refusal.None → 0 < cleanup m.settings
      → JobColumns m.settings (set m.jobs at (cleaning m.clock leaver)) tickets nodes states dues starts tenants estimates leasts live
      → Leaves m Complete t live (record { refusal = refusal.None; live = live; ended = 1; withdrawn = 0 }) (set ended 0 t) gone tickets nodes states dues
      starts tenants estimates leasts
  leaves_cleaning ok l c =
      let e = picked m v Complete t at p ok in
      let z : live - live ≡ 0 = omega arith in
      given m v Complete t at p ok few gone wg _ (set ended 0 t) [] (t ∷ [])
      (set m.jobs at (cleaning m.clock leaver))
      (left_cleaning m v.asc Complete t at p e (rw (e, ne_eqb (cleanup m.settings) 0 (λ q. omega arith))))
      refl refl (list_one ended t we) (omega arith) (rw z) c

  leaves_over : {tickets nodes states dues starts tenants estimates leasts : List ℕ} → depart_refusal m Complete t ≡ refusal.None → cleanup m.settings ≡ 0
      → JobColumns m.settings (remove_at at m.jobs) tickets nodes states dues starts tenants estimates leasts (live - 1)
      → Leaves m Complete t live (record { refusal = refusal.None; live = live - 1; ended = 1; withdrawn = 0 }) (set ended 0 t) (set gone 0 at) tickets nodes
      states dues starts tenants estimates leasts
  leaves_over ok l c =
      let e = picked m v Complete t at p ok in
      given m v Complete t at p ok few (set gone 0 at) (length-set gone 0 at ∙ wg) _ (set ended 0 t) (at ∷ []) (t ∷ [])
      (remove_at at m.jobs)
      (left_over m v.asc Complete t at p e (rw (e, eq-eqb (cleanup m.settings) 0 l)))
      refl refl (list_one ended t we) (omega arith) one_left c

  leaves_withdrawn : {tickets nodes states dues starts tenants estimates leasts : List ℕ} → depart_refusal m Cancel t ≡ refusal.None
      → JobColumns m.settings (remove_at at m.jobs) tickets nodes states dues starts tenants estimates leasts (live - 1)
      → Leaves m Cancel t live (record { refusal = refusal.None; live = live - 1; ended = 0; withdrawn = t }) (set ended 0 t) (set gone 0 at) tickets nodes
      states dues starts tenants estimates leasts
  leaves_withdrawn ok c =
      given m v Cancel t at p ok few (set gone 0 at) (length-set gone 0 at ∙ wg) _ (set ended 0 t) (at ∷ []) []
      (remove_at at m.jobs)
      (left_withdrawn m v.asc Cancel t at p refl (rw (picked m v Cancel t at p ok)))
      refl refl (list_none (set ended 0 t) (length-set ended 0 t ∙ we)) (omega arith) one_left c

  -- it stays in cleanup, or leaves
  pub leaves_staying : {tickets nodes states dues starts tenants estimates leasts : List ℕ} (h : Departure) → depart_refusal m h t ≡ refusal.None
      → cleans_by h (cleanup m.settings) ≡ true
      → JobColumns m.settings (set m.jobs at (cleaning m.clock leaver)) tickets nodes states dues starts tenants estimates leasts live
      → Leaves m h t live (record { refusal = refusal.None; live = live; ended = 1; withdrawn = 0 }) (set ended 0 t) gone tickets nodes states dues starts
      tenants estimates leasts
  leaves_staying Complete ok e c = leaves_cleaning ok (ltb-true 0 (cleanup m.settings) e) c
  leaves_staying Cancel ok e c = true_false false e refl

  pub leaves_going : {tickets nodes states dues starts tenants estimates leasts : List ℕ} (h : Departure) → depart_refusal m h t ≡ refusal.None
      → cleans_by h (cleanup m.settings) ≡ false
      → JobColumns m.settings (remove_at at m.jobs) tickets nodes states dues starts tenants estimates leasts (live - 1)
      → Leaves m h t live (record { refusal = refusal.None; live = live - 1; ended = on (ends? h) 1; withdrawn = withdrawn_by h t }) (set ended 0 t)
      (set gone 0 at) tickets nodes states dues starts tenants estimates leasts
  leaves_going Complete ok e c = leaves_over ok (omega (arith, ltb-false 0 (cleanup m.settings) e)) c
  leaves_going Cancel ok e c = leaves_withdrawn ok c

-- a refused departure leaves the columns as they were
abbrev pub refused_left : Refusal → ℕ → Left
refused_left why live = record { refusal = why; live = live; ended = 0; withdrawn = 0 }

pub leaves_refused : (m : Model) (h : Departure) (t live : ℕ) (why : Refusal) (ended gone tickets nodes states dues starts tenants estimates leasts : List ℕ)
    → depart_refusal m h t ≡ why → accepts why ≡ false → Whole ended → Whole gone
    → JobColumns m.settings m.jobs tickets nodes states dues starts tenants estimates leasts live
    → Leaves m h t live (refused_left why live) ended gone tickets nodes states dues starts tenants estimates leasts
leaves_refused m h t live why ended gone tickets nodes states dues starts tenants estimates leasts e n we wg c =
    let same : departing m h t ≡ refused_own m why =
    ap (λ (r : Refusal). judged_own m r (leaving m m.clock (select.Departing h t) (withdrawn_by h t))) e ∙ rw n in
    record {
      refusal_is = sym (ap (λ (o : Own). o.refusal) same);
      withdrawn_is = sym (ap (λ (o : Own). o.withdrawn) same);
      ended_are = subst (λ (xs : List ℕ). Listing xs ended 0) (sym (ap (λ (o : Own). o.ended) same)) (list_none ended we);
      columns =
          subst (λ (xs : List Job). JobColumns m.settings xs tickets nodes states dues starts tenants estimates leasts live)
          (sym (ap (λ (o : Own). o.model.jobs) same)) c;
      gone_whole = wg;
      gone_are = λ y. true_false (accepts why) y n;
    }

-- ## By the place found

module _ {S : Settings} {clock : ℕ} {tickets nodes states dues starts tenants estimates leasts : List ℕ} {live : ℕ}
    (k : SoundColumns S clock tickets nodes states dues starts tenants estimates leasts live) (h : Departure) (t at : ℕ)
    (e : at ≡ place_of (position (has_ticket t) k.model.jobs) live) where
  abbrev found_job : Job
  found_job = get_or k.model.jobs at unused

  -- no job has the ticket
  pub leaves_nowhere : live ≤ at → (ended gone : List ℕ) → Whole ended → Whole gone
      → Leaves k.model h t live (refused_left (not_there_of h) live) ended gone tickets nodes states dues starts tenants estimates leasts
  leaves_nowhere l ended gone we wg =
      let none_has = place_none unused (has_ticket t) k.model.jobs live at e k.columns.live_is l in
      leaves_refused k.model h t live (not_there_of h) ended gone _ _ _ _ _ _ _ _ (refused_nowhere k.model k.sound.asc h t none_has) (not_there h) we wg
      k.columns

  module _ (l : at < live) where
    there : position (has_ticket t) k.model.jobs ≡ some at
    there = place_some (position (has_ticket t) k.model.jobs) live at e l

    within : at < length k.model.jobs
    within = omega (arith, k.columns.live_is)

    -- the numbers in its place are those of the job
    state_there : get_or states at 0 ≡ state_of found_job
    state_there = column_at state_of k.model.jobs states k.columns.states_are unused at within

    start_there : get_or starts at 0 ≡ found_job.start
    start_there = column_at start_of k.model.jobs starts k.columns.starts_are unused at within

    least_there : get_or leasts at 0 ≡ found_job.least
    least_there = column_at least_of k.model.jobs leasts k.columns.leasts_are unused at within

    -- they are within their bounds
    pub numbers_low : (get_or starts at 0 ≤ horizon) × (get_or leasts at 0 ≤ longest_estimate)
    numbers_low =
        let i = in_getD k.model.jobs at unused within in
        let f = k.sound.each found_job i in (
          omega (arith, start_there, sound_low k.model k.sound found_job i),
          omega (arith, least_there, f.least_to, f.estimate_to, longest_le k.model.settings),
        )

    module _ (why : Refusal) (q : why ≡ refusal_at clock h (get_or states at 0) (get_or starts at 0) (get_or leasts at 0)) where
      judged : depart_refusal k.model h t ≡ why
      judged =
          refused_there k.model k.sound.asc h t at there
          ∙ sym (q ∙ rw (state_there, start_there, least_there, k.clock_is))

      -- it cannot leave so now
      pub leaves_not : accepts why ≡ false → (ended gone : List ℕ) → Whole ended → Whole gone
          → Leaves k.model h t live (refused_left why live) ended gone tickets nodes states dues starts tenants estimates leasts
      leaves_not n ended gone we wg = leaves_refused k.model h t live why ended gone _ _ _ _ _ _ _ _ judged n we wg k.columns

      -- it can
      pub leavable : accepts why ≡ true → Leavable k.model h t at
      leavable y = record { found = there; allowed = judged ∙ accepts_none why y }
