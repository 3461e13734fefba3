-- A job leaves on request: it is the only one of its ticket, in the place where that is found. Why it cannot, by its numbers, and what becomes of
-- the list.
-- Assumes nothing.
use Rattle.std.specs.Prelude.{ℕ, zero, suc, ◌+◌, ◌-◌, ◌≤◌, ◌<◌, ◌≡◌, refl, Bool, true, false, cond, ◌&&◌, List, [], ◌∷◌, ◌⊎◌, eqb, ltb, length, get_or, set}
use Rattle.std.proofs.Common.{arith, sym, subst, ◌∙◌, inl, inr, eqb-true, eq-eqb, ne_eqb}
use Rattle.std.proofs.Math.Path.{ap}
use Rattle.std.proofs.Math.Option.{none, some}
use Rattle.lists.specs.Tests.{case, le_or, and_right_false}
use Rattle.lists.specs.Lists.{any, none_any}
use Rattle.lists.specs.FirstLaws.{first_nowhere, first_none}
use Rattle.lists.specs.Loops.{position, position_says}
use Rattle.scheduler.specs.declared.State.{State}
use Rattle.scheduler.specs.declared.Settings.{Settings}
use Rattle.scheduler.specs.declared.Job.{Job}
use Rattle.scheduler.specs.declared.Departure.{Departure}
use Rattle.scheduler.specs.declared.Departure.TheVariants.{Complete, Cancel}
use Rattle.scheduler.specs.declared.Refusal.{Refusal}
use Rattle.scheduler.specs.declared.Refusal.TheVariants as refusal
use Rattle.scheduler.specs.declared.Select.{Select}
use Rattle.scheduler.specs.declared.Select.TheVariants as select
use Rattle.scheduler.specs.Jobs.{unused, departs?, departs_as, too_early, cleaning}
use Rattle.scheduler.specs.Table.{ends, ended_of, leaves, staying, remaining}
use Rattle.scheduler.specs.Model.{Model}
use Rattle.scheduler.specs.Answers.{verdict}
use Rattle.scheduler.specs.Refusals.{not_there_of, departs_early, depart_refusal}
use Rattle.jobs.specs.Order.{Asc}
use Rattle.job_columns.specs.JobColumns.{state_number, state_of}
use Rattle.job_columns.specs.Encoding.{number_waiting, number_running}
use Rattle.job_columns.specs.Removal.{remove_at, removes, Places}
use Rattle.job_columns.specs.Searches.{has_ticket, asc_places}
use Rattle.column_parts.specs.Sweep.{Sweep, swept, sweep_first, sweep_far, sweep_cleans, swept_cleans, sweep_goes, sweep_released, swept_leaves}
use Rattle.column_parts.specs.Sweep.{swept_all, stay_all, ended_all}

-- ## Refusals by numbers

-- the number of the state in which a job can leave so
abbrev pub leaves_from : Departure → ℕ
leaves_from Complete = 2
leaves_from Cancel = 1

pub leaves_from_lem : (h : Departure) (s : State) → eqb (state_number s) (leaves_from h) ≡ departs? h s
leaves_from_lem Complete s = number_running s
leaves_from_lem Cancel s = number_waiting s

-- whether it would be over before its least
abbrev pub early_by : (now : ℕ) → Departure → (start least : ℕ) → Bool
early_by now Complete start least = ltb now (start + least)
early_by now Cancel start least = false

early_by_lem : (now : ℕ) (h : Departure) (j : Job) → too_early now h j ≡ early_by now h j.start j.least
early_by_lem now Complete j = refl
early_by_lem now Cancel j = refl

abbrev pub refusal_at : (now : ℕ) → Departure → (state start least : ℕ) → Refusal
refusal_at now h state start least =
    cond (eqb state (leaves_from h)) (cond (early_by now h start least) refusal.BeforeLeast refusal.None) (not_there_of h)

-- whether it stays in cleanup
abbrev pub cleans_by : Departure → (clearing : ℕ) → Bool
cleans_by Complete clearing = ltb 0 clearing
cleans_by Cancel clearing = false

-- where nothing is refused: what remains of the list, which places were left, and which tickets have ended
pub record LeftAt (m : Model) (h : Departure) (t : ℕ) (gone ended : List ℕ) (after : List Job) : Type 0 where
  pub remain : remaining m.settings m.clock (select.Departing h t) m.jobs ≡ after
  pub places : Places (length m.jobs) gone
  pub stay : removes gone m.jobs ≡ staying m.settings (select.Departing h t) m.jobs
  pub ended_is : ended_of (select.Departing h t) m.jobs ≡ ended

-- ## One place

-- a test that no other place passes
module _ {A : Type 0} (z : A) (p : A → Bool) where
  no_any : (xs : List A) → ((k : ℕ) → k < length xs → p (get_or xs k z) ≡ false) → any p xs ≡ false
  no_any [] f = refl
  no_any (x ∷ xs) f = rw (f 0 (omega arith)) (no_any xs (λ k l. f (suc k) (omega arith)))

  one_any : (xs : List A) (i : ℕ) → i < length xs → ((k : ℕ) → k < length xs → (k ≡ i → ⊥) → p (get_or xs k z) ≡ false) → any p xs ≡ p (get_or xs i z)
  one_any [] i l f = absurd (omega arith)
  one_any (x ∷ xs) zero l f = case (p x) (λ e. rw e) (λ e. rw e (no_any xs (λ k q. f (suc k) (omega arith) (λ w. omega arith))))
  one_any (x ∷ xs) (suc i) l f =
      rw (f 0 (omega arith) (λ w. omega arith)) (one_any xs i (omega arith) (λ k q n. f (suc k) (omega arith) (λ w. n (omega arith))))

-- whom it does not pick neither ends nor leaves
unpicked : (S : Settings) (h : Departure) (t : ℕ) (j : Job) → departs_as h t j ≡ false
    → (ends (select.Departing h t) j ≡ false) × (leaves S (select.Departing h t) j ≡ false)
unpicked S Complete t j e = (e, rw e)
unpicked S Cancel t j e = (refl, rw e)

module _ (m : Model) (a : Asc 1 m.jobs) (h : Departure) (t : ℕ) where
  abbrev S : Settings
  S = m.settings

  abbrev js : List Job
  js = m.jobs

  abbrev s : Select
  s = select.Departing h t

  -- no job has the ticket
  pub refused_nowhere : position (has_ticket t) js ≡ none → depart_refusal m h t ≡ not_there_of h
  unfolding depart_refusal verdict
  refused_nowhere e =
      let no = first_none (has_ticket t) js (first_nowhere (has_ticket t) js 0 e) in
      rw (none_any (departs_as h t) js (λ j i. and_right_false (departs? h j.state) (no j i)))

  module _ (at : ℕ) (p : position (has_ticket t) js ≡ some at) where
    abbrev j : Job
    j = get_or js at unused

    pub found_inside : at < length js
    found_inside = let q = position_says unused (has_ticket t) js 0 at p in omega (arith, q.at_is, q.inside)

    pub found_named : j.ticket ≡ t
    found_named =
        let q = position_says unused (has_ticket t) js 0 at p in
        let e : q.at ≡ at = omega (arith, q.at_is) in
        eqb-true j.ticket t (rw e at q.passes)

    others : (k : ℕ) → k < length js → (k ≡ at → ⊥) → departs_as h t (get_or js k unused) ≡ false
    others k l n = and_right_false (departs? h (get_or js k unused).state) (ne_eqb _ t (λ e. by e (le_or at k)))
      where
        late : (get_or js k unused).ticket ≡ t → at ≤ k → (k ≤ at) ⊎ (at < k) → ⊥
        late e q (inl r) = n (omega arith)
        late e q (inr r) = omega (arith, asc_places 1 js at k a r l, found_named)

        by : (get_or js k unused).ticket ≡ t → (at ≤ k) ⊎ (k < at) → ⊥
        by e (inl q) = late e q (le_or k at)
        by e (inr q) = omega (arith, asc_places 1 js k at a q found_inside, found_named)

    picked : departs_as h t j ≡ departs? h j.state
    picked = case (departs? h j.state) (λ e. rw (e, eq-eqb j.ticket t found_named)) (λ e. rw e)

    -- why it cannot leave so, by its numbers
    pub refused_there : depart_refusal m h t ≡ refusal_at m.clock h (state_of j) j.start j.least
    unfolding depart_refusal verdict
    refused_there =
        rw (
          one_any unused (departs_as h t) js at found_inside others,
          one_any unused (departs_early m.clock h t) js at found_inside (λ k l n.
              ap (λ (b : Bool). b && too_early m.clock h (get_or js k unused)) (others k l n)),
          picked,
          leaves_from_lem h j.state,
          early_by_lem m.clock h j,
        )
        (case (departs? h j.state) (λ e. rw e) (λ e. rw e))

    -- ## What becomes of the list

    abbrev now : ℕ
    now = m.clock

    -- the jobs before it go on as they are
    reached : Sweep S now s js at at [] [] × (swept S now s js at ≡ js)
    reached =
        let z : 0 + at ≡ at = omega arith in
        rw z at (sweep_far S now s js at (sweep_first S now s js) (omega (arith, found_inside))
        (λ n l q. unpicked S h t (get_or js n unused) (others n (omega (arith, found_inside)) (λ e. omega arith))))

    -- and so do those after it
    gone_on : {k : ℕ} {gone ended : List ℕ} → Sweep S now s js (at + 1) k gone ended → LeftAt m h t gone ended (swept S now s js (at + 1))
    gone_on {k} {gone} {ended} v =
        let n : at + 1 + (length js - (at + 1)) ≡ length js = omega (arith, found_inside) in
        let far = sweep_far S now s js (length js - (at + 1)) v (omega (arith, found_inside))
        (λ i l q. unpicked S h t (get_or js i unused) (others i (omega (arith, found_inside)) (λ e. omega arith))) in
        let w : Sweep S now s js (length js) (k + (length js - (at + 1))) gone ended = rw n at far.0 in
        record {
          remain = sym (swept_all S now s js w) ∙ (rw n at far.1);
          places = w.places;
          stay = stay_all S now s js w;
          ended_is = sym (ended_all S now s js w);
        }

    module _ (e : ends s j ≡ true) where
      -- its run ends, and it is in cleanup
      pub left_cleaning : leaves S s j ≡ false → LeftAt m h t [] (t ∷ []) (set js at (cleaning now j))
      left_cleaning n =
          subst (LeftAt m h t [] (t ∷ []))
          (swept_cleans S now s js reached.0 found_inside n e ∙ ap (λ (l : List Job). set l at (cleaning now j)) reached.1)
          (rw found_named at (gone_on (sweep_cleans S now s js reached.0 found_inside n e)))

      -- its run ends, and it leaves
      pub left_over : leaves S s j ≡ true → LeftAt m h t (at ∷ []) (t ∷ []) (remove_at at js)
      left_over n =
          subst (LeftAt m h t (at ∷ []) (t ∷ []))
          (swept_leaves S now s js reached.0 found_inside n ∙ ap (remove_at at) reached.1)
          (rw found_named at (gone_on (sweep_goes S now s js reached.0 found_inside n e)))

    -- it is withdrawn
    pub left_withdrawn : ends s j ≡ false → leaves S s j ≡ true → LeftAt m h t (at ∷ []) [] (remove_at at js)
    left_withdrawn e n =
        subst (LeftAt m h t (at ∷ []) [])
        (swept_leaves S now s js reached.0 found_inside n ∙ ap (remove_at at) reached.1)
        (gone_on (sweep_released S now s js reached.0 found_inside n e))
