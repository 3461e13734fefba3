-- The lists that a survey of the plan fills: the sentences written from them are those of the model.
-- Assumes nothing.
use Prim.Native.Nat.{ℕ, zero, suc, ◌+◌, ◌≤◌, ◌<◌}
use Rattle.std.proofs.Common.{arith, ap, ◌∙◌, take-suc, take_all, get_or-take, length-take-le}
use Rattle.std.proofs.Math.Numerals.{add-one}
use Rattle.std.specs.Prelude.{◌≡◌, true, cond, length, get_or, set, take}
use Rattle.std.proofs.Math.Path.{refl, sym, ap₂, subst}
use mathlib.Core.List.{List, [], ◌∷◌, ◌++◌, map, flat_map}
use Rattle.lists.specs.Tests.{case}
use Rattle.lists.specs.Lists.{keep, In, in_getD}
use Rattle.lists.specs.Flat.{flat_more}
use Rattle.text.specs.Quoted.{bytes}
use Rattle.scheduler.specs.declared.Kind.{Kind}
use Rattle.scheduler.specs.declared.Job.{Job}
use Rattle.scheduler.specs.declared.Scheduler.{Scheduler}
use Rattle.scheduler.specs.declared.Settings.{Settings}
use Rattle.scheduler.specs.Limits.{slots}
use Rattle.scheduler.specs.Jobs.{unused, is_waiting}
use Rattle.scheduler.specs.Settings.{until}
use Rattle.scheduler.specs.Table.{ticket_of}
use Rattle.scheduler.specs.Model.{Model, view}
use Rattle.jobs.specs.Soundness.{Sound}
use Rattle.jobs.specs.Premise.{Holds, holds_as}
use Rattle.jobs.specs.Slots.{Low, sound_low, first_live}
use Rattle.conservative_laws.specs.Validity.{Valid}
use Rattle.job_columns.specs.Columns.{Column, nodes_of, column_at, column_push}
use Rattle.checkpoint_rules.specs.Acceptance.{plan_of}
use Rattle.plan_acceptance.specs.Plan.{plan_in, PlanLow, PlanColumns, start_of}
use Rattle.why_rules.specs.Why.{minute_before, holds_in, holder, holders_in, finding_of, findings, holder_text, holders_text, sentence, sentences, why_by, why_text}
use Rattle.why_laws.specs.Sizes.{why_bytes, sentences_size}
use Rattle.why_writing.specs.ExactText.{Room, flat_room}
use Rattle.why_writing.specs.ListedText.{pair_then, row_at, rows_text, listed_text, slot_text}

-- ## The holders in a minute

-- what a job adds to a sentence
abbrev job_row : Settings → ℕ → Job → List ℕ
job_row S t j = cond (holds_in S t j) (holder_text (holder j)) []

rows_holders : (S : Settings) (t : ℕ) (js : List Job) → flat_map (job_row S t) js ≡ holders_text (map holder (keep (holds_in S t) js))
unfolding flat_map
rows_holders S t [] = refl
rows_holders S t (j ∷ js) =
    case (holds_in S t j)
    (λ e. rw e (ap (λ (l : List ℕ). holder_text (holder j) ++ l) (rows_holders S t js)))
    (λ e. rw e (rows_holders S t js))

module _ (m : Model) {tickets held froms untils : List ℕ} {count : ℕ} (named : Column ticket_of m.jobs tickets)
    (plan : PlanColumns m.settings m.jobs held froms untils count) where
  abbrev S : Settings
  S = m.settings

  abbrev js : List Job
  js = m.jobs

  row_is : (t i : ℕ) → i < length js → row_at t tickets held froms untils i ≡ job_row S t (get_or js i unused)
  unfolding holder_text
  row_is t i l =
      rw (
        column_at ticket_of js tickets named unused i l,
        column_at nodes_of js held plan.held_is unused i l,
        column_at start_of js froms plan.froms_are unused i l,
        column_at (until S) js untils plan.untils_are unused i l,
      )

  rows_are : (t i : ℕ) → i ≤ length js → rows_text t tickets held froms untils i ≡ flat_map (job_row S t) (take i js)
  unfolding rows_text flat_map
  rows_are t zero l = refl
  rows_are t (suc i) l =
      ap₂ (λ (xs ys : List ℕ). xs ++ ys) (rows_are t i (omega arith)) (row_is t i (omega arith))
      ∙ sym (rw add-one at (flat_more (job_row S t) js i unused (omega arith)))

  all_rows : (t : ℕ) → rows_text t tickets held froms untils count ≡ holders_text (map holder (keep (holds_in S t) js))
  all_rows t =
      rows_are t count (omega (arith, plan.count_is))
      ∙ ap (flat_map (job_row S t)) (take_all count js (omega (arith, plan.count_is)))
      ∙ rows_holders S t js

  listed_is : (j : Job) → listed_text j.ticket (minute_before j) tickets held froms untils count ≡ sentence (finding_of m j)
  unfolding listed_text finding_of sentence
  listed_is j =
      rw (all_rows (minute_before j))
      (pair_then (bytes "stack ") j.ticket (bytes " waits, minute ") (minute_before j) (holders_text (holders_in m (minute_before j)) ++ (10 ∷ [])))

  slots_are : (xs : List Job) → flat_map (slot_text tickets held froms untils count) xs ≡ sentences (map (finding_of m) (keep is_waiting xs))
  unfolding flat_map
  slots_are [] = refl
  slots_are (x ∷ xs) =
      case (is_waiting x)
      (λ e. rw (e, listed_is x) (ap (λ (l : List ℕ). sentence (finding_of m x) ++ l) (slots_are xs)))
      (λ e. rw e (slots_are xs))

  pub listed_sentences : flat_map (slot_text tickets held froms untils count) js ≡ sentences (findings m)
  listed_sentences = slots_are js

-- ## The survey

-- the live jobs stand first
module _ (d : Scheduler) (h : Holds Sound d) where
  abbrev L : List Job
  L = (view d).jobs

  slot_is : (i : ℕ) → i < length L → get_or d.jobs i unused ≡ get_or L i unused
  slot_is i l = sym (get_or-take (length L) d.jobs i unused l) ∙ ap (λ (xs : List Job). get_or xs i unused) (first_live d h)

  -- the ticket of one job more, and of all
  pub ticket_more : {tickets : List ℕ} (i n : ℕ) → i < length L → Column ticket_of (take i L) tickets → n ≡ (get_or d.jobs i unused).ticket
      → Column ticket_of (take (i + 1) L) (set tickets i n)
  ticket_more {tickets} i n l c e =
      rw (add-one, take-suc L i unused l)
      (column_push ticket_of (take i L) tickets c (get_or L i unused) i n (length-take-le i L (omega arith)) (omega (arith, h.holds.few))
      (e ∙ ap ticket_of (slot_is i l)))

  pub ticket_all : {tickets : List ℕ} (i : ℕ) → length L ≤ i → Column ticket_of (take i L) tickets → Column ticket_of L tickets
  ticket_all {tickets} i l c = subst (λ (xs : List Job). Column ticket_of xs tickets) (take_all i L l) c

module _ (d : Scheduler) (h : Holds Valid d) where
  pub sound : Holds Sound d
  sound = holds_as Valid Sound d (λ m v. v.sound) h

  -- every live job is in the plan
  pub plan_low : PlanLow (view d)
  plan_low =
      subst (λ (k : Kind). (j : Job) → In j (plan_of k (view d).jobs) → Low j) (sym h.holds.kind) (λ j i. sound_low (view d) h.holds.sound j i)

  pub plan_of_for : {held froms untils : List ℕ} {count : ℕ} → PlanColumns d.settings (plan_in (view d)) held froms untils count
      → PlanColumns (view d).settings (view d).jobs held froms untils count
  unfolding view
  plan_of_for {held} {froms} {untils} {count} c =
      subst (λ (k : Kind). PlanColumns d.settings (plan_of k (view d).jobs) held froms untils count) h.holds.kind c

-- ## The sentences of the slots, written from the lists

module _ (d : Scheduler) (h : Holds Valid d) {tickets held froms untils : List ℕ} {count : ℕ} (named : Column ticket_of (view d).jobs tickets)
    (plan : PlanColumns (view d).settings (view d).jobs held froms untils count) where
  abbrev line : Job → List ℕ
  line = slot_text tickets held froms untils count

  abbrev text : ℕ → List ℕ
  text i = flat_map line (take i (view d).jobs)

  pub count_few : count ≤ slots
  count_few = omega (arith, plan.count_is, h.holds.sound.few)

  pub slot_starts : (i : ℕ) → i < count → is_waiting (get_or d.jobs i unused) ≡ true → 1 ≤ (get_or d.jobs i unused).start
  slot_starts i l =
      let k : i < length (view d).jobs = omega (arith, plan.count_is) in
      rw (slot_is d (sound d h) i k) (λ w. omega (arith, h.holds.ahead (get_or (view d).jobs i unused) (in_getD (view d).jobs i unused k) w))

  -- a page with room for the longest text has room for all of them; so has each, where those before it are written
  pub text_room : (page : List ℕ) → why_bytes ≤ length page → Room page 0 (flat_map line (view d).jobs)
  text_room page l = record { fits = omega (arith, ap length (listed_sentences (view d) named plan), sentences_size (view d) h.holds) }

  pub slot_room : (i : ℕ) → i < count → length (text i) + length (line (get_or d.jobs i unused)) ≤ length (flat_map line (view d).jobs)
  slot_room i l =
      let k : i < length (view d).jobs = omega (arith, plan.count_is) in
      rw (slot_is d (sound d h) i k) (flat_room line (view d).jobs i unused k)

  -- at first, one more, and all
  pub text_none : text 0 ≡ []
  unfolding flat_map
  text_none = refl

  pub text_more : (i : ℕ) → i < count → text (i + 1) ≡ text i ++ line (get_or d.jobs i unused)
  text_more i l =
      let k : i < length (view d).jobs = omega (arith, plan.count_is) in
      rw (slot_is d (sound d h) i k) (flat_more line (view d).jobs i unused k)

  pub text_all : (i : ℕ) → count ≤ i → text i ≡ sentences (findings (view d))
  text_all i l = ap (flat_map line) (take_all i (view d).jobs (omega (arith, plan.count_is))) ∙ listed_sentences (view d) named plan

-- the text of a scheduler goes by its kind
pub text_by_lem : (d : Scheduler) (k : Kind) → d.settings.kind ≡ k → why_by k (view d) ≡ why_text (view d)
unfolding why_text view
text_by_lem d k e = ap (λ (x : Kind). why_by x (view d)) (sym e)
