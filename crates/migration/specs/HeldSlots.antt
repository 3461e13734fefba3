-- The slots of the jobs that hold nodes, which are planned as they are: their profile is the one that the change starts from.
-- Assumes nothing.
use Rattle.std.specs.Prelude.{◌≡◌, true, cond, ℕ, ◌+◌, ◌≤◌, ◌<◌, get_or}
use Rattle.std.proofs.Math.Path.{refl, subst}
use Rattle.std.proofs.Common.{sym, ap, ◌∙◌, arith, take_all}
use Rattle.std.proofs.Math.Bool.{false}
use mathlib.Core.List.{List, [], ◌∷◌, map}
use Rattle.std.proofs.lemmas.List.{length-map}
use Rattle.std.proofs.Math.ListN.{get_or-map}
use Rattle.lists.specs.Tests.{case, true_false}
use Rattle.lists.specs.Lists.{keep, All, In, all_of, all_at, map_in}
use Rattle.lists.specs.Pads.{keep_pad, all_pad, map_pad}
use Rattle.spans.specs.Spans.{used}
use Rattle.scheduler.specs.declared.Job.{Job}
use Rattle.scheduler.specs.declared.Scheduler.{Scheduler}
use Rattle.scheduler.specs.declared.Settings.{Settings}
use Rattle.scheduler.specs.Limits.{slots}
use Rattle.scheduler.specs.Jobs.{unused, is_live_of, is_waiting, is_holding}
use Rattle.scheduler.specs.Settings.{horizon, until}
use Rattle.scheduler.specs.Times.{hold_le, until_is}
use Rattle.scheduler.specs.Model.{Model, store, view, store_length}
use Rattle.jobs.specs.Soundness.{SoundJob, Sound}
use Rattle.jobs.specs.Premise.{Holds, holds_as}
use Rattle.jobs.specs.Slots.{Low, sound_low, slots_are, slots_all, slots_low}
use Rattle.conservative_table.specs.declared.Row.{Row}
use Rattle.conservative_table.specs.ListChanges.{rows}
use Rattle.conservative_table.specs.ProfileLists.{IsProfile, Laying, Changed, exact_few}
use Rattle.conservative_rules.specs.Conservative.{span, spans}
use Rattle.conservative_plan.specs.PlannedSlots.{Slots, Front, takes_unused, lay, laid_more, laid_unused}
use Rattle.easy_laws.specs.Validity.{Valid}
use Rattle.migration_rules.specs.Migration.{promise_settings, kept}
use Rattle.migration_laws.specs.Holders.{until_kept, holders, holders_avail}
use Rattle.migration_laws.specs.Planning.{waits_or_holds}

-- the slot of one that holds nodes, as the change leaves it; any other has no plan yet
abbrev pub held_slot : Job → Job
held_slot j = cond (is_holding j) (kept j) unused

abbrev pub held_slots : List Job → List Job
held_slots js = map held_slot js

-- a slot that is not live is the unused one
abbrev pub Blank : Job → Type 0
Blank j = is_live_of j ≡ false → j ≡ unused

pub sound_of : (d : Scheduler) → Holds Valid d → Holds Sound d
sound_of d h = holds_as Valid Sound d (λ m v. v.ready.sound) h

pub slots_blank : (d : Scheduler) → Holds Sound d → (i : ℕ) → i < 64 → Blank (get_or d.jobs i unused)
unfolding store
slots_blank d h i l = all_at Blank d.jobs i unused (subst (All Blank) (sym (slots_are d h)) (stored (view d) live)) (omega (arith, slots_all d h))
  where
    live : (j : Job) → In j (view d).jobs → Blank j
    live j x e = true_false (is_live_of j) (h.holds.each j x).is_live e

    stored : (m : Model) → ((j : Job) → In j m.jobs → Blank j) → All Blank (store m).jobs
    stored m f = all_pad slots unused Blank m.jobs (λ e. refl) (all_of Blank m.jobs f)

-- the lists are their profile
abbrev pub HoldersLaid : Scheduler → ℕ → List ℕ → List ℕ → Type 0
HoldersLaid d n ms fs = IsProfile d.settings.nodes (spans (promise_settings d.settings) (held_slots d.jobs)) d.clock n ms fs

-- they take what those take that hold nodes
used_held : (P : Settings) (t : ℕ) (js : List Job) → used t (spans P (held_slots js)) ≡ used t (spans P (map kept (keep is_holding js)))
used_held P t [] = refl
used_held P t (j ∷ js) =
    case (is_holding j) (λ h. rw h (omega (arith, used_held P t js))) (λ h. rw h (omega (arith, used_held P t js, takes_unused P t)))

pub used_holders : (m : Model) (t : ℕ) → let P = promise_settings m.settings in used t (spans P (held_slots (store m).jobs)) ≡ used t (spans P (holders m))
unfolding store
used_holders m t =
    let P = promise_settings m.settings in
    used_held P t (store m).jobs ∙ ap (λ (js : List Job). used t (spans P (map kept js))) (keep_pad slots unused is_holding m.jobs refl)

-- what a slot is: a waiting job is one of the model's, and any other is planned as it is
abbrev pub SlotJob : Model → Job → Type 0
SlotJob m j = (is_waiting j ≡ true → SoundJob m.settings m.clock j) × (is_waiting j ≡ false → held_slot j ≡ kept j)

module _ (m : Model) (s : Sound m) where
  abbrev P : Settings
  P = promise_settings m.settings

  pub slot_jobs : All (SlotJob m) (store m).jobs
  unfolding store
  slot_jobs =
      all_pad slots unused (SlotJob m) m.jobs (λ w. true_false false w refl, λ w. refl)
      (all_of (SlotJob m) m.jobs (λ j i. let f = s.each j i in (λ w. f, λ w. rw (waits_or_holds j.state f.is_live w))))

  -- what holds of an unused slot, and of each job that holds nodes
  held_all : (R : Job → Type 0) → R unused → ((j : Job) → In j m.jobs → is_holding j ≡ true → R (kept j)) → All R (held_slots (store m).jobs)
  unfolding store
  held_all R u f =
      let ks = map held_slot m.jobs in
      subst (All R) (sym (map_pad slots unused held_slot m.jobs refl))
      (all_pad slots unused R ks u (all_of R ks (λ x i. let k = map_in held_slot m.jobs i in rw k.2 (one k.0 k.1))))
    where
      one : (j : Job) → In j m.jobs → R (held_slot j)
      one j i = case (is_holding j) (λ h. rw h (f j i h)) (λ h. rw h u)

  pub held_fits : Slots P m.clock (held_slots (store m).jobs)
  held_fits = record {
    nodes_to = s.nodes_to;
    clock_to = s.clock_to;
    all = length-map (store m).jobs held_slot ∙ store_length m s.few;
    few = omega arith;
    ends = held_all (λ (j : Job). until P j ≤ horizon P) (omega (arith, until_is P unused refl, hold_le P 0))
        (λ j i h. omega (arith, (s.each j i).ends, until_kept m.settings j));
    low = held_all Low (omega arith) (λ j i h. sound_low m s j i);
    idle = held_all (λ (j : Job). is_live_of j ≡ false → j.nodes ≡ 0) (λ e. refl) (λ j i h e. true_false (is_live_of j) (s.each j i).is_live e);
    room = λ t l. omega (arith, used_holders m t, holders_avail m s t l);
  }

-- ## One slot after another

-- the profile of the first i slots
abbrev pub LaidTo : Scheduler → ℕ → ℕ → List ℕ → List ℕ → Type 0
LaidTo d i n ms fs = Front (promise_settings d.settings) d.clock (held_slots d.jobs) i n ms fs

module _ (d : Scheduler) (h : Holds Valid d) where
  abbrev S : Settings
  S = d.settings

  abbrev js : List Job
  js = held_slots d.jobs

  pub fits : Slots (promise_settings S) d.clock js
  unfolding view
  fits = subst (λ (e : Scheduler). Slots (promise_settings S) d.clock (held_slots e.jobs)) (sym h.stored) (held_fits (view d) h.holds.ready.sound)

  -- every start and every end is a minute of the clock
  pub slot_low : (i : ℕ) → i < slots → Low (get_or d.jobs i unused)
  slot_low i l = let s = sound_of d h in slots_low d s i (omega (arith, slots_all d s))

  module _ {i n : ℕ} {ms fs : List ℕ} (low : i < slots) (v : LaidTo d i n ms fs) where
    abbrev j : Job
    j = get_or d.jobs i unused

    slot_is : get_or js i unused ≡ held_slot j
    slot_is = get_or-map held_slot d.jobs i unused

    span_is : is_holding j ≡ true → span (promise_settings S) (get_or js i unused) ≡ span S j
    span_is e = rw (slot_is, e, until_kept S j)

    pub holder_lay : is_holding j ≡ true → Laying ms fs 0 n (span S j)
    holder_lay e = subst (Laying ms fs 0 n) (span_is e) (lay fits {i = i} low v)

    pub holder_laid : is_holding j ≡ true → {r : Row} {ms' fs' : List ℕ}
        → ((l : Laying ms fs 0 n (span S j)) → Changed l.machine (span S j ∷ l.spans) l.now (span S j) ms fs n r ms' fs')
        → LaidTo d (i + 1) r.count ms' fs'
    holder_laid e f = laid_more fits {i = i} low v (rw (← span_is e) at f)

    pub other_passed : is_holding j ≡ false → LaidTo d (i + 1) n ms fs
    other_passed e = laid_unused fits {i = i} low v (rw (slot_is, e))

  pub all_laid : {n : ℕ} {ms fs : List ℕ} → LaidTo d slots n ms fs → HoldersLaid d n ms fs
  all_laid {n} {ms} {fs} v =
      subst (λ (ks : List Job). IsProfile S.nodes (spans (promise_settings S) ks) d.clock n ms fs) (take_all slots js (omega (arith, fits.all))) v

  pub holders_few : {n : ℕ} {ms fs : List ℕ} → HoldersLaid d n ms fs → n ≤ rows
  holders_few p = omega (arith, exact_few p, length-map js (span (promise_settings S)), fits.all)
