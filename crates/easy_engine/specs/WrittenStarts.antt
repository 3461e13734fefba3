-- Starts written into the records one after another: each is one store, and together they leave the settled model.
-- Assumes nothing.
use Rattle.std.specs.Prelude.{ℕ, zero, suc, ◌+◌, ◌-◌, ◌≤◌, ◌<◌, ◌≡◌, refl, eqb, set, take, drop, replicate, true}
use Rattle.std.proofs.Common.{arith, add-one, ◌∙◌, take_all, take-suc, length-take-le}
use Rattle.std.proofs.Math.Path.{sym, ap}
use mathlib.Core.List.{List, [], ◌∷◌, ◌++◌, map}
use Rattle.lists.specs.Tests.{case}
use Rattle.std.proofs.Math.ListN.{length, get_or, get_or-map, get_or-append}
use Rattle.std.proofs.lemmas.List.{length-map}
use Rattle.lists.specs.Lists.{in_getD, keep_in, length_keep_le}
use Rattle.std.proofs.lemmas.List.Edits.{sets-eq}
use Rattle.std.proofs.Math.Option.{none}
use Rattle.lists.specs.Pads.{pad, pad_push}
use Rattle.scheduler.specs.declared.Settings.{Settings}
use Rattle.scheduler.specs.declared.Job.{Job}
use Rattle.scheduler.specs.declared.Scheduler.{Scheduler}
use Rattle.scheduler.specs.Limits.{slots}
use Rattle.scheduler.specs.declared.State.{State}
use Rattle.scheduler.specs.declared.State.TheVariants.{Unused, Waiting, Running, Cleanup}
use Rattle.scheduler.specs.States.{live?, waiting?}
use Rattle.scheduler.specs.Jobs.{unused, is_live_of, is_waiting}
use Rattle.scheduler.specs.Table.{with_jobs, ticket_of, tickets_of}
use Rattle.scheduler.specs.Model.{Model, store, view}
use Rattle.jobs.specs.Soundness.{Sound}
use Rattle.jobs.specs.Premise.{Holds, holds_as}
use Rattle.jobs.specs.Slots.{slots_are, live_low}
use Rattle.easy_laws.specs.Validity.{Ready}
use Rattle.jobs.specs.Order.{Asc}
use Rattle.easy_rules.specs.Easy.{queue, choice, begun, mark, begin, settled}
use Rattle.easy_laws.specs.Settling.{Settles, rest, start, settles, settles_rest, asc_begin}
use Rattle.easy_laws.specs.EngineLaws.{job_stored, begin_stored}
use Rattle.job_columns.specs.Columns.{Column, Blank}
use Rattle.easy_engine.specs.Survey.{Settlement, SlotColumn, Passed, begins, Applies, Begins}
use Rattle.easy_engine.specs.declared.Settled.{Settled}
use Rattle.easy_engine.specs.Shadows.{holding_few}

-- starts leave what a start does not write
pub begins_keep : (f : Job → ℕ) → ((now : ℕ) (j : Job) → f (begun now j) ≡ f j) → (ts : List ℕ) (m : Model) → map f (begins ts m).jobs ≡ map f m.jobs
begins_keep f e [] m = refl
begins_keep f e (t ∷ ts) m = begins_keep f e ts (begin t m) ∙ marked m.jobs
  where
    one : (j : Job) → f (mark m.clock t j) ≡ f j
    one j = case (eqb j.ticket t) (λ q. rw q (e m.clock j)) (λ q. rw q)

    marked : (js : List Job) → map f (map (mark m.clock t) js) ≡ map f js
    marked [] = refl
    marked (j ∷ js) = rw (one j, marked js)

-- the tickets, their order and the clock
pub begins_tickets : (ts : List ℕ) (m : Model) → tickets_of (begins ts m).jobs ≡ tickets_of m.jobs
begins_tickets ts m = begins_keep ticket_of (λ now j. refl) ts m

pub begins_asc : (ts : List ℕ) (m : Model) → Asc 1 m.jobs → Asc 1 (begins ts m).jobs
begins_asc [] m a = a
begins_asc (t ∷ ts) m a = begins_asc ts (begin t m) (asc_begin t m a)

pub begins_clock : (ts : List ℕ) (m : Model) → (begins ts m).clock ≡ m.clock
begins_clock [] m = refl
begins_clock (t ∷ ts) m = begins_clock ts (begin t m)

pub begins_settings : (ts : List ℕ) (m : Model) → (begins ts m).settings ≡ m.settings
begins_settings [] m = refl
begins_settings (t ∷ ts) m = begins_settings ts (begin t m)

pub begins_last : (ts : List ℕ) (t : ℕ) (m : Model) → begins (ts ++ (t ∷ [])) m ≡ begin t (begins ts m)
begins_last [] t m = refl
begins_last (u ∷ ts) t m = begins_last ts t (begin u m)

pub begins_length : (ts : List ℕ) (m : Model) → length (begins ts m).jobs ≡ length m.jobs
begins_length ts m = sym (length-map (begins ts m).jobs ticket_of) ∙ ap length (begins_tickets ts m) ∙ length-map m.jobs ticket_of

-- a settling is its starts
pub settles_begins : {m m' : Model} {ts : List ℕ} → Settles m m' ts → m' ≡ begins ts m
settles_begins (rest e) = refl
settles_begins (start j e s) = settles_begins s

-- the job in a slot has its ticket still
pub ticket_still : (ts : List ℕ) (m : Model) (i : ℕ) → (get_or (begins ts m).jobs i unused).ticket ≡ (get_or m.jobs i unused).ticket
ticket_still ts m i =
    sym (get_or-map ticket_of (begins ts m).jobs i unused)
    ∙ ap (λ (ns : List ℕ). get_or ns i 0) (begins_tickets ts m)
    ∙ get_or-map ticket_of m.jobs i unused

-- nothing is written
pub begins_first : {d : Scheduler} {ts started : List ℕ} → d ≡ store (view d) → Blank started → Begins d ts d started 0
begins_first s b = record { scheduler_is = s; started_is = b }

module _ {d : Scheduler} {ts order places : List ℕ} {count : ℕ} (a : Applies d ts order places count) (e : Scheduler) (started : List ℕ) (k : ℕ)
    (b : Begins d ts e started k) where
  -- all are
  pub begins_done : count ≤ k → (e ≡ store (begins ts (view d))) × (started ≡ pad slots 0 ts)
  begins_done l =
      let t : take k ts ≡ ts = take_all k ts (omega (arith, a.count_is)) in
      (rw t at b.scheduler_is, rw t at b.started_is)

  module _ (l : k < count) where
    abbrev at : ℕ
    at = get_or places (get_or order k 0) 0

    abbrev now : Model
    now = begins (take k ts) (view d)

    inside : at < length now.jobs
    inside = omega (arith, a.place_low k l, begins_length (take k ts) (view d))

    pub at_low : (get_or order k 0 < slots) × (at < slots)
    at_low = (a.order_low k l, omega (arith, a.place_low k l, a.few))

    low : k < length ts
    low = omega (arith, a.count_is)

    more : take (k + 1) ts ≡ take k ts ++ (get_or ts k 0 ∷ [])
    more = rw (add-one, take-suc ts k 0 low)

    job_is : get_or e.jobs at unused ≡ get_or now.jobs at unused
    job_is = ap (λ (x : Scheduler). get_or x.jobs at unused) b.scheduler_is ∙ job_stored now at unused inside

    ticket_now : (get_or e.jobs at unused).ticket ≡ get_or ts k 0
    ticket_now = ap ticket_of job_is ∙ ticket_still (take k ts) (view d) at ∙ a.ticket_is k l

    clock_is : d.clock ≡ now.clock
    unfolding store
    clock_is = ap (λ (x : Scheduler). x.clock) a.stored ∙ sym (begins_clock (take k ts) (view d))

    pub begins_next : Begins d ts (with_jobs e (set e.jobs at (begun d.clock (get_or e.jobs at unused))))
        (set started k (get_or e.jobs at unused).ticket) (k + 1)
    begins_next = record {
      scheduler_is =
          ap (λ (x : Job). with_jobs e (set e.jobs at (begun d.clock x))) job_is
          ∙ ap (λ (c : ℕ). with_jobs e (set e.jobs at (begun c (get_or now.jobs at unused)))) clock_is
          ∙ ap (λ (x : Scheduler). with_jobs x (set x.jobs at (begun now.clock (get_or now.jobs at unused)))) b.scheduler_is
          ∙ begin_stored now at unused inside (begins_asc (take k ts) (view d) a.asc)
          ∙ ap (λ (t : ℕ). store (begin t now)) (ap ticket_of (sym job_is) ∙ ticket_now)
          ∙ ap store (sym (begins_last (take k ts) (get_or ts k 0) (view d)))
          ∙ ap (λ (us : List ℕ). store (begins us (view d))) (sym more);
      started_is =
          ap (λ (ns : List ℕ). set ns k (get_or e.jobs at unused).ticket) b.started_is
          ∙ pad_push slots 0 (take k ts) (get_or e.jobs at unused).ticket k (length-take-le k ts (omega arith)) (omega (arith, a.count_low))
          ∙ ap (λ (t : ℕ). pad slots 0 (take k ts ++ (t ∷ []))) ticket_now
          ∙ ap (pad slots 0) (sym more);
    }

-- ## From a survey and a settling of it

waiting_live : (j : Job) → is_waiting j ≡ true → is_live_of j ≡ true
waiting_live j w = by j.state w
  where
    by : (s : State) → waiting? s ≡ true → live? s ≡ true
    by Unused w = w
    by Waiting w = refl
    by Running w = refl
    by Cleanup w = refl

module _ (d : Scheduler) (h : Holds Ready d) where
  abbrev js : List Job
  js = (view d).jobs

  abbrev sound : Holds Sound d
  sound = holds_as Ready Sound d (λ m r. r.sound) h

  module _ {places : List ℕ} (s : SlotColumn d.jobs (queue js) places) (i : ℕ) (l : i < length (queue js)) where
    long : i < length s.at
    long = omega (arith, length-map s.at (λ (k : ℕ). get_or d.jobs k unused), ap length s.jobs_at)

    place_is : get_or places i 0 ≡ get_or s.at i 0
    unfolding pad
    place_is = ap (λ (ns : List ℕ). get_or ns i 0) s.places_is ∙ get_or-append s.at (replicate (slots - length s.at) 0) 0 i long

    slot_job : get_or d.jobs (get_or places i 0) unused ≡ get_or (queue js) i unused
    slot_job =
        ap (λ (k : ℕ). get_or d.jobs k unused) place_is
        ∙ mapped s.at i long
        ∙ ap (λ (xs : List Job). get_or xs i unused) s.jobs_at
      where
        mapped : (ks : List ℕ) (i : ℕ) → i < length ks → get_or d.jobs (get_or ks i 0) unused ≡ get_or (map (λ (k : ℕ). get_or d.jobs k unused) ks) i unused
        mapped [] i l = absurd (omega arith)
        mapped (k ∷ ks) zero l = refl
        mapped (k ∷ ks) (suc i) l = mapped ks i (omega arith)

    pub slot_low : get_or places i 0 < length js
    slot_low =
        live_low d sound (get_or places i 0)
        (waiting_live (get_or d.jobs (get_or places i 0) unused) (ap is_waiting slot_job ∙ (keep_in is_waiting js (in_getD (queue js) i unused l)).1))

    pub slot_ticket : (get_or js (get_or places i 0) unused).ticket ≡ get_or (tickets_of (queue js)) i 0
    slot_ticket =
        ap ticket_of (sym (job_stored (view d) (get_or places i 0) unused slot_low)
        ∙ ap (λ (xs : List Job). get_or xs (get_or places i 0) unused) (sym (slots_are d sound)) ∙ slot_job)
        ∙ sym (get_or-map ticket_of (queue js) i unused)

  -- what a settling of the survey asks to be written
  module _ {r w spare : ℕ} {heldₗ starts terms asked estimates tickets places : List ℕ}
      (v : Passed d js r w spare heldₗ starts terms asked estimates tickets places)
      {clock : ℕ} {S : Settings} {order : List ℕ} {s : Settled} {rs : List Job} {held' ends' asked' order' : List ℕ}
      (p : Settlement (view d) rs (queue js) estimates r w clock S 0 order s held' ends' asked' order') (o : length order ≡ slots) where
    pub few : length p.places ≤ slots
    few = omega (arith, holding_few p.after.holding, p.running_is)

    pub placed : (k : ℕ) → k < length p.places → get_or order' k 0 ≡ get_or p.places k 0
    placed k l =
        ap (λ (ns : List ℕ). get_or ns k 0) (p.order_is ∙ sets-eq p.places order 0 (omega (arith, few)))
        ∙ get_or-append p.places (drop (0 + length p.places) order) 0 k l

    pub below : (k : ℕ) → k < length p.places → get_or p.places k 0 < length (queue js)
    below k l = omega (arith, p.low (get_or p.places k 0) (in_getD p.places k 0 l), v.waiting_is)

    pub number : length p.places ≡ s.count
    number = omega (arith, p.count_is)

    pub ticket_of_lem : (ks : List ℕ) (k : ℕ) → k < length ks
        → get_or (tickets_of (queue js)) (get_or ks k 0) 0 ≡ get_or (map (λ (i : ℕ). get_or (tickets_of (queue js)) i 0) ks) k 0
    ticket_of_lem [] k l = absurd (omega arith)
    ticket_of_lem (i ∷ ks) zero l = refl
    ticket_of_lem (i ∷ ks) (suc k) l = ticket_of_lem ks k (omega arith)

    pub applies : Applies d (settled (view d)).started order' places s.count
    applies = record {
      asc = h.holds.sound.asc;
      few = h.holds.sound.few;
      stored = h.stored;
      count_is = ap length (sym p.tickets_are) ∙ length-map p.places (λ (i : ℕ). get_or (tickets_of (queue js)) i 0) ∙ number;
      count_low = omega (arith, few, number);
      order_low = λ k l. omega (arith, placed k (omega (arith, number)), below k (omega (arith, number)), length_keep_le is_waiting js, h.holds.sound.few);
      place_low = λ k l. rw (placed k (omega (arith, number))) (slot_low v.slots_are (get_or p.places k 0) (below k (omega (arith, number))));
      ticket_is = λ k l. rw (placed k (omega (arith, number)))
          (slot_ticket v.slots_are (get_or p.places k 0) (below k (omega (arith, number)))
          ∙ ticket_of_lem p.places k (omega (arith, number))
          ∙ ap (λ (ts : List ℕ). get_or ts k 0) p.tickets_are);
    }

    -- the tickets of the waiting jobs stand in their list still, and nobody can start any more
    pub tickets_still : Column ticket_of p.after.asking tickets
    tickets_still = v.tickets_are ∙ ap (pad slots 0) (sym p.same_tickets)

    pub rests_after : choice p.after.model ≡ none
    rests_after = ap choice p.model_is ∙ settles_rest (settles (view d) h.holds.sound)

-- written, the starts leave the settled model
pub applied : (m : Model) → Sound m → begins (settled m).started m ≡ (settled m).model
applied m s = sym (settles_begins (settles m s))
