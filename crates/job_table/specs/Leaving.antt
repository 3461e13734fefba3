-- Jobs leave, or are in cleanup. At an early completion or a withdrawal one job does, found by its slot; the test picks no other, since tickets
-- ascend. At a tick those do whose runs end or whose nodes are released.
-- Assumes nothing.
use Rattle.std.specs.Prelude.{ℕ, zero, suc, ◌+◌, ◌-◌, ◌≤◌, ◌<◌, ◌≡◌, refl, Bool, true, false, not, cond, ◌&&◌, ◌⊎◌, eqb, ltb, set, take, drop, replicate}
use Rattle.std.proofs.Common.{arith, sym, subst, ◌∙◌, inl, inr, take-append-drop, drop_of_length-le, take-suc, take_all, length-take-le, length-drop, get_or-append-add, get_or-drop}
use Rattle.std.proofs.Math.Numerals.{add-one}
use Rattle.std.proofs.Math.Path.{ap}
use Rattle.std.proofs.Math.Option.{Option, none, some}
use mathlib.Core.List.{List, [], ◌∷◌, ◌++◌, map, append_assoc, append-nil}
use Rattle.std.specs.List.{copy_within}
use Rattle.std.proofs.Math.ListN.{length, get_or, get_or-append}
use Rattle.std.proofs.lemmas.List.{replicate-append-replicate}
use borrow.Author.Tests.{eqb-true, eqb-false, eq-eqb, ne_eqb, lt-ltb, le-ltb, ltb-true, ltb-false, not-true, not-false}
use Rattle.lists.specs.Tests.{case, true_false, both, and_right_false, le_or}
use Rattle.lists.specs.Lists.{keep, any, In, here, there, none_any, keep_none}
use Rattle.lists.specs.Loops.{position_from, position, position_says, position_pad}
use Rattle.lists.specs.Pads.{pad, pad_set}
use Rattle.scheduler.specs.declared.Settings.{Settings}
use Rattle.scheduler.specs.declared.Job.{Job}
use Rattle.scheduler.specs.declared.Scheduler.{Scheduler}
use Rattle.scheduler.specs.declared.Departure.{Departure}
use Rattle.scheduler.specs.declared.Refusal.{Refusal}
use Rattle.scheduler.specs.declared.Refusal.TheVariants as refusal
use Rattle.scheduler.specs.declared.Departure.TheVariants.{Complete, Cancel}
use Rattle.scheduler.specs.declared.Select.{Select}
use Rattle.scheduler.specs.declared.Select.TheVariants as select
use Rattle.scheduler.specs.Limits.{slots, horizon}
use Rattle.scheduler.specs.Settings.{cleanup, end_of, until}
use Rattle.scheduler.specs.Times.{until_end}
use Rattle.scheduler.specs.Jobs.{unused, is_running, is_cleaning, departs?, departs_as, too_early, ends_at, released_at, cleaning}
use Rattle.scheduler.specs.Table.{with_jobs, tickets_of, tickets, one_if, ends, ended_of, leaves, staying, ceased, remaining}
use Rattle.scheduler.specs.TableLaws.{picks_unused}
use Rattle.scheduler.specs.Model.{view, store, with_model_jobs}
use Rattle.scheduler.specs.Answers.{verdict}
use Rattle.scheduler.specs.Refusals.{not_there_of, departs_early, depart_refusal, tick_refusal}
use Rattle.jobs.specs.Order.{Asc}
use Rattle.jobs.specs.Departing.{not_there, none_departs}
use Rattle.jobs.specs.Soundness.{Sound, running_clean, ends_runs, all_remain}
use Rattle.jobs.specs.Premise.{Holds}
use Rattle.jobs.specs.Slots.{slots_are}
use Rattle.job_table.specs.declared.Part.{Part}
use Rattle.job_table.specs.declared.Due.{Due}
use Rattle.job_table.specs.declared.Due.TheVariants as due
use Rattle.job_table.specs.Parts.{Found, found_at, ends?, ends_if, cleans_if, withdrawn_if, past_horizon, capped_clock, departing, ticking, part, due_by}
use Rattle.job_table.specs.Compacting.{Removed, removed, removed_stored, overwrite, Compacts, compacted, Clears}

abbrev pub with_clock : Scheduler → ℕ → Scheduler
with_clock d c = record { settings = d.settings; clock = c; next = d.next; jobs = d.jobs }

-- without the element at n
abbrev pub cut : ℕ → List Job → List Job
cut n [] = []
cut zero (x ∷ xs) = xs
cut (suc n) (x ∷ xs) = x ∷ cut n xs

-- the job in this slot has left, and those after it have moved up
abbrev pub without_slot : Scheduler → ℕ → Scheduler
without_slot d n = with_jobs d (cut n d.jobs ++ (unused ∷ []))

pub cut_length : (n : ℕ) (xs : List Job) → n < length xs → suc (length (cut n xs)) ≡ length xs
cut_length n [] h = absurd (omega arith)
cut_length zero (x ∷ xs) h = refl
cut_length (suc n) (x ∷ xs) h = ap suc (cut_length n xs (omega arith))

cut_append : (n : ℕ) (xs ys : List Job) → n < length xs → cut n (xs ++ ys) ≡ cut n xs ++ ys
cut_append n [] ys h = absurd (omega arith)
cut_append zero (x ∷ xs) ys h = refl
cut_append (suc n) (x ∷ xs) ys h = ap (λ (l : List Job). x ∷ l) (cut_append n xs ys (omega arith))

cut_upto : (n : ℕ) (xs : List Job) → n < length xs → cut n (take (suc n) xs) ≡ take n xs
cut_upto n [] h = absurd (omega arith)
cut_upto zero (x ∷ xs) h = refl
cut_upto (suc n) (x ∷ xs) h = ap (λ (l : List Job). x ∷ l) (cut_upto n xs (omega arith))

pub cut_first : (n : ℕ) (xs : List Job) → n < length xs → cut n (take (n + 1) xs) ≡ take n xs
cut_first n xs h = ap (λ (k : ℕ). cut n (take k xs)) (add-one n) ∙ cut_upto n xs h

-- one slot more has been moved up
pub cut_step : (n i : ℕ) (xs : List Job) → n ≤ i → i + 1 < length xs → cut n (take (i + 1 + 1) xs) ≡ cut n (take (i + 1) xs) ++ (get_or xs (i + 1) unused ∷ [])
cut_step n i xs l h =
    let len = length-take-le (i + 1) xs (omega arith) in
    ap (cut n) (ap (λ (k : ℕ). take k xs) (add-one (i + 1)) ∙ take-suc xs (i + 1) unused h)
    ∙ cut_append n (take (i + 1) xs) (get_or xs (i + 1) unused ∷ []) (omega arith)

cut_is : (n : ℕ) (xs : List Job) → n < length xs → cut n xs ≡ take n xs ++ drop (suc n) xs
cut_is n [] h = absurd (omega arith)
cut_is zero (x ∷ xs) h = refl
cut_is (suc n) (x ∷ xs) h = ap (λ (l : List Job). x ∷ l) (cut_is n xs (omega arith))

-- all slots after it are moved up at once
pub moved_up : (d : Scheduler) (n : ℕ) → length d.jobs ≡ 64 → n < 64
    → with_jobs d (set (copy_within d.jobs (n + 1) (length d.jobs) n) 63 unused) ≡ without_slot d n
moved_up d n len h = ap (with_jobs d) (ap (λ (l : List Job). set l 63 unused) moved ∙ overwrite (cut n xs) xs unused 63 (omega (arith, cut_length n xs (omega arith))) (omega arith) ∙ last)
  where
    xs : List Job
    xs = d.jobs

    moved : copy_within xs (n + 1) (length xs) n ≡ cut n xs ++ drop 63 xs
    moved =
        let all : length (drop (n + 1) xs) ≤ length xs - (n + 1) = omega (arith, length-drop (n + 1) xs) in
        let to : n + (length xs - (n + 1)) ≡ 63 = omega arith in
        rw (take_all (length xs - (n + 1)) (drop (n + 1) xs) all, to, cut_is n xs (omega arith), add-one n, append_assoc (take n xs) (drop (suc n) xs) (drop 63 xs))

    last : (cut n xs ++ (unused ∷ [])) ++ drop (63 + 1) xs ≡ cut n xs ++ (unused ∷ [])
    last = let end : length xs ≤ 63 + 1 = omega arith in rw (drop_of_length-le xs end) (append-nil (cut n xs ++ (unused ∷ [])))

-- whether the one picked leaves at once
abbrev goes : Departure → Settings → Bool
goes Complete S = eqb (cleanup S) 0
goes Cancel S = true

-- otherwise its run ends, and it is in cleanup
stays_ends : (h : Departure) (S : Settings) → goes h S ≡ false → ends? h ≡ true
stays_ends Complete S g = refl
stays_ends Cancel S g = true_false true refl g

pub cleans_goes : (h : Departure) (S : Settings) → cleans_if h true S ≡ not (goes h S)
cleans_goes Complete S =
    case (eqb (cleanup S) 0)
    (λ e. rw e (le-ltb 0 (cleanup S) (omega (arith, eqb-true (cleanup S) 0 e))))
    (λ e. rw e (lt-ltb 0 (cleanup S) (omega (arith, eqb-false (cleanup S) 0 e))))
cleans_goes Cancel S = refl

-- the one that leaves is the only one of its ticket
module _ (S : Settings) (now : ℕ) (h : Departure) (t : ℕ) where
  abbrev rest : List Job → List Job
  rest js = remaining S now (select.Departing h t) js

  leaves_if : (j : Job) → leaves S (select.Departing h t) j ≡ (departs_as h t j && goes h S)
  leaves_if j = go h
    where
      go : (h : Departure) → leaves S (select.Departing h t) j ≡ (departs_as h t j && goes h S)
      go Complete = refl
      go Cancel = case (departs_as Cancel t j) (λ e. rw e) (λ e. rw e)

  ends_if_lem : (j : Job) → ends (select.Departing h t) j ≡ (departs_as h t j && ends? h)
  ends_if_lem j = go h
    where
      go : (h : Departure) → ends (select.Departing h t) j ≡ (departs_as h t j && ends? h)
      go Complete = case (departs_as Complete t j) (λ e. rw e) (λ e. rw e)
      go Cancel = case (departs_as Cancel t j) (λ e. rw e) (λ e. rw e)

  -- one that it does not pick remains as it is; the one picked leaves, or is in cleanup
  by : (j : Job) (js : List Job) (l c : Bool) → leaves S (select.Departing h t) j ≡ l → ends (select.Departing h t) j ≡ c
      → rest (j ∷ js) ≡ cond (not l) (cond c (cleaning now j) j ∷ rest js) (rest js)
  by j js true c p q = ap (λ (b : Bool). map (ceased now s) (cond (not b) (j ∷ staying S s js) (staying S s js))) p
    where
      s : Select
      s = select.Departing h t
  by j js false c p q =
      ap (λ (b : Bool). map (ceased now s) (cond (not b) (j ∷ staying S s js) (staying S s js))) p
      ∙ ap (λ (b : Bool). cond b (cleaning now j) j ∷ rest js) q
    where
      s : Select
      s = select.Departing h t

  passes : (j : Job) (js : List Job) → departs_as h t j ≡ false → rest (j ∷ js) ≡ j ∷ rest js
  passes j js y =
      by j js false false (leaves_if j ∙ ap (λ (b : Bool). b && goes h S) y) (ends_if_lem j ∙ ap (λ (b : Bool). b && ends? h) y)

  picked_goes : (j : Job) (js : List Job) → departs_as h t j ≡ true → goes h S ≡ true → rest (j ∷ js) ≡ rest js
  picked_goes j js y g =
      by j js true (ends? h) (leaves_if j ∙ ap (λ (b : Bool). b && goes h S) y ∙ g) (ends_if_lem j ∙ ap (λ (b : Bool). b && ends? h) y)

  picked_cleans : (j : Job) (js : List Job) → departs_as h t j ≡ true → goes h S ≡ false → rest (j ∷ js) ≡ cleaning now j ∷ rest js
  picked_cleans j js y g =
      by j js false true (leaves_if j ∙ ap (λ (b : Bool). b && goes h S) y ∙ g) (ends_if_lem j ∙ ap (λ (b : Bool). b && ends? h) y ∙ stays_ends h S g)

  all_pass : (js : List Job) → ((j : Job) → In j js → departs_as h t j ≡ false) → rest js ≡ js
  all_pass [] f = refl
  all_pass (j ∷ js) f = passes j js (f j (here refl)) ∙ ap (λ (l : List Job). j ∷ l) (all_pass js (λ x i. f x (there i)))

  record Alone (n : ℕ) (js : List Job) : Type 0 where
    goes_out : goes h S ≡ true → rest js ≡ cut n js
    cleans : goes h S ≡ false → rest js ≡ set js n (cleaning now (get_or js n unused))
    picked : tickets_of (keep (departs_as h t) js) ≡ t ∷ []
    soon : any (departs_early now h t) js ≡ too_early now h (get_or js n unused)

  alone : (lo k n : ℕ) (js : List Job) → Asc lo js → position_from (departs_as h t) k js ≡ some (k + n) → Alone n js
  alone lo k n [] a e = absurd (let z : ◌≡◌ {A = ℕ} 0 1 = cc in omega arith)
  alone lo k zero (j ∷ js) a e = case (departs_as h t j) (λ y. found y)
      (λ y. absurd (let s = position_says unused (departs_as h t) js (k + 1) (k + 0) (rw y at e) in omega (arith, s.at_is)))
    where
      found : departs_as h t j ≡ true → Alone zero (j ∷ js)
      found y =
          let is : j.ticket ≡ t = eqb-true j.ticket t (both (departs? h j.state) (eqb j.ticket t) y).1 in
          let no = none_departs h t (suc j.ticket) js (omega arith) a.1 in
          record {
            goes_out = λ g. picked_goes j js y g ∙ all_pass js no;
            cleans = λ g. picked_cleans j js y g ∙ ap (λ (l : List Job). cleaning now j ∷ l) (all_pass js no);
            picked = rw (y, keep_none (departs_as h t) js no, is);
            soon =
                rw (y, none_any (departs_early now h t) js (λ k i. ap (λ (b : Bool). b && too_early now h k) (no k i)))
                (case (too_early now h j) (λ q. rw q) (λ q. rw q));
          }
  alone lo k (suc n) (j ∷ js) a e =
      case (departs_as h t j)
      (λ y. absurd (let w : some k ≡ some (k + suc n) = rw y at e in let z : k ≡ k + suc n = cc in omega arith))
      (λ y. let z : k + suc n ≡ k + 1 + n = omega arith in
      let r = alone (suc j.ticket) (k + 1) n js a.1 ((rw y at e) ∙ ap some z) in
      record {
        goes_out = λ g. passes j js y ∙ ap (λ (l : List Job). j ∷ l) (r.goes_out g);
        cleans = λ g. passes j js y ∙ ap (λ (l : List Job). j ∷ l) (r.cleans g);
        picked = rw y r.picked;
        soon = rw y r.soon;
      })

-- over the slots of a stored model
cut_pad : (n : ℕ) (js : List Job) → n < length js → length js ≤ slots → cut n (pad slots unused js) ++ (unused ∷ []) ≡ pad slots unused (cut n js)
unfolding pad
cut_pad n js h l =
    let m = slots - length js in
    let more : slots - length (cut n js) ≡ m + 1 = omega (arith, cut_length n js h) in
    rw (cut_append n js (replicate m unused) h, append_assoc (cut n js) (replicate m unused) (unused ∷ []), more, ← replicate-append-replicate m 1 unused)

-- ## One slot more has moved up

-- the slot after the last is none
pub cut_past : (n : ℕ) (xs : List Job) → length xs ≤ n → cut n xs ≡ xs
cut_past n [] h = refl
cut_past zero (x ∷ xs) h = absurd (omega arith)
cut_past (suc n) (x ∷ xs) h = ap (λ (l : List Job). x ∷ l) (cut_past n xs (omega arith))

-- the slots before i hold what all slots of d up to it hold without the one that leaves, if any
pub record Shifts (at : ℕ) (d e : Scheduler) (i : ℕ) : Type 0 where
  pub from : at ≤ i
  pub low : at < 64 → i ≤ 63
  pub scheduler_is : e ≡ with_jobs d (cut at (take (i + 1) d.jobs) ++ drop i d.jobs)

pub shifts_first : (at : ℕ) (d : Scheduler) → length d.jobs ≡ 64 → at ≤ 64 → Shifts at d d at
shifts_first at d len l = record {
  from = omega arith;
  low = λ k. omega arith;
  scheduler_is = ap (with_jobs d) (sym (by (le_or 64 at)));
}
  where
    xs : List Job
    xs = d.jobs

    by : (64 ≤ at) ⊎ (at < 64) → cut at (take (at + 1) xs) ++ drop at xs ≡ xs
    by (inl k) =
        let past : length xs ≤ at = omega arith in
        let more : length xs ≤ at + 1 = omega arith in
        rw (take_all (at + 1) xs more, cut_past at xs past, drop_of_length-le xs past) (append-nil xs)
    by (inr k) = ap (λ (l : List Job). l ++ drop at xs) (cut_first at xs (omega arith)) ∙ take-append-drop at xs

module _ {at : ℕ} {d e : Scheduler} {i : ℕ} (v : Shifts at d e i) (len : length d.jobs ≡ 64) where
  abbrev xs : List Job
  xs = d.jobs

  abbrev moved : List Job
  moved = cut at (take (i + 1) xs)

  module _ (found : at < 64) where
    moved_length : length moved ≡ i
    moved_length =
        let few = length-take-le (i + 1) xs (omega (arith, v.low found)) in
        let one = cut_length at (take (i + 1) xs) (omega (arith, few, v.from)) in
        omega arith

    -- the slot after is as it was
    pub next_there : i < 63 → get_or e.jobs (i + 1) unused ≡ get_or xs (i + 1) unused
    next_there h =
        let n : i + 1 ≡ length moved + 1 = omega (arith, moved_length) in
        ap (λ (y : Scheduler). get_or y.jobs (i + 1) unused) v.scheduler_is
        ∙ ap (λ (k : ℕ). get_or (moved ++ drop i xs) k unused) n
        ∙ get_or-append-add moved (drop i xs) 1 unused
        ∙ get_or-drop i xs 1 unused

    pub shifts_next : i < 63 → Shifts at d (with_jobs e (set e.jobs i (get_or xs (i + 1) unused))) (i + 1)
    shifts_next h = record {
      from = omega (arith, v.from);
      low = λ k. omega arith;
      scheduler_is =
          ap (λ (y : Scheduler). with_jobs y (set y.jobs i (get_or xs (i + 1) unused))) v.scheduler_is
          ∙ ap (with_jobs d)
          (overwrite moved xs (get_or xs (i + 1) unused) i moved_length (omega arith)
          ∙ ap (λ (l : List Job). l ++ drop (i + 1) xs) (sym (cut_step at i xs v.from (omega arith))));
    }

    pub shifts_done : 63 ≤ i → with_jobs e (set e.jobs 63 unused) ≡ without_slot d at
    shifts_done h =
        let end : i ≡ 63 = omega (arith, v.low found) in
        let last : length xs ≤ i + 1 = omega arith in
        let all : take (i + 1) xs ≡ xs = take_all (i + 1) xs last in
        let none : drop (i + 1) xs ≡ [] = drop_of_length-le xs last in
        ap (λ (k : ℕ). with_jobs e (set e.jobs k unused)) (sym end)
        ∙ ap (λ (y : Scheduler). with_jobs y (set y.jobs i unused)) v.scheduler_is
        ∙ ap (with_jobs d)
        (overwrite moved xs unused i moved_length (omega arith)
        ∙ ap (λ (l : List Job). (moved ++ (unused ∷ [])) ++ l) none
        ∙ append-nil (moved ++ (unused ∷ []))
        ∙ ap (λ (l : List Job). cut at l ++ (unused ∷ [])) all)

  -- nobody leaves
  pub shifts_none : 64 ≤ at → e ≡ d
  shifts_none h =
      let past : length xs ≤ i = omega (arith, v.from) in
      let more : length xs ≤ i + 1 = omega arith in
      v.scheduler_is
      ∙ ap (with_jobs d) (rw (take_all (i + 1) xs more, cut_past at xs (omega arith), drop_of_length-le xs past) (append-nil xs))

-- ## An early completion or a withdrawal

any_none : (p : Job → Bool) (k : ℕ) (js : List Job) → position_from p k js ≡ none → any p js ≡ false
any_none p k [] e = refl
any_none p k (j ∷ js) e = case (p j) (λ q. absurd (let w : some k ≡ none = rw q at e in let z : ◌≡◌ {A = ℕ} 0 1 = cc in omega arith))
    (λ q. rw q (any_none p (k + 1) js (rw q at e)))

any_some : (p : Job → Bool) (k i : ℕ) (js : List Job) → position_from p k js ≡ some i → any p js ≡ true
any_some p k i [] e = absurd (let z : ◌≡◌ {A = ℕ} 0 1 = cc in omega arith)
any_some p k i (j ∷ js) e = case (p j) (λ q. rw q) (λ q. rw q (any_some p (k + 1) i js (rw q at e)))

-- the ticket of the one that leaves is among the ended if it ran
ended_one : (h : Departure) (t : ℕ) (js : List Job) → tickets_of (keep (departs_as h t) js) ≡ t ∷ []
    → ended_of (select.Departing h t) js ≡ one_if (ends_if h true) t
ended_one Complete t js e = e
ended_one Cancel t js e = ap tickets_of (keep_none (λ (j : Job). false) js (λ j i. refl))

-- the job in this slot is in cleanup
abbrev pub cleaning_slot : Scheduler → ℕ → Scheduler
cleaning_slot d n = with_jobs d (set d.jobs n (cleaning d.clock (get_or d.jobs n unused)))

module _ (d : Scheduler) (h : Departure) (t : ℕ) (v : Holds Sound d) where
  abbrev spot : Option ℕ
  spot = position (departs_as h t) d.jobs

  abbrev left : Refusal → Bool → Scheduler → Part
  left r found e = record {
    refusal = r;
    ticket = 0;
    ended = tickets (one_if (ends_if h found) t);
    withdrawn = withdrawn_if h found t;
    scheduler = e;
  }

  place : position (departs_as h t) d.jobs ≡ position (departs_as h t) (view d).jobs
  unfolding store
  place = ap (position (departs_as h t)) (slots_are d v) ∙ position_pad slots unused (departs_as h t) (picks_unused (select.Departing h t)) (view d).jobs

  pub leaves_none : position (departs_as h t) d.jobs ≡ none → left (not_there_of h) false d ≡ part (departing (view d) h t)
  unfolding depart_refusal verdict
  leaves_none e = rw (any_none (departs_as h t) 0 (view d).jobs (sym place ∙ e), not_there h) (ap (left (not_there_of h) false) v.stored)

  module _ (i : ℕ) (e : position (departs_as h t) d.jobs ≡ some i) where
    alone_here : Alone d.settings d.clock h t i (view d).jobs
    alone_here =
        let z : i ≡ 0 + i = omega arith in
        alone d.settings d.clock h t 1 0 i (view d).jobs v.holds.asc (sym place ∙ e ∙ ap some z)

    pub inside : i < length (view d).jobs
    inside = let s = position_says unused (departs_as h t) (view d).jobs 0 i (sym place ∙ e) in omega (arith, s.at_is, s.inside)

    abbrev with : List Job → Scheduler
    with js = store (with_model_jobs (view d) js)

    cut_stored : without_slot d i ≡ with (cut i (view d).jobs)
    unfolding store view
    cut_stored =
        ap (λ (x : Scheduler). with_jobs x (cut i x.jobs ++ (unused ∷ []))) v.stored
        ∙ ap (with_jobs (store (view d))) (cut_pad i (view d).jobs inside v.holds.few)

    same_slot : get_or d.jobs i unused ≡ get_or (view d).jobs i unused
    unfolding store pad
    same_slot =
        ap (λ (js : List Job). get_or js i unused) (slots_are d v)
        ∙ get_or-append (view d).jobs (replicate (slots - length (view d).jobs) unused) unused i inside

    cleaning_stored : cleaning_slot d i ≡ with (set (view d).jobs i (cleaning d.clock (get_or (view d).jobs i unused)))
    unfolding store view
    cleaning_stored =
        ap (λ (j : Job). with_jobs d (set d.jobs i (cleaning d.clock j))) same_slot
        ∙ ap (λ (x : Scheduler). with_jobs x (set x.jobs i (cleaning d.clock (get_or (view d).jobs i unused)))) v.stored
        ∙ ap (with_jobs (store (view d))) (pad_set slots unused (view d).jobs i (cleaning d.clock (get_or (view d).jobs i unused)) inside)

    abbrev soon? : Bool
    soon? = too_early d.clock h (get_or d.jobs i unused)

    -- whether it is too early to end the job with this ticket
    early_is : any (departs_early d.clock h t) (view d).jobs ≡ soon?
    early_is = alone_here.soon ∙ ap (too_early d.clock h) (sym same_slot)

    pub leaves_early : soon? ≡ true → left refusal.BeforeLeast false d ≡ part (departing (view d) h t)
    unfolding depart_refusal verdict view store
    leaves_early y =
        rw (any_some (departs_as h t) 0 i (view d).jobs (sym place ∙ e), early_is ∙ y) (ap (left refusal.BeforeLeast false) v.stored)

    -- what is handed back is what the definition says, if the slots are
    leaves_as : (x : Scheduler) → soon? ≡ false → x ≡ with (remaining d.settings d.clock (select.Departing h t) (view d).jobs)
        → left refusal.None true x ≡ part (departing (view d) h t)
    unfolding depart_refusal verdict view store
    leaves_as x y q =
        rw (any_some (departs_as h t) 0 i (view d).jobs (sym place ∙ e), early_is ∙ y, ended_one h t (view d).jobs alone_here.picked)
        (ap (left refusal.None true) q)

    -- and nothing is refused
    module _ (r : Refusal) (taken : r ≡ refusal.None) (y : soon? ≡ false) where
      pub leaves_one : cleans_if h true d.settings ≡ false → left r true (without_slot d i) ≡ part (departing (view d) h t)
      leaves_one n =
          ap (λ (q : Refusal). left q true (without_slot d i)) taken
          ∙ leaves_as (without_slot d i) y
          (cut_stored ∙ ap with (sym (alone_here.goes_out (not-false (goes h d.settings) (sym (cleans_goes h d.settings) ∙ n)))))

      pub cleans_one : cleans_if h true d.settings ≡ true → left r true (cleaning_slot d i) ≡ part (departing (view d) h t)
      cleans_one n =
          ap (λ (q : Refusal). left q true (cleaning_slot d i)) taken
          ∙ leaves_as (cleaning_slot d i) y
          (cleaning_stored ∙ ap with (sym (alone_here.cleans (not-true (goes h d.settings) (sym (cleans_goes h d.settings) ∙ n)))))

  -- what the search gives: a slot, of a job that can leave now, or the refusal
  pub record Finds (f : Found) : Type 0 where
    pub low : f.slot ≤ slots
    pub one : f.slot < slots
        → (spot ≡ some f.slot) × (too_early d.clock h (get_or d.jobs f.slot unused) ≡ false) × (f.refusal ≡ refusal.None)
    pub nobody : slots ≤ f.slot → left f.refusal false d ≡ part (departing (view d) h t)

  pub finds : (f : Found) → f ≡ found_at d h spot → Finds f
  finds f e = subst Finds (sym e) (by spot refl)
    where
      none_here : (r : Refusal) → left r false d ≡ part (departing (view d) h t) → Finds (record { refusal = r; slot = slots })
      none_here r q = record { low = omega arith; one = λ l. absurd (omega arith); nobody = λ l. q }

      by : (p : Option ℕ) → spot ≡ p → Finds (found_at d h p)
      by none q = none_here (not_there_of h) (leaves_none q)
      by (some i) q =
          case (too_early d.clock h (get_or d.jobs i unused))
          (λ y. rw y (none_here refusal.BeforeLeast (leaves_early i q y)))
          (λ y. rw y (record {
            low = omega (arith, v.holds.few, inside i q);
            one = λ l. (q, y, refl);
            nobody = λ l. absurd (omega (arith, v.holds.few, inside i q));
          }))

-- ## A tick

-- the ways of a slot are three
abbrev rank : Due → ℕ
rank due.Stays = 0
rank due.Ends = 1
rank due.Leaves = 2

-- the ways of a job at a tick
module _ (S : Settings) (t : ℕ) (j : Job) where
  abbrev at : Select
  at = select.EndingAt S t

  pub tick_goes : ends_at S t j ≡ true → ltb 0 (cleanup S) ≡ false → leaves S at j ≡ true
  tick_goes e n =
      let z : cleanup S ≡ 0 = omega (arith, ltb-false 0 (cleanup S) n) in
      rw (e, eq-eqb (cleanup S) 0 z) (case (released_at S t j) (λ r. rw r) (λ r. rw r))

  pub tick_cleans : ends_at S t j ≡ true → ltb 0 (cleanup S) ≡ true → leaves S at j ≡ false
  tick_cleans e n =
      let l : 0 < cleanup S = ltb-true 0 (cleanup S) n in
      rw (
        e,
        ne_eqb (cleanup S) 0 (λ z. omega arith),
        ap (λ (b : Bool). b && eqb (until S j) t) (running_clean j.state (ends_runs at j e)),
      )

  pub tick_releases : ends_at S t j ≡ false → released_at S t j ≡ true → leaves S at j ≡ true
  tick_releases e r = rw (e, r)

  pub tick_stays : ends_at S t j ≡ false → released_at S t j ≡ false → leaves S at j ≡ false
  tick_stays e r = rw (e, r)

  -- which of these it is
  pub due_ends : due_by S t j ≡ due.Ends → ends_at S t j ≡ true
  due_ends q =
      case (ends_at S t j) (λ e. e)
      (λ e. absurd (case (released_at S t j) (λ r. omega (arith, rw (e, r) at (ap rank q))) (λ r. omega (arith, rw (e, r) at (ap rank q)))))

  pub due_leaves : due_by S t j ≡ due.Leaves → (ends_at S t j ≡ false) × (released_at S t j ≡ true)
  due_leaves q =
      case (ends_at S t j) (λ e. absurd (omega (arith, rw e at (ap rank q))))
      (λ e. case (released_at S t j) (λ r. (e, r)) (λ r. absurd (omega (arith, rw (e, r) at (ap rank q)))))

  pub due_stays : due_by S t j ≡ due.Stays → (ends_at S t j ≡ false) × (released_at S t j ≡ false)
  due_stays q =
      case (ends_at S t j) (λ e. absurd (omega (arith, rw e at (ap rank q))))
      (λ e. case (released_at S t j) (λ r. absurd (omega (arith, rw (e, r) at (ap rank q)))) (λ r. (e, r)))

module _ (d : Scheduler) (h : Holds Sound d) where
  abbrev minute : ℕ
  minute = d.clock + 1

  abbrev which : Select
  which = select.EndingAt d.settings minute

  abbrev all : List Job
  all = (view d).jobs

  abbrev of : Removed → Part
  of r = record { refusal = past_horizon minute; ticket = 0; ended = r.tickets; withdrawn = 0; scheduler = with_clock r.scheduler (capped_clock minute) }

  removed_is : removed d minute which ≡ record {
    tickets = tickets (ended_of which all);
    scheduler =
        store (with_model_jobs (view d) (remaining d.settings minute which all));
  }
  unfolding view
  removed_is = ap (λ (x : Scheduler). removed x minute which) h.stored ∙ removed_stored (view d) minute which h.holds.few

  abbrev expired : List ℕ → List Job → ℕ → Part
  expired ts js c = record {
    refusal = past_horizon minute;
    ticket = 0;
    ended = tickets ts;
    withdrawn = 0;
    scheduler =
        store (record { settings = (view d).settings; clock = c; next = (view d).next; jobs = js });
  }

  -- past the last minute no run ends and nobody is released
  module _ (l : horizon < minute) (j : Job) (i : In j all) where
    none_ends : ends which j ≡ false
    unfolding view
    none_ends =
        case (is_running j)
        (λ r. and_right_false (is_running j)
        (ne_eqb (end_of d.settings j) minute (λ e.
        omega (arith, (h.holds.each j i).ends, until_end d.settings j (running_clean j.state r)))))
        (λ r. rw r)

    none_leaves : leaves d.settings which j ≡ false
    unfolding view
    none_leaves =
        tick_stays d.settings minute j none_ends
        (and_right_false (is_cleaning j) (ne_eqb (until d.settings j) minute (λ e. omega (arith, (h.holds.each j i).ends))))

  pub expired_is : of (removed d minute which) ≡ part (ticking (view d))
  unfolding store view tick_refusal verdict
  expired_is = ap of removed_is ∙ by_minute (le_or minute horizon)
    where
      by_minute : (minute ≤ horizon) ⊎ (horizon < minute)
          → of (record {
            tickets = tickets (ended_of which all);
            scheduler =
                store (with_model_jobs (view d) (remaining d.settings minute which all));
          }) ≡ part (ticking (view d))
      by_minute (inl l) = rw (le-ltb horizon minute l, add-one d.clock, le-ltb horizon (suc d.clock) (omega arith))
      by_minute (inr l) =
          let c : horizon ≡ d.clock = omega (arith, h.holds.clock_to) in
          let none : ended_of which all ≡ [] = ap tickets_of (keep_none (ends which) all (none_ends l)) in
          ap (λ (ts : List ℕ). expired ts (remaining d.settings minute which all) (capped_clock minute)) none
          ∙ ap (λ (js : List Job). expired [] js (capped_clock minute)) (all_remain d.settings minute which all (none_ends l) (none_leaves l))
          ∙ rw (lt-ltb horizon minute l, lt-ltb horizon (suc d.clock) (omega arith), c)

pub expires : (d : Scheduler) → Holds Sound d → {e f : Scheduler} {list : List ℕ} {kept gone i k c : ℕ}
    → Compacts (d.clock + 1) (select.EndingAt d.settings (d.clock + 1)) (with_clock d c) e list kept gone i → length d.jobs ≡ 64
    → Clears kept e f k → i ≡ length (view d).jobs → k ≡ i → c ≡ capped_clock (d.clock + 1)
    → record { refusal = past_horizon (d.clock + 1); ticket = 0; ended = record { count = gone; list = list }; withdrawn = 0; scheduler = f } ≡ part (ticking (view d))
unfolding removed store
expires d h v len u a b z =
    ap given (compacted v len (view d).jobs h.holds.few (slots_are d h) a u b)
    ∙ ap (λ (n : ℕ). record {
      refusal = past_horizon (d.clock + 1);
      ticket = 0;
      ended = taken.tickets;
      withdrawn = 0;
      scheduler = with_clock taken.scheduler n;
    }) z
    ∙ expired_is d h
  where
    taken : Removed
    taken = removed d (d.clock + 1) (select.EndingAt d.settings (d.clock + 1))

    given : Removed → Part
    given r = record { refusal = past_horizon (d.clock + 1); ticket = 0; ended = r.tickets; withdrawn = 0; scheduler = r.scheduler }
