-- The job that a corrected order names, by its slot: it is the only one of its ticket.
-- Assumes nothing.
use Rattle.std.specs.Prelude.{ℕ, zero, suc, ◌+◌, ◌-◌, ◌≤◌, ◌<◌, ◌≡◌, refl, Bool, true, false, cond, ◌&&◌, eqb, replicate}
use Rattle.std.proofs.Common.{arith, ◌∙◌, eqb-true}
use Rattle.std.proofs.Math.Path.{sym, ap}
use Rattle.std.proofs.Math.Option.{Option, none, some}
use mathlib.Core.List.{List, [], ◌∷◌, map}
use Rattle.std.proofs.Math.ListN.{length, get_or, set, get_or-append}
use Rattle.lists.specs.Tests.{case, both}
use Rattle.lists.specs.Lists.{any, none_any, any_in, first_in, map_same}
use Rattle.lists.specs.Loops.{position_from, position, position_says, position_pad}
use Rattle.lists.specs.FirstLaws.{first_at, first_nowhere, first_none}
use Rattle.lists.specs.Pads.{pad, pad_set}
use Rattle.scheduler.specs.declared.Job.{Job}
use Rattle.scheduler.specs.declared.Scheduler.{Scheduler}
use Rattle.scheduler.specs.declared.Amendment.{Amendment}
use Rattle.scheduler.specs.declared.Refusal.{Refusal}
use Rattle.scheduler.specs.declared.Refusal.TheVariants as refusal
use Rattle.scheduler.specs.declared.Departure.TheVariants.{Cancel}
use Rattle.scheduler.specs.declared.Select.TheVariants as select
use Rattle.scheduler.specs.Limits.{slots, max_nodes, longest_estimate}
use Rattle.scheduler.specs.Jobs.{unused, is_waiting}
use Rattle.scheduler.specs.Table.{with_jobs, tickets}
use Rattle.scheduler.specs.TableLaws.{picks_unused}
use Rattle.scheduler.specs.Model.{Model, store, view}
use Rattle.scheduler.specs.Answers.{verdict, accepts}
use Rattle.scheduler.specs.Amending.{names, named, amend_refusal, grows, growing, superseded, supersede, in_place_of, kept_promise, in_place_refusal}
use Rattle.scheduler.specs.Times.{longest_le}
use Rattle.jobs.specs.Order.{Asc}
use Rattle.jobs.specs.Judgement.{accepts_none}
use Rattle.jobs.specs.Amended.{inplace_fit}
use Rattle.jobs.specs.Departing.{none_departs}
use Rattle.jobs.specs.Soundness.{Sound}
use Rattle.jobs.specs.Premise.{Holds}
use Rattle.jobs.specs.Slots.{slots_are}
use Rattle.job_table.specs.declared.Part.{Part}
use Rattle.job_table.specs.Parts.{part}
use Rattle.amending.specs.declared.Way.TheVariants as way
use Rattle.amending.specs.Ways.{way_of, superseding, slot_of, range_refusal, way_by, in_place_by}

-- ## Among the jobs

module _ (a : Amendment) where
  -- it alone is superseded, and what is asked of the jobs named is asked of it
  record Alone (n : ℕ) (js : List Job) : Type 0 where
    changed : map (supersede a) js ≡ set js n (superseded a (get_or js n unused))
    asked : (q : Job → Bool) → any (λ (j : Job). names a j && q j) js ≡ q (get_or js n unused)

  alone : (lo k n : ℕ) (js : List Job) → Asc lo js → position_from (names a) k js ≡ some (k + n) → Alone n js
  alone lo k n [] o e = absurd (let z : ◌≡◌ {A = ℕ} 0 1 = cc in omega arith)
  alone lo k zero (j ∷ js) o e = case (names a j) (λ y. found y)
      (λ y. absurd (let s = position_says unused (names a) js (k + 1) (k + 0) (rw y at e) in omega (arith, s.at_is)))
    where
      found : names a j ≡ true → Alone zero (j ∷ js)
      found y =
          let is : j.ticket ≡ a.ticket = eqb-true j.ticket a.ticket (both (is_waiting j) (eqb j.ticket a.ticket) y).1 in
          let no = none_departs Cancel a.ticket (suc j.ticket) js (omega arith) o.1 in
          record {
            changed = rw (y, map_same (supersede a) js (λ x i. ap (λ (b : Bool). cond b (superseded a x) x) (no x i)));
            asked = λ q.
                rw (y, none_any (λ (x : Job). names a x && q x) js (λ x i. ap (λ (b : Bool). b && q x) (no x i)))
                (case (q j) (λ w. rw w) (λ w. rw w));
          }
  alone lo k (suc n) (j ∷ js) o e =
      case (names a j)
      (λ y. absurd (let w : some k ≡ some (k + suc n) = rw y at e in let z : k ≡ k + suc n = cc in omega arith))
      (λ y. let z : k + suc n ≡ k + 1 + n = omega arith in
      let r = alone (suc j.ticket) (k + 1) n js o.1 ((rw y at e) ∙ ap some z) in
      record { changed = rw y (ap (λ (l : List Job). j ∷ l) r.changed); asked = λ q. rw y (r.asked q) })

-- 11, then the tests of its numbers
judged_by : (m : Model) (a : Amendment) → amend_refusal m a ≡ cond (any (names a) m.jobs) (range_refusal m.settings a) refusal.NotWaiting
unfolding amend_refusal range_refusal verdict
judged_by m a = case (any (names a) m.jobs) (λ e. rw e) (λ e. rw e)

-- ## Among the slots

module _ (d : Scheduler) (a : Amendment) (h : Holds Sound d) where
  abbrev pub spot : Option ℕ
  spot = position (names a) d.jobs

  place : spot ≡ position (names a) (view d).jobs
  unfolding store
  place = ap (position (names a)) (slots_are d h) ∙ position_pad slots unused (names a) (picks_unused (select.Departing Cancel a.ticket)) (view d).jobs

  -- where the search ends
  pub slot_some : (n : ℕ) → n ≡ slot_of spot → n < slots → spot ≡ some n
  slot_some n e l = by spot e
    where
      by : (o : Option ℕ) → n ≡ slot_of o → o ≡ some n
      by none q = absurd (omega arith)
      by (some k) q = ap some (sym q)

  pub slot_none : (n : ℕ) → n ≡ slot_of spot → slots ≤ n → spot ≡ none
  slot_none n e l = by spot refl
    where
      by : (o : Option ℕ) → spot ≡ o → spot ≡ none
      by none q = q
      by (some k) q =
          let s = position_says unused (names a) (view d).jobs 0 k (sym place ∙ q) in
          absurd (omega (arith, e ∙ ap slot_of q, s.at_is, s.inside, h.holds.few))

  abbrev handed : Refusal → Scheduler → Part
  handed r e = record { refusal = r; ticket = 0; ended = tickets []; withdrawn = 0; scheduler = e }

  -- nobody is named
  module _ (e : spot ≡ none) where
    named_none : named (view d) a ≡ none
    named_none = first_nowhere (names a) (view d).jobs 0 (sym place ∙ e)

    pub promise_none : 0 ≡ kept_promise (named (view d) a)
    promise_none = ap kept_promise (sym named_none)

    nobody : any (names a) (view d).jobs ≡ false
    nobody = none_any (names a) (view d).jobs (first_none (names a) (view d).jobs named_none)

    nobody_grows : growing (view d) a ≡ false
    nobody_grows =
        none_any (λ (j : Job). names a j && grows (view d).settings a j) (view d).jobs
        (λ j i. ap (λ (b : Bool). b && grows (view d).settings a j)
        (first_none (names a) (view d).jobs named_none j i))

    pub way_none : way.Refused refusal.NotWaiting ≡ way_of (view d) a
    unfolding way_of
    way_none = rw (judged_by (view d) a, nobody)

    pub supersedes_none : handed refusal.NotWaiting d ≡ part (superseding (view d) a)
    unfolding in_place_refusal
    supersedes_none = rw (nobody_grows, judged_by (view d) a, nobody) (ap (handed refusal.NotWaiting) h.stored)

  -- the one in this slot is
  module _ (i : ℕ) (e : spot ≡ some i) where
    abbrev job : Job
    job = get_or d.jobs i unused

    inside : i < length (view d).jobs
    inside = let s = position_says unused (names a) (view d).jobs 0 i (sym place ∙ e) in omega (arith, s.at_is, s.inside)

    same_slot : job ≡ get_or (view d).jobs i unused
    unfolding store pad
    same_slot =
        ap (λ (js : List Job). get_or js i unused) (slots_are d h)
        ∙ get_or-append (view d).jobs (replicate (slots - length (view d).jobs) unused) unused i inside

    alone_here : Alone a i (view d).jobs
    alone_here =
        let z : i ≡ 0 + i = omega arith in
        alone a 1 0 i (view d).jobs h.holds.asc (sym place ∙ e ∙ ap some z)

    named_is : named (view d) a ≡ some job
    named_is = first_at (names a) (view d).jobs unused i (sym place ∙ e) ∙ ap some (sym same_slot)

    pub promise_one : job.promise ≡ kept_promise (named (view d) a)
    promise_one = ap kept_promise (sym named_is)

    judged_is : amend_refusal (view d) a ≡ range_refusal d.settings a
    unfolding view
    judged_is = let f = first_in (names a) (view d).jobs named_is in rw (judged_by (view d) a, any_in (names a) f.0 f.1)

    grows_is : growing (view d) a ≡ grows d.settings a job
    unfolding view
    grows_is = alone_here.asked (grows d.settings a) ∙ ap (grows d.settings a) (sym same_slot)

    pub way_one : way_by d.settings a job ≡ way_of (view d) a
    unfolding way_of view
    way_one = rw (judged_is, named_is)

    in_place_is : in_place_refusal (view d) a ≡ in_place_by d.settings a job
    unfolding in_place_refusal
    in_place_is = rw (grows_is, judged_is)

    stored_is : with_jobs d (set d.jobs i (superseded a job)) ≡ store (in_place_of (view d) a)
    unfolding store view
    stored_is =
        ap (λ (x : Scheduler). with_jobs x (set x.jobs i (superseded a job))) h.stored
        ∙ ap (with_jobs (store (view d)))
        (pad_set slots unused (view d).jobs i (superseded a job) inside
        ∙ ap (pad slots unused) (ap (λ (j : Job). set (view d).jobs i (superseded a j)) same_slot ∙ sym alone_here.changed))

    module _ (r : Refusal) (is : r ≡ in_place_by d.settings a job) where
      -- what a job can hold
      pub fits : accepts r ≡ true → (a.nodes ≤ max_nodes) × (a.estimate ≤ longest_estimate) × (a.least ≤ a.estimate)
      fits y =
          let f = (inplace_fit (view d) a (ap accepts (in_place_is ∙ sym is) ∙ y)).range in
          (omega (arith, f.nodes_to, h.holds.nodes_to), omega (arith, f.estimate_to, longest_le (view d).settings), f.least_to)

      pub supersedes_one : accepts r ≡ true → handed r (with_jobs d (set d.jobs i (superseded a job))) ≡ part (superseding (view d) a)
      supersedes_one y = rw (in_place_is, ← is, accepts_none r y) (ap (handed refusal.None) stored_is)

      pub supersedes_not : accepts r ≡ false → handed r d ≡ part (superseding (view d) a)
      supersedes_not y = rw (in_place_is, ← is, y) (ap (handed r) h.stored)
