-- What the code of a tick computes on a stored model is the definition's tick.
-- Assumes nothing.
use Rattle.std.specs.Prelude.{◌≡◌, refl, true, false, ℕ, suc, ◌+◌, ◌≤◌, ◌<◌, get_or, set, take, drop}
use Rattle.std.proofs.Common.{sym, ◌∙◌, length-append, length-take-le, get_or-append-add, get_or-drop, ne_eqb}
use Rattle.std.proofs.Math.Path.{ap}
use mathlib.Core.List.{List, ◌++◌, map, map-append, append-nil}
use native.Mathlib.Omega.{arith}
use Rattle.std.proofs.Math.ListN.{length, drop_of_length-le}
use Rattle.std.proofs.lemmas.List.{length-map}
use Rattle.std.proofs.Math.Seq.{take_all}
use Rattle.lists.specs.Tests.{case}
use Rattle.lists.specs.Lists.{keep, In, map_same}
use Rattle.lists.specs.Loops.{keep_take_yes, keep_take_no, mapped_set, mapped_skip}
use Rattle.lists.specs.Pads.{pad, pad_push, map_pad}
use Rattle.scheduler.specs.declared.Job.{Job}
use Rattle.scheduler.specs.declared.Refusal.{Refusal}
use Rattle.scheduler.specs.declared.Scheduler.{Scheduler}
use Rattle.scheduler.specs.declared.Outcome.{Outcome}
use Rattle.scheduler.specs.Limits as limit
use Rattle.scheduler.specs.Jobs.{unused, is_waiting}
use Rattle.scheduler.specs.Table.{with_jobs, tickets_of, tickets}
use Rattle.scheduler.specs.Model.{Model, ending, store, without, with_model_jobs}
use Rattle.scheduler.specs.Answers.{outcome, refuse, accepts}
use Rattle.scheduler.specs.Refusals.{tick_refusal}
use Rattle.job_table.specs.declared.Part.{Part}
use Rattle.job_table.specs.Parts.{leaving, refused_own, ticking, part}
use Rattle.history.specs.Calls.{tick}
use Rattle.conservative_rules.specs.Conservative.{call, begun, ticked, placed, turned}
use Rattle.conservative_laws.specs.Sentences.{starts_at, begun_turned}
use Rattle.conservative_laws.specs.TickedJob.{turned_due, turned_other}
use Rattle.conservative_laws.specs.Validity.{Valid}
use Rattle.conservative.specs.Advance.{advanced_by, refused_stored, advanced_stored}

-- ## The starts, on the slots of the table and on the model

-- the slots of a stored model
turned_stored : (now : ℕ) (m : Model) → with_jobs (store m) (map (turned now) (store m).jobs) ≡ store (with_model_jobs m (map (turned now) m.jobs))
unfolding store
turned_stored now m = ap (with_jobs (store m)) (map_pad limit.slots unused (turned now) m.jobs refl)

-- ## The tick

-- what the code computes of the table after its part: those planned for now start
abbrev pub started_by : Part → Outcome
started_by p = advanced_by p (with_jobs p.scheduler (map (turned p.scheduler.clock) p.scheduler.jobs))

-- what it leaves in slots, by the definition of a tick
module _ (m : Model) where
  abbrev n : ℕ
  n = suc m.clock

  abbrev rest : Model
  rest = without m n (ending m)

  turned_rest : with_jobs (store rest) (map (turned (store rest).clock) (store rest).jobs) ≡ store (with_model_jobs rest (map (turned n) rest.jobs))
  unfolding store
  turned_rest = turned_stored n rest

  taken_is : started_by (part (leaving m n (ending m) 0)) ≡ outcome (ticked m)
  unfolding ticked
  taken_is =
      ap (advanced_by (part (leaving m n (ending m) 0))) turned_rest
      ∙ advanced_stored m n (ending m) 0 (map (turned n) rest.jobs) (sym (length-map rest.jobs (turned n)))

  module _ (v : Valid m) where
    -- nobody is planned for the minute that is now
    not_due : (j : Job) → In j m.jobs → starts_at m.clock j ≡ false
    not_due j i = case (is_waiting j) (λ w. rw w (ne_eqb j.start m.clock (λ e. omega (arith, v.ahead j i w)))) (λ w. rw w)

    still : map (turned m.clock) m.jobs ≡ m.jobs
    still = map_same (turned m.clock) m.jobs (λ j i. turned_other m.clock j (not_due j i))

    turned_still : with_jobs (store m) (map (turned (store m).clock) (store m).jobs) ≡ store m
    unfolding store
    turned_still = turned_stored m.clock m ∙ ap (λ (js : List Job). store (with_model_jobs m js)) still

    refused_is : (r : Refusal) → started_by (part (refused_own m r)) ≡ outcome (refuse m r)
    refused_is r = ap (advanced_by (part (refused_own m r))) turned_still ∙ refused_stored m r

    pub ticks_held : started_by (part (ticking m)) ≡ outcome (call m tick)
    unfolding call
    ticks_held = case (accepts (tick_refusal m)) (λ a. rw a taken_is) (λ a. rw a (refused_is (tick_refusal m)))

-- ## One slot more

pub record Starts (now : ℕ) (d e : Scheduler) (list : List ℕ) (n i : ℕ) : Type 0 where
  pub low : i ≤ 64
  pub few : n ≤ i
  pub scheduler_is : e ≡ with_jobs d (map (turned now) (take i d.jobs) ++ drop i d.jobs)
  pub count_is : n ≡ length (tickets_of (keep (starts_at now) (take i d.jobs)))
  pub list_is : list ≡ pad 64 0 (tickets_of (keep (starts_at now) (take i d.jobs)))

module _ {now : ℕ} {d e : Scheduler} {list : List ℕ} {n i : ℕ} (v : Starts now d e list n i) (len : length d.jobs ≡ 64) where
  abbrev xs : List Job
  xs = d.jobs

  abbrev x : Job
  x = get_or xs i unused

  module _ (h : i < 64) where
    -- the slot is as it was
    pub slot_there : get_or e.jobs i unused ≡ x
    slot_there =
        let ys = map (turned now) (take i xs) in
        let k : i ≡ length ys + 0 = omega (arith, length-map (take i xs) (turned now), length-take-le i xs (omega arith)) in
        let z : i + 0 ≡ i = omega arith in
        ap (λ (y : Scheduler). get_or y.jobs i unused) v.scheduler_is
        ∙ ap (λ (p : ℕ). get_or (ys ++ drop i xs) p unused) k
        ∙ get_or-append-add ys (drop i xs) 0 unused
        ∙ get_or-drop i xs 0 unused
        ∙ ap (λ (p : ℕ). get_or xs p unused) z

    pub due_next : starts_at now x ≡ true → Starts now d (with_jobs e (set e.jobs i (placed now now x))) (set list n x.ticket) (n + 1) (i + 1)
    due_next t =
        let k = keep_take_yes unused (starts_at now) xs i (omega arith) t in
        record {
          low = omega arith;
          few = omega (arith, v.few);
          scheduler_is =
              ap (λ (y : Scheduler). with_jobs y (set y.jobs i (placed now now x))) v.scheduler_is
              ∙ ap (with_jobs d) (mapped_set unused (turned now) xs i (placed now now x) (omega arith) (sym (turned_due now x t)));
          count_is = rw (k, map-append, length-append) (ap (λ (m : ℕ). m + 1) v.count_is);
          list_is =
              rw (k, map-append)
              (ap (λ (l : List ℕ). set l n x.ticket) v.list_is
              ∙ pad_push 64 0 (tickets_of (keep (starts_at now) (take i xs))) x.ticket n (sym v.count_is) (omega (arith, v.few)));
        }

    pub stays_next : starts_at now x ≡ false → Starts now d e list n (i + 1)
    stays_next t =
        let k = keep_take_no unused (starts_at now) xs i (omega arith) t in
        record {
          low = omega arith;
          few = omega (arith, v.few);
          scheduler_is = v.scheduler_is ∙ ap (with_jobs d) (mapped_skip unused (turned now) xs i (omega arith) (turned_other now x t));
          count_is = rw k v.count_is;
          list_is = rw k v.list_is;
        }

  pub starts_done : 64 ≤ i → (e ≡ with_jobs d (map (turned now) xs)) × (record { count = n; list = list } ≡ tickets (begun xs (map (turned now) xs)))
  unfolding tickets
  starts_done h =
      let le : length xs ≤ i = omega arith in
      let all = take_all i xs le in (
        v.scheduler_is ∙ ap (with_jobs d) (rw (all, drop_of_length-le xs le) (append-nil (map (turned now) xs))),
        rw (begun_turned now xs) (λ j. record { count = (rw all at v.count_is) j; list = (rw all at v.list_is) j }),
      )
