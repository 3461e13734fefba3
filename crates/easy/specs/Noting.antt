-- A forecast written into the record of the job that it is given to.
-- Assumes nothing.
use Rattle.std.specs.Prelude.{ℕ, ◌+◌, ◌≤◌, ◌<◌, ◌≡◌, refl, cond, List, ◌++◌, map, eqb, length, get_or, set, take, drop}
use Rattle.std.proofs.Common.{arith, ap, ◌∙◌, append-nil, length-append, length-drop, drop_of_length-le, take_all, length-take-le, get_or-append-add, get_or-drop, eq-eqb, ne_eqb}
use Rattle.std.proofs.Math.Option.{Option, none, some}
use Rattle.std.proofs.lemmas.List.{length-map}
use Rattle.lists.specs.Loops.{mapped_set, mapped_skip}
use Rattle.lists.specs.Pads.{map_pad}
use Rattle.scheduler.specs.declared.Job.{Job}
use Rattle.scheduler.specs.declared.Scheduler.{Scheduler}
use Rattle.scheduler.specs.Limits.{slots}
use Rattle.scheduler.specs.Jobs.{unused, foretold}
use Rattle.scheduler.specs.Table.{with_jobs}
use Rattle.scheduler.specs.Model.{Model, store}
use Rattle.scheduler.specs.Answers.{Forecast}
use Rattle.easy_rules.specs.Easy.{noting, noted}
use Rattle.easy_engine.specs.declared.Announced.{Announced}
use Rattle.easy_engine.specs.Survey.{announced}

abbrev pub told : (ticket minute : ℕ) → Forecast
told t m = record { ticket = t; minute = m }

abbrev pub noted_in : (ticket minute : ℕ) → Scheduler → Scheduler
noted_in t m d = with_jobs d (map (noting (told t m)) d.jobs)

abbrev pub kept_in_of : (ticket minute : ℕ) → Scheduler → Scheduler
kept_in_of t m d = cond (eqb t 0) d (noted_in t m d)

-- the loop: those passed are as they are to be
pub record Notes (t m : ℕ) (d e : Scheduler) (i : ℕ) : Type 0 where
  pub low : i ≤ 64
  pub scheduler_is : e ≡ with_jobs d (map (noting (told t m)) (take i d.jobs) ++ drop i d.jobs)

module _ {t m : ℕ} {d e : Scheduler} {i : ℕ} (v : Notes t m d e i) (len : length d.jobs ≡ 64) where
  -- the slots stay 64
  pub notes_length : length e.jobs ≡ 64
  notes_length =
      omega (
        arith,
        ap (λ (y : Scheduler). length y.jobs) v.scheduler_is,
        length-append (map (noting (told t m)) (take i d.jobs)) (drop i d.jobs),
        length-map (take i d.jobs) (noting (told t m)),
        length-take-le i d.jobs (omega (arith, v.low)),
        length-drop i d.jobs,
        v.low,
      )

  abbrev xs : List Job
  xs = d.jobs

  abbrev x : Job
  x = get_or xs i unused

  module _ (h : i < 64) where
    -- the slot is as it was
    pub slot_there : get_or e.jobs i unused ≡ x
    slot_there =
        let ys = map (noting (told t m)) (take i xs) in
        let k : i ≡ length ys + 0 = omega (arith, length-map (take i xs) (noting (told t m)), length-take-le i xs (omega arith)) in
        let z : i + 0 ≡ i = omega arith in
        ap (λ (y : Scheduler). get_or y.jobs i unused) v.scheduler_is
        ∙ ap (λ (p : ℕ). get_or (ys ++ drop i xs) p unused) k
        ∙ get_or-append-add ys (drop i xs) 0 unused
        ∙ get_or-drop i xs 0 unused
        ∙ ap (λ (p : ℕ). get_or xs p unused) z

    pub note_next : x.ticket ≡ t → Notes t m d (with_jobs e (set e.jobs i (foretold m x))) (i + 1)
    note_next q = record {
      low = omega arith;
      scheduler_is =
          ap (λ (y : Scheduler). with_jobs y (set y.jobs i (foretold m x))) v.scheduler_is
          ∙ ap (with_jobs d) (mapped_set unused (noting (told t m)) xs i (foretold m x) (omega arith) (rw (eq-eqb x.ticket t q)));
    }

    pub skip_next : (x.ticket ≡ t → ⊥) → Notes t m d e (i + 1)
    skip_next n = record {
      low = omega arith;
      scheduler_is = v.scheduler_is ∙ ap (with_jobs d) (mapped_skip unused (noting (told t m)) xs i (omega arith) (rw (ne_eqb x.ticket t n)));
    }

  pub notes_done : 64 ≤ i → e ≡ noted_in t m d
  notes_done h =
      let le : length xs ≤ i = omega arith in
      v.scheduler_is ∙ ap (with_jobs d) (rw (take_all i xs le, drop_of_length-le xs le) (append-nil (map (noting (told t m)) xs)))

-- as it is kept in the model: a new head has a ticket, and an unused slot has none
pub kept_is : (o : Option Forecast) (m : Model) (a : Announced) → a ≡ announced o → ((f : Forecast) → o ≡ some f → 1 ≤ f.ticket)
    → kept_in_of a.ticket a.minute (store m) ≡ store (noted o m)
unfolding store
kept_is none m a e p = rw e
kept_is (some f) m a e p =
    rw (e, ne_eqb f.ticket 0 (λ z. omega (arith, p f refl)))
    (λ i. record {
      settings = m.settings;
      clock = m.clock;
      next = m.next;
      jobs = map_pad slots unused (noting f) m.jobs (rw (ne_eqb 0 f.ticket (λ z. omega (arith, p f refl)))) i;
    })
