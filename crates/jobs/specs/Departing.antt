-- A job leaves on request, early or withdrawn: it is the only one with its ticket. A job whose run ends was running.
-- Assumes nothing.
use Rattle.std.specs.Prelude.{◌≡◌, refl, true, false, not, cond, List, [], ◌∷◌, ℕ, suc, ◌+◌, ◌≤◌, ◌<◌, eqb}
use Rattle.std.proofs.Common.{arith, eqb-true, ne_eqb, ltb-false}
use Rattle.lists.specs.Tests.{case, true_false, both, and_right_false}
use Rattle.lists.specs.Lists.{keep, any, elem, In, keep_in, keep_none, any_none}
use Rattle.scheduler.specs.declared.Departure.{Departure}
use Rattle.scheduler.specs.declared.Departure.TheVariants.{Complete, Cancel}
use Rattle.scheduler.specs.declared.Job.{Job}
use Rattle.scheduler.specs.declared.Select.{Select}
use Rattle.scheduler.specs.declared.Select.TheVariants as select
use Rattle.scheduler.specs.Jobs.{is_running, departs?, departs_as}
use Rattle.scheduler.specs.Table.{tickets_of, ends, ended_of}
use Rattle.scheduler.specs.declared.Refusal.TheVariants as refusal
use Rattle.scheduler.specs.Settings.{end_of}
use Rattle.scheduler.specs.Times.{run_from, end_is}
use Rattle.scheduler.specs.Model.{Model, ending}
use Rattle.scheduler.specs.Answers.{verdict, accepts}
use Rattle.scheduler.specs.Refusals.{not_there_of, departs_early, depart_refusal}
use Rattle.jobs.specs.Order.{Asc, asc_in, elem_job}
use Rattle.jobs.specs.Soundness.{Sound, passed, ends_runs}

pub not_there : (h : Departure) → accepts (not_there_of h) ≡ false
not_there Complete = refl
not_there Cancel = refl

-- a withdrawal is never too early: it is refused by 11 or not at all
none_early : (now t : ℕ) (js : List Job) → any (departs_early now Cancel t) js ≡ false
none_early now t [] = refl
none_early now t (j ∷ js) = rw (and_right_false (departs_as Cancel t j) refl) (none_early now t js)

pub cancel_judged : (m : Model) (t : ℕ) → depart_refusal m Cancel t ≡ cond (any (departs_as Cancel t) m.jobs) refusal.None refusal.NotWaiting
unfolding depart_refusal verdict
cancel_judged m t = rw (none_early m.clock t m.jobs) (case (any (departs_as Cancel t) m.jobs) (λ e. rw e) (λ e. rw e))

module _ (h : Departure) (t : ℕ) where
  -- no job after one of this ticket has it
  pub none_departs : (lo : ℕ) (js : List Job) → t < lo → Asc lo js → (j : Job) → In j js → departs_as h t j ≡ false
  none_departs lo js l a j i = and_right_false (departs? h j.state) (ne_eqb j.ticket t (λ e. omega (arith, asc_in lo js a i)))

  pub departs_alone : (lo : ℕ) (js : List Job) → Asc lo js → any (departs_as h t) js ≡ true → tickets_of (keep (departs_as h t) js) ≡ t ∷ []
  departs_alone lo [] a e = true_false false e refl
  departs_alone lo (j ∷ js) a e = case (departs_as h t j) (λ y. found y) (λ y. rw y (departs_alone (suc j.ticket) js a.1 (rw y at e)))
    where
      found : departs_as h t j ≡ true → tickets_of (keep (departs_as h t) (j ∷ js)) ≡ t ∷ []
      found y =
          let is : j.ticket ≡ t = eqb-true j.ticket t (both (departs? h j.state) (eqb j.ticket t) y).1 in
          rw (y, keep_none (departs_as h t) js (none_departs (suc j.ticket) js (omega arith) a.1), is)

-- ## Whose run ends

-- the job of this ticket runs, and has run for its least by then
pub record Ran (m : Model) (now t : ℕ) : Type 0 where
  pub job : Job
  pub inside : In job m.jobs
  pub runs : is_running job ≡ true
  pub named : job.ticket ≡ t
  pub least_over : job.start + job.least ≤ now

ended_ran : (m : Model) (s : Select) (now u : ℕ) → ((j : Job) → In j m.jobs → ends s j ≡ true → j.start + j.least ≤ now)
    → elem u (ended_of s m.jobs) ≡ true → Ran m now u
ended_ran m s now u f e =
    let j = elem_job u (keep (ends s) m.jobs) e in
    let k = keep_in (ends s) m.jobs j.1 in
    record { job = j.0; inside = k.0; runs = ends_runs s j.0 k.1; named = j.2; least_over = f j.0 k.0 k.1 }

-- an early end that is not refused is not before the least
pub left_ran : (m : Model) (h : Departure) (t u : ℕ) → accepts (depart_refusal m h t) ≡ true → elem u (ended_of (select.Departing h t) m.jobs) ≡ true
    → Ran m m.clock u
unfolding depart_refusal
left_ran m h t u a = ended_ran m (select.Departing h t) m.clock u (λ j i e. by h j (none j i) e)
  where
    none : (j : Job) → In j m.jobs → departs_early m.clock h t j ≡ false
    none j i =
        let p = passed (not (any (departs_as h t) m.jobs)) (not_there_of h) _ (not_there h) a in
        any_none (departs_early m.clock h t) (passed (any (departs_early m.clock h t) m.jobs) refusal.BeforeLeast [] refl p.1).0 i

    by : (h : Departure) (j : Job) → departs_early m.clock h t j ≡ false → ends (select.Departing h t) j ≡ true → j.start + j.least ≤ m.clock
    by Complete j n e = ltb-false m.clock (j.start + j.least) (rw e at n)
    by Cancel j n e = true_false false e refl

-- nor is a planned one
pub ticked_ran : (m : Model) (u : ℕ) → Sound m → elem u (ended_of (ending m) m.jobs) ≡ true → Ran m (suc m.clock) u
ticked_ran m u s =
    ended_ran m (ending m) (suc m.clock) u (λ j i e.
    let S = m.settings in
    let f = s.each j i in
    let t = eqb-true (end_of S j) (suc m.clock) (both (is_running j) (eqb (end_of S j) (suc m.clock)) e).1 in
    omega (arith, end_is S j, f.least_to, run_from S j.estimate f.estimate_to))
