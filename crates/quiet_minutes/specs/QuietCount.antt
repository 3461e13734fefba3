-- How many of the next minutes are quiet, as the code finds it: slot by slot.
-- Assumes nothing.
use Rattle.std.specs.Prelude.{ℕ, suc, ◌+◌, ◌-◌, ◌≤◌, ◌<◌, ◌≡◌, refl, [], ◌∷◌, length, get_or, take}
use Rattle.std.proofs.Common.{arith, add-one, ap, subst, ◌∙◌, take-suc, take_all, ne_eqb, eq-eqb}
use Rattle.lists.specs.Lists.{All, all_of, all_in, all_append, keep_in}
use Rattle.scheduler.specs.declared.State.{State}
use Rattle.scheduler.specs.declared.State.TheVariants.{Unused, Waiting, Running, Cleanup}
use Rattle.scheduler.specs.declared.Settings.{Settings}
use Rattle.scheduler.specs.declared.Job.{Job}
use Rattle.scheduler.specs.declared.Scheduler.{Scheduler}
use Rattle.scheduler.specs.Limits.{horizon, slots}
use Rattle.scheduler.specs.States.{running?, waiting?, cleaning?}
use Rattle.scheduler.specs.Jobs.{unused, is_live_of}
use Rattle.scheduler.specs.Settings.{cleanup, run_time, end_of, until}
use Rattle.scheduler.specs.Times.{end_is, until_cleaning}
use Rattle.scheduler.specs.Model.{view}
use Rattle.jobs.specs.Soundness.{Sound}
use Rattle.jobs.specs.Premise.{Holds}
use Rattle.jobs.specs.Slots.{Low, Orderly, slots_all, slots_low, slots_orderly}
use Rattle.guarantees.specs.Premise.{Premise, premise_sound}
use Rattle.quiet_minutes.specs.DueMinutes.{QuietTo, Quiet, DueAfter, Until}

-- r of the next minutes, at most `most`, are quiet and lie by the last minute
pub record Ahead (d : Scheduler) (most r : ℕ) : Type 0 where
  pub few : r ≤ most
  pub within : d.clock ≤ horizon → d.clock + r ≤ horizon
  pub quiet : Quiet (view d) r

pub ahead_none : (d : Scheduler) (most : ℕ) → Ahead d most 0
ahead_none d most = record { few = omega arith; within = λ h. omega arith; quiet = λ j x t a b. absurd (omega arith) }

-- one job, by its state
pub unused_quiet : (S : Settings) (clock last : ℕ) (j : Job) → j.state ≡ Unused → QuietTo S clock last j
unused_quiet S clock last j e t a b = rw (ap running? e, ap cleaning? e, ap waiting? e)

pub waiting_quiet : (S : Settings) (clock last : ℕ) (j : Job) → j.state ≡ Waiting → Until j.start clock last → QuietTo S clock last j
waiting_quiet S clock last j e u t a b = rw (ap running? e, ap cleaning? e, ap waiting? e, ne_eqb j.start t (λ q. omega (arith, u (omega arith))))

pub running_quiet : (S : Settings) (clock last : ℕ) (j : Job) → j.state ≡ Running → Until (j.start + run_time S j.estimate) clock last → QuietTo S clock last j
running_quiet S clock last j e u t a b =
    rw (ap running? e, ap cleaning? e, ap waiting? e, ne_eqb (end_of S j) t (λ q. omega (arith, end_is S j, u (omega (arith, end_is S j)))))

pub cleaning_quiet : (S : Settings) (clock last : ℕ) (j : Job) → j.state ≡ Cleanup → Until (j.end + cleanup S) clock last → QuietTo S clock last j
cleaning_quiet S clock last j e u t a b =
    let f = until_cleaning S j (ap cleaning? e) in
    rw (ap running? e, ap cleaning? e, ap waiting? e, ne_eqb (until S j) t (λ q. omega (arith, f, u (omega (arith, f)))))

-- and when something is due for it, by its state
pub waiting_due : (S : Settings) (r last : ℕ) (j : Job) → j.state ≡ Waiting → (r < last → j.start ≡ suc r) → DueAfter S r last j
waiting_due S r last j e u l = rw (ap running? e, ap cleaning? e, ap waiting? e, eq-eqb j.start (suc r) (u l))

pub running_due : (S : Settings) (r last : ℕ) (j : Job) → j.state ≡ Running → (r < last → j.start + run_time S j.estimate ≡ suc r) → DueAfter S r last j
running_due S r last j e u l = rw (ap running? e, eq-eqb (end_of S j) (suc r) (end_is S j ∙ u l))

pub cleaning_due : (S : Settings) (r last : ℕ) (j : Job) → j.state ≡ Cleanup → (r < last → j.end + cleanup S ≡ suc r) → DueAfter S r last j
cleaning_due S r last j e u l = rw (ap running? e, ap cleaning? e, eq-eqb (until S j) (suc r) (until_cleaning S j (ap cleaning? e) ∙ u l))

-- one that starts later is quiet, whatever its state
pub later_quiet : (S : Settings) (clock last : ℕ) (j : Job) → Orderly S j → last < j.start → QuietTo S clock last j
later_quiet S clock last j o l = by j.state refl
  where
    by : (s : State) → j.state ≡ s → QuietTo S clock last j
    by Unused e = unused_quiet S clock last j e
    by Waiting e = waiting_quiet S clock last j e (λ h. omega arith)
    by Running e = running_quiet S clock last j e (λ h. omega arith)
    by Cleanup e = cleaning_quiet S clock last j e (λ h. omega (arith, o.1 (ap cleaning? e)))

-- every slot can be asked
module _ (d : Scheduler) (p : Premise d) where
  sound : Holds Sound d
  sound = record { stored = p.stored; holds = premise_sound d p }

  pub slots_whole : length d.jobs ≡ slots
  slots_whole = slots_all d sound

  pub slot_ready : (i : ℕ) → i < length d.jobs → Low (get_or d.jobs i unused) × Orderly d.settings (get_or d.jobs i unused)
  slot_ready i l = (slots_low d sound i l, slots_orderly d sound i l)

-- the slots before i have been asked
pub record Asked (d : Scheduler) (top last i : ℕ) : Type 0 where
  pub to : i ≤ slots
  pub from : d.clock ≤ last
  pub few : last ≤ top
  pub quiet : All (QuietTo d.settings d.clock last) (take i d.jobs)

pub asked_none : (d : Scheduler) (top : ℕ) → d.clock ≤ top → Asked d top top 0
asked_none d top l = record { to = omega arith; from = l; few = omega arith; quiet = tt }

pub asked_more : (d : Scheduler) (top last r i : ℕ) → length d.jobs ≡ slots → i < slots → Asked d top last i → d.clock ≤ r → r ≤ last
    → QuietTo d.settings d.clock r (get_or d.jobs i unused) → Asked d top r (i + 1)
asked_more d top last r i len l a f s q = record {
  to = omega arith;
  from = f;
  few = omega (arith, a.few);
  quiet =
      rw (add-one i, take-suc d.jobs i unused (omega arith))
      (all_append (QuietTo d.settings d.clock r) (take i d.jobs) (get_or d.jobs i unused ∷ [])
      (all_of (QuietTo d.settings d.clock r) (take i d.jobs) (λ j x t y z. all_in (QuietTo d.settings d.clock last) a.quiet x t y (omega arith)))
      (q, tt));
}

pub asked_all : (d : Scheduler) (top last most i : ℕ) → length d.jobs ≡ slots → slots ≤ i → Asked d top last i → top ≤ d.clock + most → top ≤ horizon
    → Ahead d most (last - d.clock)
unfolding view
asked_all d top last most i len l a m h =
    let e : d.clock + (last - d.clock) ≡ last = omega (arith, a.from) in
    record {
      few = omega (arith, a.few, a.from);
      within = λ c. omega (arith, a.few, a.from);
      quiet = λ j x. rw e (all_in (QuietTo d.settings d.clock last) (subst (All (QuietTo d.settings d.clock last)) (take_all i d.jobs (omega arith)) a.quiet)
          (keep_in is_live_of d.jobs x).0);
    }
