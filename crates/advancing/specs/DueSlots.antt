-- How many minutes are quiet, and that something is due after them, as the code finds it: slot by slot.
-- Assumes nothing.
use Rattle.std.specs.Prelude.{ℕ, suc, ◌+◌, ◌-◌, ◌≤◌, ◌<◌, ◌≡◌, refl, true, ltb, length, get_or}
use Rattle.std.proofs.Common.{arith, ap, subst, ltb-true, ltb-false}
use Rattle.lists.specs.Tests.{case, true_false}
use Rattle.lists.specs.Lists.{in_getD, in_keep, any_in}
use Rattle.scheduler.specs.declared.Settings.{Settings}
use Rattle.scheduler.specs.declared.Scheduler.{Scheduler}
use Rattle.scheduler.specs.declared.Job.{Job}
use Rattle.scheduler.specs.declared.State.{State}
use Rattle.scheduler.specs.declared.State.TheVariants.{Unused, Waiting, Running, Cleanup}
use Rattle.scheduler.specs.Limits.{horizon, slots}
use Rattle.scheduler.specs.States.{live?, running?, cleaning?, waiting?}
use Rattle.scheduler.specs.Jobs.{unused, is_live_of}
use Rattle.scheduler.specs.Model.{view}
use Rattle.advance_rules.specs.Advance.{due_at}
use Rattle.quiet_minutes.specs.DueMinutes.{QuietTo, DueAfter}
use Rattle.quiet_minutes.specs.QuietCount.{Asked, asked_none, asked_more, asked_all}
use Rattle.advancing.specs.Advances.{QuietFor}

-- something is due in that minute for a job of the slots before i
abbrev DueIn : Scheduler → (minute i : ℕ) → Type 0
DueIn d t i = (k : ℕ) × (k < i) × (due_at d.settings t (get_or d.jobs k unused) ≡ true)

-- the slots before i have been asked
pub record Found (d : Scheduler) (top last i : ℕ) : Type 0 where
  pub asked : Asked d top last i
  pub due : last < top → DueIn d (suc last) i

pub found_none : (d : Scheduler) (top : ℕ) → d.clock ≤ top → Found d top top 0
found_none d top l = record { asked = asked_none d top l; due = λ h. absurd (omega arith) }

pub found_more : (d : Scheduler) (top last r i : ℕ) → length d.jobs ≡ slots → i < slots → Found d top last i
    → (d.clock ≤ r) × (r ≤ last) × QuietTo d.settings d.clock r (get_or d.jobs i unused) × DueAfter d.settings r last (get_or d.jobs i unused)
    → Found d top r (i + 1)
found_more d top last r i len l f (from, few, quiet, due) = record {
  asked = asked_more d top last r i len l f.asked from few quiet;
  due = λ h.
      case (ltb r last)
      (λ x. (i, omega arith, due (ltb-true r last x)))
      (λ x. let y = ltb-false r last x in longer (subst (λ (t : ℕ). DueIn d (suc t) i) (omega arith) (f.due (omega arith))));
}
  where
    longer : DueIn d (suc r) i → DueIn d (suc r) (i + 1)
    longer w = (w.0, omega (arith, w.1), w.2)

-- an unused slot has nothing due
due_live : (S : Settings) (t : ℕ) (j : Job) → due_at S t j ≡ true → is_live_of j ≡ true
due_live S t j e = by j.state refl
  where
    by : (s : State) → j.state ≡ s → is_live_of j ≡ true
    by Unused q = true_false (due_at S t j) e (rw (ap running? q, ap cleaning? q, ap waiting? q))
    by Waiting q = ap live? q
    by Running q = ap live? q
    by Cleanup q = ap live? q

pub found_all : (d : Scheduler) (most last i : ℕ) → length d.jobs ≡ slots → slots ≤ i → d.clock + most ≤ horizon → Found d (d.clock + most) last i
    → QuietFor d most (last - d.clock)
unfolding view
found_all d most last i len l h f =
    let a = asked_all d (d.clock + most) last most i len l f.asked (omega arith) h in
    record {
      few = a.few;
      quiet = a.quiet;
      due = λ x.
          let w = f.due (omega (arith, f.asked.from)) in
          let j = get_or d.jobs w.0 unused in
          let e : suc (d.clock + (last - d.clock)) ≡ suc last = omega (arith, f.asked.from) in
          rw e (any_in (due_at d.settings (suc last)) (in_keep is_live_of (in_getD d.jobs w.0 unused (omega (arith, w.1, f.asked.to))) (due_live d.settings (suc last) j w.2)) w.2);
    }
