-- Minutes in which nothing is due and no job is over at its actual run length, as the code finds them: slot by slot.
-- Assumes nothing.
use Rattle.std.specs.Prelude.{◌≡◌, List, [], ◌∷◌, ℕ, ◌+◌, ◌-◌, ◌≤◌, ◌<◌, length, get_or, take}
use Rattle.std.proofs.Common.{sym, arith, add-one, take-suc, take_all}
use Rattle.std.proofs.Math.Path.{subst}
use Rattle.lists.specs.Lists.{All, In, all_of, all_in, all_append, keep_in}
use Rattle.scheduler.specs.declared.Job.{Job}
use Rattle.scheduler.specs.declared.Scheduler.{Scheduler}
use Rattle.scheduler.specs.Limits.{slots}
use Rattle.scheduler.specs.Jobs.{unused, is_live_of}
use Rattle.scheduler.specs.Model.{view}
use Rattle.quiet_minutes.specs.DueMinutes.{QuietTo, Quiet}
use Rattle.quiet_minutes.specs.QuietCount.{Asked, asked_none, asked_more}
use Rattle.season_rules.specs.Season.{of_ticket}

-- no end at an actual run length lies after the clock and before a minute
abbrev pub UnendedTo : List ℕ → (clock last : ℕ) → Job → Type 0
UnendedTo xs clock last j = (t : ℕ) → clock < t → t < last → j.start + of_ticket xs j.ticket ≡ t → ⊥

pub record Calm (xs : List ℕ) (d : Scheduler) (last r : ℕ) : Type 0 where
  pub from : d.clock ≤ r
  pub to : r ≤ last
  pub quiet : Quiet (view d) (r - d.clock)
  pub unended : (j : Job) → In j (view d).jobs → UnendedTo xs d.clock r j

-- ## As the code finds them

-- the slots before i have been asked
pub record Looked (xs : List ℕ) (d : Scheduler) (last until i : ℕ) : Type 0 where
  pub asked : Asked d last until i
  pub unended : All (UnendedTo xs d.clock until) (take i d.jobs)

pub looked_none : (xs : List ℕ) (d : Scheduler) (last : ℕ) → d.clock ≤ last → Looked xs d last last 0
looked_none xs d last l = record { asked = asked_none d last l; unended = tt }

pub looked_more : (xs : List ℕ) (d : Scheduler) (last until q r i : ℕ) → length d.jobs ≡ slots → i < slots → Looked xs d last until i
    → d.clock ≤ r → r ≤ q → q ≤ until → QuietTo d.settings d.clock q (get_or d.jobs i unused) → UnendedTo xs d.clock r (get_or d.jobs i unused)
    → Looked xs d last r (i + 1)
looked_more xs d last until q r i len l a f s t quiet ends = record {
  asked = asked_more d last until r i len l a.asked f (omega arith) (λ m x y. quiet m x (omega arith));
  unended =
      rw (add-one i, take-suc d.jobs i unused (omega arith))
      (all_append (UnendedTo xs d.clock r) (take i d.jobs) (get_or d.jobs i unused ∷ [])
      (all_of (UnendedTo xs d.clock r) (take i d.jobs) (λ j x m y z. all_in (UnendedTo xs d.clock until) a.unended x m y (omega arith)))
      (ends, tt));
}

module _ (xs : List ℕ) (d : Scheduler) (last until i : ℕ) (a : Looked xs d last until i) where
  -- the live jobs are among those asked
  pub looked_front : ((j : Job) → In j (view d).jobs → In j (take i d.jobs)) → Calm xs d last until
  unfolding view
  looked_front f =
      let e : d.clock + (until - d.clock) ≡ until = omega (arith, a.asked.from) in
      record {
        from = a.asked.from;
        to = a.asked.few;
        quiet = λ j x. rw e (all_in (QuietTo d.settings d.clock until) a.asked.quiet (f j x));
        unended = λ j x. all_in (UnendedTo xs d.clock until) a.unended (f j x);
      }

  pub looked_all : length d.jobs ≡ slots → slots ≤ i → Calm xs d last until
  unfolding view
  looked_all len l = looked_front (λ j x. subst (In j) (sym (take_all i d.jobs (omega arith))) (keep_in is_live_of d.jobs x).0)
