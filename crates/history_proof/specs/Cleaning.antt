-- A job in cleanup stays so, whatever calls come, until its nodes are free.
-- Assumes nothing.
use Rattle.std.specs.Prelude.{◌≡◌, refl, Bool, true, false, cond, map, ℕ, ◌+◌, ◌≤◌, ◌<◌}
use Rattle.std.proofs.Common.{sym, ap, subst, ◌∙◌, arith, lt-ltb}
use Rattle.lists.specs.Tests.{case}
use Rattle.lists.specs.Lists.{In, in_left, in_map, in_keep}
use Rattle.scheduler.specs.declared.Kind.{Kind}
use Rattle.scheduler.specs.declared.State.{State}
use Rattle.scheduler.specs.declared.State.TheVariants.{Unused, Waiting, Running, Cleanup}
use Rattle.scheduler.specs.States.{cleaning?}
use Rattle.scheduler.specs.Settings.{cleanup}
use Rattle.scheduler.specs.Model.{Model}
use Rattle.history.specs.Calls.{Call, Rules}
use Rattle.history.specs.News.{News, clock_after}
use Rattle.history.specs.Book.{Fate, waiting, running, cleaning, ended, withdrawn, fate_after, waits}
use Rattle.history.specs.Beginning.{fate_by}
use Rattle.history_proof.specs.Obligations.{JobShown, shown, is_live_of, live, remark, comers, said, Lawful}
use Rattle.history_proof.specs.Departures.{shown_with, remark_started}

-- its nodes are not free yet
abbrev pub cleans : Fate → Bool
cleans waiting = false
cleans (running s) = false
cleans (cleaning s e) = true
cleans (ended s) = false
cleans (withdrawn w) = false

pub cleans_job : (s : State) (b n : ℕ) → cleans (fate_by s b n) ≡ cleaning? s
cleans_job Unused b n = refl
cleans_job Waiting b n = refl
cleans_job Running b n = refl
cleans_job Cleanup b n = refl

-- no call sets the clock back
clock_up : (e : News) (c : ℕ) → c ≤ clock_after e c
clock_up e c = case e.passed (λ q. rw q (omega arith)) (λ q. rw q (omega arith))

module _ {k : Kind} {R : Rules} {Valid : Model → Type 0} {OnCourse : Model → ℕ → ℕ → Type 0} (L : Lawful k R Valid OnCourse)
    (m : Model) (c : Call) (v : Valid m) where
  pub clock_rises : m.clock ≤ (R m c).model.clock
  clock_rises = omega (arith, L.clock m c v, clock_up (said R m c) m.clock)

  -- who lives on is there after the call, as it says
  pub lives_shown : (x : JobShown) → In x (map shown m.jobs)
      → is_live_of (remark (cleanup (R m c).model.settings) (R m c).model.clock (said R m c) x) ≡ true
      → In (remark (cleanup (R m c).model.settings) (R m c).model.clock (said R m c) x) (map shown (R m c).model.jobs)
  lives_shown x i l =
      let r = remark (cleanup (R m c).model.settings) (R m c).model.clock (said R m c) in
      subst (In (r x)) (sym (L.tells m c v)) (in_keep is_live_of (in_map r (in_left (comers (said R m c)) i)) l)

  -- where the clock is below its end and the cleanup, it is there after the call
  pub cleaning_stays : (x : JobShown) (s n : ℕ) → x.fate ≡ cleaning s n → (R m c).model.clock < n + cleanup m.settings
      → In x (map shown m.jobs) → In x (map shown (R m c).model.jobs)
  cleaning_stays x s n f l i =
      let m' = (R m c).model in
      let p = cleanup m'.settings in
      let q : p ≡ cleanup m.settings = ap cleanup (L.settings m c v) in
      let fate : fate_after p m'.clock (said R m c) x.ticket x.fate ≡ x.fate =
      ap (fate_after p m'.clock (said R m c) x.ticket) f
      ∙ ap (λ (b : Bool). cond b (cleaning s n) (ended s)) (lt-ltb m'.clock (n + p) (omega arith))
      ∙ sym f in
      let same : remark p m'.clock (said R m c) x ≡ x = remark_started p m'.clock (said R m c) x (ap waits f) ∙ shown_with x _ fate in
      subst (λ (y : JobShown). In y (map shown m'.jobs)) same (lives_shown x i (ap live (fate ∙ f)))
