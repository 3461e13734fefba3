-- The slots of a scheduler that holds a sound model.
-- Assumes nothing.
use Rattle.std.specs.Prelude.{ℕ, ◌-◌, ◌≤◌, ◌<◌, ◌≡◌, true, false, leb, take, replicate}
use native.Mathlib.Omega.{arith}
use Rattle.std.proofs.Common.{sym, subst, ◌∙◌}
use Rattle.std.proofs.Math.Path.{ap}
use mathlib.Core.List.{List}
use Rattle.std.proofs.Math.ListN.{length, get_or, get_or-append}
use Rattle.std.proofs.Math.Seq.{take-append_seam}
use borrow.Author.Tests.{leb-true, leb-false}
use Rattle.lists.specs.Tests.{case, true_false}
use Rattle.lists.specs.Lists.{All, In, all_of, all_at, in_getD}
use Rattle.lists.specs.Pads.{pad, all_pad, pad_past}
use Rattle.scheduler.specs.declared.Job.{Job}
use Rattle.scheduler.specs.declared.Scheduler.{Scheduler}
use Rattle.scheduler.specs.declared.Settings.{Settings}
use Rattle.scheduler.specs.Limits.{horizon, slots}
use Rattle.scheduler.specs.Jobs.{unused, is_live_of, is_cleaning}
use Rattle.scheduler.specs.Settings.{longest}
use Rattle.scheduler.specs.Model.{Model, store, view, store_length}
use Rattle.jobs.specs.Soundness.{Sound, start_until}
use Rattle.jobs.specs.Premise.{Holds}

-- its start and its end are minutes of the clock
abbrev pub Low : Job → Type 0
Low j = (j.start ≤ horizon) × (j.end ≤ horizon)

pub sound_low : (m : Model) → Sound m → (j : Job) → In j m.jobs → Low j
sound_low m s j i =
    let f = s.each j i in (
      omega (arith, f.ends, start_until m.settings m.clock j f),
      case (is_cleaning j) (λ c. omega (arith, f.cleaned c, s.clock_to)) (λ c. omega (arith, f.no_end c)),
    )

-- its estimate is no longer than the longest, and if it is in cleanup, its end is not before its start
abbrev pub Orderly : Settings → Job → Type 0
Orderly S j = (j.estimate ≤ longest S) × (is_cleaning j ≡ true → j.start ≤ j.end)

module _ (d : Scheduler) (h : Holds Sound d) where
  pub slots_are : d.jobs ≡ (store (view d)).jobs
  slots_are = ap (λ (e : Scheduler). e.jobs) h.stored

  pub slots_all : length d.jobs ≡ slots
  slots_all = ap length slots_are ∙ store_length (view d) h.holds.few

  -- what holds of an unused slot and of every live job holds of every slot
  all_slots : (P : Job → Type 0) → P unused → ((j : Job) → In j (view d).jobs → P j) → (i : ℕ) → i < length d.jobs → P (get_or d.jobs i unused)
  unfolding store
  all_slots P u each i l = all_at P d.jobs i unused (subst (All P) (sym slots_are) (stored (view d) each)) l
    where
      stored : (m : Model) → ((j : Job) → In j m.jobs → P j) → All P (store m).jobs
      stored m f = all_pad slots unused P m.jobs u (all_of P m.jobs f)

  -- no start and no end passes the last minute
  pub slots_low : (i : ℕ) → i < length d.jobs → Low (get_or d.jobs i unused)
  slots_low = all_slots Low (omega arith) (λ j x. sound_low (view d) h.holds j x)

  pub slots_orderly : (i : ℕ) → i < length d.jobs → Orderly d.settings (get_or d.jobs i unused)
  unfolding view
  slots_orderly =
      all_slots (Orderly d.settings) (omega arith, λ c. omega arith) (λ j x. let f = h.holds.each j x in (f.estimate_to, λ c. (f.cleaned c).0))

  abbrev L : List Job
  L = (view d).jobs

  -- a live slot stands among the live jobs
  pub live_low : (i : ℕ) → is_live_of (get_or d.jobs i unused) ≡ true → i < length L
  unfolding store pad
  live_low i w =
      case (leb (length L) i)
      (λ e. true_false (is_live_of (get_or d.jobs i unused)) w
      (ap is_live_of (ap (λ (xs : List Job). get_or xs i unused) slots_are ∙ pad_past slots unused L i (leb-true (length L) i e))))
      (λ e. leb-false (length L) i e)

  -- a slot that is not live stands past them
  pub past_live : (i : ℕ) → is_live_of (get_or d.jobs i unused) ≡ false → length L ≤ i
  unfolding store pad
  past_live i e =
      case (leb (length L) i) (λ q. leb-true (length L) i q) (λ q.
      let l : i < length L = leb-false (length L) i q in
      true_false (is_live_of (get_or d.jobs i unused))
      (ap is_live_of (ap (λ (js : List Job). get_or js i unused) slots_are ∙ get_or-append L (replicate (slots - length L) unused) unused i l)
      ∙ (h.holds.each (get_or L i unused) (in_getD L i unused l)).is_live)
      e)

  -- the live jobs stand first
  pub first_live : take (length L) d.jobs ≡ L
  unfolding store pad
  first_live = ap (take (length L)) slots_are ∙ take-append_seam L (replicate (slots - length L) unused)
