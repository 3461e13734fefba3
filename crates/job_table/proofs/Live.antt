-- The live jobs stand first, so that a search for the first slot that is not live ends at their number.
-- Assumes nothing.
use Rattle.std.proofs.Common.{arith, ◌≡◌, ◌<◌, ℕ, true, false, length, get_or, sym, ap, ◌∙◌}
use mathlib.Core.Logic.{⊎_elim}
use Rattle.std.specs.List.Sorted.{IsPartitionedBy, IsPartitionPoint}
use Rattle.std.proofs.lemmas.List.{get_or_default}
use Rattle.lists.specs.Tests.{case, le_or}
use Rattle.scheduler.specs.declared.Job.{Job}
use Rattle.scheduler.specs.declared.Scheduler.{Scheduler}
use Rattle.scheduler.specs.Jobs.{unused, is_live_of}
use Rattle.scheduler.specs.Model.{view}
use Rattle.jobs.specs.Soundness.{Sound}
use Rattle.jobs.specs.Premise.{Holds}
use Rattle.jobs.specs.Slots.{live_low, past_live, slots_all}

module _ (d : Scheduler) (h : Holds Sound d) where
  pub live_first : IsPartitionedBy is_live_of d.jobs
  live_first i j z l k a =
      let at = λ (n : ℕ) (b : n < length d.jobs). ap is_live_of (get_or_default d.jobs n z unused b) in
      case (is_live_of (get_or d.jobs i z)) (λ e. e)
      (λ e. absurd (omega (arith, past_live d h i (sym (at i (omega arith)) ∙ e), live_low d h j (sym (at j k) ∙ a))))

  pub live_end : (r : ℕ) → IsPartitionPoint (λ (j : Job). is_live_of j ≡ true) (λ (j : Job). is_live_of j ≡ false) d.jobs r → r ≡ length (view d).jobs
  live_end r p =
      let n = length (view d).jobs in
      ⊎_elim
      (λ l. ⊎_elim (λ g. omega arith)
      (λ g. absurd (omega (arith, past_live d h r (p.1 r unused (omega arith) (omega (arith, slots_all d h, h.holds.few))))))
      (le_or n r))
      (λ g. absurd (omega (arith, live_low d h n (p.0 n unused (omega arith) g))))
      (le_or r n)
