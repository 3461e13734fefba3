-- A tick with the points kept beside the model: what is held past its minute stays held.
-- Assumes nothing.
use Rattle.std.specs.Prelude.{ℕ, suc, ◌+◌, ◌≤◌, ◌<◌, ◌≡◌, List, map}
use Rattle.std.proofs.Common.{arith, add-one, sym, subst, lt-ltb, le-ltb}
use Rattle.scheduler.specs.Limits as limit
use Rattle.scheduler.specs.Table.{remaining}
use Rattle.scheduler.specs.Model.{Model, ending}
use Rattle.scheduler.specs.Answers.{verdict}
use Rattle.scheduler.specs.Refusals.{tick_refusal}
use Rattle.history.specs.Calls.{tick}
use Rattle.conservative_table.specs.ProfileLists.{IsProfile, Advancing, exact_same}
use Rattle.conservative_rules.specs.Conservative.{spans, turned, ticked, advanced, call}
use Rattle.conservative_laws.specs.Validity.{Valid}
use Rattle.conservative_laws.specs.Remaining.{ticked_used}
use Rattle.conservative_kept.specs.Beside.{few_spans, ends_within}

module _ (m : Model) where
  abbrev next : Model
  next = record {
    settings = m.settings;
    clock = suc m.clock;
    next = m.next;
    jobs = map (turned (suc m.clock)) (remaining m.settings (suc m.clock) (ending m) m.jobs);
  }

  next_is : m.clock < limit.horizon → (call m tick).model ≡ next
  unfolding call ticked advanced tick_refusal verdict
  next_is l = rw (le-ltb limit.horizon (suc m.clock) (omega arith))

  -- past the last minute nothing moves
  pub tick_stays_put : limit.horizon ≤ m.clock → (call m tick).model ≡ m
  unfolding call tick_refusal verdict
  tick_stays_put l = rw (lt-ltb limit.horizon (suc m.clock) (omega arith))

  -- the clock can move on
  pub advances_to_lem : Valid m → {n : ℕ} {ms fs : List ℕ} → IsProfile m.settings.nodes (spans m.settings m.jobs) m.clock n ms fs
      → (t : ℕ) → m.clock ≤ t → t ≤ limit.horizon → Advancing ms fs n t
  advances_to_lem v p t l h = record {
    machine = m.settings.nodes;
    spans = spans m.settings m.jobs;
    now = m.clock;
    profile = p;
    few = few_spans v.sound p;
    clock = v.sound.clock_to;
    ends = ends_within v.sound;
    later = l;
    until = h;
  }

  -- over minutes in which nothing else changes
  pub waited_profile : (v : Valid m) {n : ℕ} {ms fs : List ℕ} (p : IsProfile m.settings.nodes (spans m.settings m.jobs) m.clock n ms fs)
      (t : ℕ) (l : m.clock ≤ t) (h : t ≤ limit.horizon) {r : ℕ} {ms' fs' : List ℕ}
      → ((k : Advancing ms fs n t) → IsProfile k.machine k.spans t r ms' fs')
      → IsProfile m.settings.nodes (spans m.settings m.jobs) t r ms' fs'
  unfolding advances_to_lem
  waited_profile v p t l h f = f (advances_to_lem v p t l h)

  module _ (v : Valid m) {n : ℕ} {ms fs : List ℕ} (p : IsProfile m.settings.nodes (spans m.settings m.jobs) m.clock n ms fs)
      (l : m.clock < limit.horizon) where
    pub advances : Advancing ms fs n (m.clock + 1)
    advances = advances_to_lem v p (m.clock + 1) (omega arith) (omega arith)

    pub ticked_profile : {r : ℕ} {ms' fs' : List ℕ}
        → ((k : Advancing ms fs n (m.clock + 1)) → IsProfile k.machine k.spans (m.clock + 1) r ms' fs')
        → let k = (call m tick).model in IsProfile k.settings.nodes (spans k.settings k.jobs) k.clock r ms' fs'
    ticked_profile {r} {ms'} {fs'} f =
        subst (λ (k : Model). IsProfile k.settings.nodes (spans k.settings k.jobs) k.clock r ms' fs') (sym (next_is l))
        (exact_same (spans m.settings next.jobs)
        (subst (λ (t : ℕ). IsProfile m.settings.nodes (spans m.settings m.jobs) t r ms' fs') (add-one m.clock)
        (waited_profile v p (m.clock + 1) (omega arith) (omega arith) f))
        (λ t a. sym (ticked_used m.settings (suc m.clock) t a m.jobs)))
