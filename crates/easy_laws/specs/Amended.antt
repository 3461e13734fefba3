-- Corrected orders in place: where a waiting job has shrunk, no shadow comes later, and every job is still on course for its bound, its forecast
-- and the last minute.
-- Assumes nothing.
use Prim.Native.Nat.{ℕ, ◌-◌, ◌*◌, ◌≤◌}
use Rattle.std.proofs.Common.{arith, sym, ◌∙◌}
use Rattle.std.specs.Prelude.{◌≡◌, Bool, ◌∷◌, map}
use Rattle.std.proofs.Math.Path.{ap}
use Rattle.std.proofs.Math.Dec.{leb}
use Rattle.lists.specs.Tests.{case}
use Rattle.lists.specs.Lists.{sum, In, in_map, sum_map, sum_cong, keep_map, keep_cong}
use Rattle.lists.specs.Least.{least}
use Rattle.scheduler.specs.declared.Job.{Job}
use Rattle.scheduler.specs.declared.Settings.{Settings}
use Rattle.scheduler.specs.Jobs.{is_waiting, held}
use Rattle.scheduler.specs.Settings.{unit}
use Rattle.scheduler.specs.States.{waiting?}
use Rattle.scheduler.specs.Model.{Model}
use Rattle.scheduler.specs.declared.Amendment.{Amendment}
use Rattle.scheduler.specs.Amending.{names, supersede, in_place_of}
use Rattle.jobs.specs.Soundness.{Sound}
use Rattle.jobs.specs.Amended.{InRange, Shrinks, named_waits, kept_ticket, kept_state, kept_held, fewer_nodes}
use Rattle.easy_rules.specs.Easy.{queue, free, freed, avail, shadow}
use Rattle.easy_laws.specs.Settling.{shadow_from, shadow_min, shadow_holds, idle}
use Rattle.easy_laws.specs.Course.{before, ahead, OnCourse, head_of, head_in}

-- fewer nodes are there no later
pub shadow_fewer : (m : Model) (n k : ℕ) → Sound m → n ≤ k → k ≤ m.settings.nodes → shadow m n ≤ shadow m k
shadow_fewer m n k s l h = shadow_min m n (shadow m k) (omega (arith, shadow_holds m k s h)) (shadow_from m k)

-- ## Nothing but the waiting job has changed

module _ (m : Model) (a : Amendment) where
  abbrev S : Settings
  S = m.settings

  abbrev n : Model
  n = in_place_of m a

  sum_kept : (f : Job → ℕ) → ((j : Job) → f (supersede a j) ≡ f j) → sum f n.jobs ≡ sum f m.jobs
  sum_kept f g = sum_map f (supersede a) m.jobs ∙ sum_cong (λ (j : Job). f (supersede a j)) f m.jobs (λ j i. g j)

  kept_freed : (t : ℕ) (j : Job) → freed S t (supersede a j) ≡ freed S t j
  kept_freed t j = case (names a j) (λ e. rw (e, idle j (named_waits a j e))) (λ e. rw e)

  pub kept_free : free n ≡ free m
  kept_free = ap (λ (k : ℕ). S.nodes - k) (sum_kept held (kept_held a))

  pub kept_avail : (t : ℕ) → avail n t ≡ avail m t
  kept_avail t = omega (arith, kept_free, sum_kept (freed S t) (kept_freed t))

  pub kept_shadow : (k : ℕ) → shadow n k ≡ shadow m k
  unfolding shadow
  kept_shadow k = ap (λ (p : ℕ → Bool). least p (unit S) m.clock) (λ i t. leb k (kept_avail t i))

  kept_before : (u : ℕ) (j : Job) → before u (supersede a j) ≡ before u j
  kept_before u j = rw (kept_state a j, kept_ticket a j)

  pub kept_ahead : (u : ℕ) → ahead u n.jobs ≡ ahead u m.jobs
  kept_ahead u = sum_kept (before u) (kept_before u)

  pub kept_queue : queue n.jobs ≡ map (supersede a) (queue m.jobs)
  kept_queue =
      keep_map is_waiting (supersede a) m.jobs
      ∙ ap (map (supersede a)) (keep_cong (λ (j : Job). is_waiting (supersede a j)) is_waiting m.jobs (λ j i. ap waiting? (kept_state a j)))

-- ## The job has shrunk

module _ (m : Model) (a : Amendment) (r : InRange m.settings a) (g : Shrinks m a) where
  -- the head's shadow comes no later
  pub head_sooner : (h : Job) → In h m.jobs → Sound m → shadow (in_place_of m a) (supersede a h).nodes ≤ shadow m h.nodes
  head_sooner h i s =
      omega (
        arith,
        kept_shadow m a (supersede a h).nodes,
        shadow_fewer m (supersede a h).nodes h.nodes s (fewer_nodes m.settings a h (g h i)) (s.each h i).nodes_to,
      )

  -- a job on course for b is still so: "keeps .. its intake minute, r and forecast", and all of these are kept
  pub inplace_course : (u b : ℕ) → Sound m → OnCourse m u b → OnCourse (in_place_of m a) u b
  inplace_course u b s o =
      let w = o.waits in
      record {
        waits = record {
          job = supersede a w.job;
          isin = in_map (supersede a) w.isin;
          waits = ap waiting? (kept_state a w.job) ∙ w.waits;
          named = kept_ticket a w.job ∙ w.named;
        };
        by = λ k q e.
            let h = head_of m u w in
            let i = head_in m h.job h.later h.first in
            let p : supersede a h.job ∷ map (supersede a) h.later ≡ k ∷ q = sym (rw h.first at (kept_queue m a)) ∙ e in
            let z : supersede a h.job ≡ k = cc in
            omega (
              arith,
              ap (λ (x : Job). shadow (in_place_of m a) x.nodes) z,
              head_sooner h.job i.0 s,
              ap (λ (x : ℕ). x * unit m.settings) (kept_ahead m a u),
              o.by h.job h.later h.first,
            );
      }
