-- The passes after an early end or a withdrawal leave unused slots as they are: over the slots of a stored model they are those over its
-- jobs.
-- Assumes nothing.
use Rattle.std.specs.Prelude.{◌≡◌, Bool, ◌&&◌, eqb, length, replicate}
use Rattle.std.proofs.Math.Path.{refl, ap}
use Rattle.std.proofs.Common.{sym, ◌∙◌, arith}
use mathlib.Core.List.{List, [], ◌∷◌, ◌++◌}
use Prim.Native.Nat.{ℕ, zero, suc, ◌-◌, ◌≤◌}
use Rattle.lists.specs.Tests.{case}
use Rattle.lists.specs.Lists.{All, sum, all_of, sum_append}
use Rattle.lists.specs.Pads.{pad, sum_same}
use Rattle.spans.specs.Spans.{used}
use Rattle.scheduler.specs.declared.Job.{Job}
use Rattle.scheduler.specs.Limits.{slots}
use Rattle.scheduler.specs.Jobs.{unused}
use Rattle.scheduler.specs.declared.Settings.{Settings}
use Rattle.scheduler.specs.Table.{with_jobs}
use Rattle.scheduler.specs.Model.{Model, store, with_model_jobs}
use Rattle.conservative_rules.specs.Conservative.{spans, moved, pass, start_of, unmoved, passes, compressed}
use Rattle.conservative_laws.specs.Validity.{taken, used_jobs, used_append}
use Rattle.conservative_laws.specs.PassLoop.{moved_same}
use Rattle.conservative_laws.specs.Compression.{Compressible, unmoved_same, passed_ready}
use Rattle.conservative_plan.specs.PlannedSlots.{takes_unused}
use Rattle.conservative_plan.specs.Pass.{Replannable, compressible_jobs}

-- an unused slot takes nothing and stays unused
pass_same : (S : Settings) (now k : ℕ) (done : List Job) → pass S now done (replicate k unused) ≡ replicate k unused
unfolding pass
pass_same S now zero done = refl
pass_same S now (suc k) done = ap (λ (l : List Job). unused ∷ l) (pass_same S now k (unused ∷ done))

used_none : (S : Settings) (t k : ℕ) → used t (spans S (replicate k unused)) ≡ 0
used_none S t k = used_jobs S t (replicate k unused) ∙ sum_same slots unused (taken S t) (takes_unused S t) k

pass_length : (S : Settings) (now : ℕ) (done js : List Job) → length (pass S now done js) ≡ length js
unfolding pass
pass_length S now done [] = refl
pass_length S now done (j ∷ js) = ap suc (pass_length S now (moved S now (done ++ js) j ∷ done) js)

pass_append : (S : Settings) (now k : ℕ) (done js : List Job) → All (λ (j : Job). j.nodes ≤ S.nodes) js
    → pass S now done (js ++ replicate k unused) ≡ pass S now done js ++ replicate k unused
unfolding pass
pass_append S now k done [] a = pass_same S now k done
pass_append S now k done (j ∷ js) a =
    let same : moved S now (done ++ (js ++ replicate k unused)) j ≡ moved S now (done ++ js) j =
    moved_same S now (done ++ (js ++ replicate k unused)) (done ++ js) j a.0
    (λ t l. omega (
      arith,
      used_append S t done (js ++ replicate k unused),
      used_append S t js (replicate k unused),
      used_append S t done js,
      used_none S t k,
    )) in
    rw same (ap (λ (l : List Job). moved S now (done ++ js) j ∷ l) (pass_append S now k (moved S now (done ++ js) j ∷ done) js a.1))

-- so it is after any number of passes
module _ (S : Settings) (now k : ℕ) where
  abbrev padded : List Job → List Job
  padded js = js ++ replicate k unused

  unmoved_padded : (js ks : List Job) → length ks ≡ length js → unmoved (padded js) (padded ks) ≡ unmoved js ks
  unmoved_padded [] [] l = unmoved_same S now (replicate k unused)
  unmoved_padded [] (x ∷ ks) l = absurd (omega arith)
  unmoved_padded (j ∷ js) [] l = absurd (omega arith)
  unmoved_padded (j ∷ js) (x ∷ ks) l = ap (λ (b : Bool). eqb x.start j.start && b) (unmoved_padded js ks (omega arith))

  passes_padded : (n : ℕ) (js : List Job) → Compressible S now js → passes S now n (padded js) ≡ padded (passes S now n js)
  unfolding passes
  passes_padded zero js c = refl
  passes_padded (suc n) js c =
      let ks = pass S now [] js in
      let e : pass S now [] (padded js) ≡ padded ks = pass_append S now k [] js (all_of (λ (j : Job). j.nodes ≤ S.nodes) js (λ j i. (c.each j i).nodes_to)) in
      rw (e, unmoved_padded js ks (pass_length S now [] js))
      (case (unmoved js ks) (λ u. rw u) (λ u. rw u (passes_padded n ks (passed_ready S now js c))))

  compressed_padded : (js : List Job) → Compressible S now js → compressed S now (padded js) ≡ padded (compressed S now js)
  unfolding compressed
  compressed_padded js c =
      ap (λ (n : ℕ). passes S now (suc n) (padded js)) (omega (arith, sum_append start_of js (replicate k unused), sum_same slots unused start_of refl k))
      ∙ passes_padded (suc (sum start_of js)) js c

passes_length : (S : Settings) (now n : ℕ) (js : List Job) → length (passes S now n js) ≡ length js
unfolding passes
passes_length S now zero js = refl
passes_length S now (suc n) js =
    let ks = pass S now [] js in
    case (unmoved js ks) (λ u. rw u (pass_length S now [] js)) (λ u. rw u (passes_length S now n ks ∙ pass_length S now [] js))

pub compressed_length : (S : Settings) (now : ℕ) (js : List Job) → length (compressed S now js) ≡ length js
unfolding compressed
compressed_length S now js = passes_length S now (suc (sum start_of js)) js

pub compressed_stored : (m : Model) → Replannable m
    → with_jobs (store m) (compressed m.settings m.clock (store m).jobs) ≡ store (with_model_jobs m (compressed m.settings m.clock m.jobs))
unfolding store pad
compressed_stored m r =
    let S = m.settings in
    let now = m.clock in
    ap (with_jobs (store m))
    (compressed_padded S now (slots - length m.jobs) m.jobs (compressible_jobs m r)
    ∙ ap (λ (n : ℕ). compressed S now m.jobs ++ replicate (slots - n) unused) (sym (compressed_length S now m.jobs)))
