-- For code: the pass after an early end or a withdrawal, as a loop over the indices of an array, with the others in any order.
-- Assumes nothing.
use Rattle.std.specs.Prelude.{ℕ, zero, suc, ◌+◌, ◌≤◌, ◌≡◌, cond, get_or, take, drop, set}
use Rattle.std.proofs.Common.{arith, sym, ◌∙◌}
use Rattle.std.proofs.Math.Path.{refl, ap}
use mathlib.Core.List.{List, [], ◌∷◌, ◌++◌, append_assoc}
use Rattle.std.proofs.Math.ListN.{length, length-append}
use Rattle.std.proofs.Math.Seq.{take-append_seam, drop-append-add, get_or-append_seam, set-append_seam, append_snoc}
use Rattle.lists.specs.Lists.{In, here, there}
use Rattle.spans.specs.Spans.{used}
use Rattle.spans.proofs.EarliestStart.{earliest_same}
use Rattle.scheduler.specs.declared.Job.{Job}
use Rattle.scheduler.specs.Jobs.{is_waiting}
use Rattle.scheduler.specs.declared.Settings.{Settings}
use Rattle.scheduler.specs.Settings.{hold_time}
use Rattle.conservative_rules.specs.Conservative.{spans, placed, moved, pass}
use Rattle.conservative_laws.specs.Validity.{used_append}

-- the jobs of the two lists take the same nodes in every minute from now on, as they do in any other order
abbrev pub Same : Settings → ℕ → List Job → List Job → Type 0
Same S now xs ys = (t : ℕ) → now ≤ t → used t (spans S xs) ≡ used t (spans S ys)

-- a job moves to the same minute
pub moved_same : (S : Settings) (now : ℕ) (xs ys : List Job) (j : Job) → j.nodes ≤ S.nodes → Same S now xs ys → moved S now xs j ≡ moved S now ys j
moved_same S now xs ys j l s =
    ap (λ (d : ℕ). cond (is_waiting j) (placed now d j) j) (earliest_same S.nodes (spans S xs) (spans S ys) now j.nodes (hold_time S j.estimate) l s)

-- the turn of the job at index i: it is moved with all others as they are
abbrev pub turn : Settings → ℕ → Job → ℕ → List Job → List Job
turn S now z i js = set js i (moved S now (take i js ++ drop (i + 1) js) (get_or js i z))

-- the turns of k jobs from index i on
unfoldable pub loop : Settings → ℕ → Job → ℕ → ℕ → List Job → List Job
loop S now z zero i js = js
loop S now z (suc k) i js = loop S now z k (i + 1) (turn S now z i js)

module _ (S : Settings) (now : ℕ) (z : Job) where
  turn_is : (pre : List Job) (j : Job) (js : List Job) → turn S now z (length pre) (pre ++ j ∷ js) ≡ (pre ++ (moved S now (pre ++ js) j ∷ [])) ++ js
  turn_is pre j js =
      rw (take-append_seam pre (j ∷ js), drop-append-add pre (j ∷ js) 1, get_or-append_seam pre j js z, set-append_seam pre j js (moved S now (pre ++ js) j))
      (sym (append_snoc pre (moved S now (pre ++ js) j) js))

  -- `pre` are those that have had their turn, in order; `done` are the same in another order
  loop_is : (pre done js : List Job) → ((j : Job) → In j js → j.nodes ≤ S.nodes) → Same S now pre done
      → loop S now z (length js) (length pre) (pre ++ js) ≡ pre ++ pass S now done js
  unfolding loop pass
  loop_is pre done [] f s = refl
  loop_is pre done (j ∷ js) f s =
      let k : Job = moved S now (done ++ js) j in
      let e : moved S now (pre ++ js) j ≡ k =
      moved_same S now (pre ++ js) (done ++ js) j (f j (here refl)) (λ t a. omega (arith, s t a, used_append S t pre js, used_append S t done js)) in
      let n : length pre + 1 ≡ length (pre ++ (k ∷ [])) = omega (arith, length-append pre (k ∷ [])) in
      ap (λ (l : List Job). loop S now z (length js) (length pre + 1) l) (turn_is pre j js ∙ ap (λ (x : Job). (pre ++ (x ∷ [])) ++ js) e)
      ∙ ap (λ (i : ℕ). loop S now z (length js) i ((pre ++ (k ∷ [])) ++ js)) n
      ∙ loop_is (pre ++ (k ∷ [])) (k ∷ done) js (λ x i. f x (there i)) (λ t a. omega (arith, s t a, used_append S t pre (k ∷ [])))
      ∙ append_assoc pre (k ∷ []) (pass S now (k ∷ done) js)

  pub pass_as_loop : (js : List Job) → ((j : Job) → In j js → j.nodes ≤ S.nodes) → loop S now z (length js) 0 js ≡ pass S now [] js
  pass_as_loop js f = loop_is [] [] js f (λ t a. refl)
