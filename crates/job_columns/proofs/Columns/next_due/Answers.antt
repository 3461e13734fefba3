-- `job_columns::Columns::next_due` meets its contract: the soonest of the places passed.
-- Assumes nothing.
use Prim.Native.Nat.{ℕ, ◌+◌, ◌<◌, min}
use native.Mathlib.Omega.{arith}
use native.Mathlib.Numerals.{add-one}
use mathlib.Core.Path.{◌≡◌, refl, ap, ◌∙◌}
use mathlib.Core.List.{List, [], ◌∷◌, map, map-append}
use lib.ListN.{length, get_or, take}
use lib.Seq.{take-suc, take_all}
use Rattle.scheduler.specs.declared.Job.{Job}
use Rattle.scheduler.specs.Jobs.{unused}
use Rattle.job_columns.specs.Columns.{column_at}
use Rattle.job_columns.specs.JobColumns.{never}
use Rattle.job_columns.specs.Searches.{soonest, soonest_last}
use Rattle.job_columns.proofs.Columns.next_due.Goals as goal

-- one place more
more : (f : Job → ℕ) (js : List Job) (i : ℕ) → i < length js
    → soonest never (map f (take (i + 1) js)) ≡ min (soonest never (map f (take i js))) (f (get_or js i unused))
more f js i l =
    rw (add-one, take-suc js i unused l, map-append f (take i js) (get_or js i unused ∷ [])) (soonest_last never (map f (take i js)) (f (get_or js i unused)))

pub loop-i-init : goal.loop-i-init
loop-i-init c = (omega arith, λ f js k n. refl)

pub loop-i-preserved : goal.loop-i-preserved
loop-i-preserved c =
    let l = c.loop-i in
    let a = c.args in (
      omega arith,
      λ f js k n.
          let h : l.i < length js = omega arith in
          let t = column_at f js a.self.now.dues k unused l.i h in
          let w = l.invariant.1 f js k n in
          let m = more f js l.i h in
          omega (arith, c.min-first.ensures),
    )

pub returns : goal.returns
returns c =
    let l = c.loop-i in
    λ f js k n. l.invariant.1 f js k n ∙ ap (λ (xs : List Job). soonest never (map f xs)) (take_all l.i js (omega arith))
