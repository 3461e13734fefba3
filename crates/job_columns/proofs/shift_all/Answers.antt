-- `job_columns::shift_all` meets its contract: the first k places have left.
-- Assumes nothing.
use Prim.Native.Nat.{ℕ, ◌+◌, ◌-◌, ◌≤◌, ◌<◌}
use native.Mathlib.Omega.{arith}
use native.Mathlib.Numerals.{add-one}
use mathlib.Core.Path.{◌≡◌, ap, ◌∙◌}
use mathlib.Core.List.{List}
use lib.ListN.{length, get_or, take}
use lib.Seq.{take-suc, take-take, get_or-take, length-take-le}
use Rattle.lists.specs.Pads.{pad}
use Rattle.scheduler.specs.Limits.{slots}
use Rattle.job_columns.specs.Columns.{Whole}
use Rattle.job_columns.specs.Removal.{remove_at, removes, Places, removes_last, removes_length, places_take, places_at}
use Rattle.job_columns.proofs.shift_all.Goals as goal

-- of the first places of a lent list
module _ (gone : List ℕ) (live count k : ℕ) (w : Whole gone) (few : count ≤ slots) (p : Places live (take count gone)) (h : k < count) where
  place : get_or gone k 0 + k < live
  place =
      omega (arith, places_at live (take count gone) k p (omega (arith, length-take-le count gone (omega arith))), get_or-take count gone k 0 h)

  left : (xs : List ℕ) → length xs ≡ live → length (removes (take k gone) xs) ≡ live - k
  left xs n =
      let q : Places live (take k gone) = rw (take-take k count gone (omega arith)) at (places_take live (take count gone) k p) in
      omega (arith, removes_length (take k gone) xs (rw n q), length-take-le k gone (omega arith))

  more : (xs : List ℕ) → removes (take (k + 1) gone) xs ≡ remove_at (get_or gone k 0) (removes (take k gone) xs)
  more xs = rw (add-one, take-suc gone k 0 (omega arith)) (removes_last (take k gone) (get_or gone k 0) xs)

module _ (gone : List ℕ) (live count : ℕ) (r : (live ≤ slots) × (count ≤ live) × Whole gone × Places live (take count gone)) (k : ℕ) (h : k < count) where
  here : get_or gone k 0 + k < live
  here = place gone live count k r.2 (omega (arith, r.0, r.1)) r.3 h

pub loop-k-init : goal.loop-k-init
loop-k-init c = (omega arith, λ xs e l. e)

pub overflow_cast-gone : goal.overflow_cast-gone
overflow_cast-gone c =
    let l = c.loop-k in
    omega (arith, here c.args.gone.now c.args.live c.args.count c.requires l.k (omega arith), c.requires.0)

pub shift-requires : goal.shift-requires
shift-requires c =
    let l = c.loop-k in
    (omega (arith, here c.args.gone.now c.args.live c.args.count c.requires l.k (omega arith)), omega (arith, c.requires.0))

pub loop-k-preserved : goal.loop-k-preserved
loop-k-preserved c =
    let l = c.loop-k in
    let a = c.args in
    let h : l.k < a.count = omega arith in
    let few : a.count ≤ slots = omega (arith, c.requires.0, c.requires.1) in (
      omega arith,
      λ xs e n.
          rw (more a.gone.now a.live a.count l.k c.requires.2 few c.requires.3 h xs)
          (c.shift.ensures (removes (take l.k a.gone.now) xs) (l.invariant.1 xs e n)
          (left a.gone.now a.live a.count l.k c.requires.2 few c.requires.3 h xs n)),
    )

pub returns : goal.returns
returns c =
    let l = c.loop-k in
    let a = c.args in
    let end : l.k ≡ a.count = omega arith in
    λ xs e n. l.invariant.1 xs e n ∙ ap (λ (m : ℕ). pad slots 0 (removes (take m a.gone.now) xs)) end
