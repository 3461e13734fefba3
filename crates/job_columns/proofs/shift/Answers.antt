-- `job_columns::shift` meets its contract.
-- Assumes nothing.
use Prim.Native.Nat.{ℕ, zero, suc, ◌+◌, ◌-◌, ◌≤◌, ◌<◌}
use native.Mathlib.Omega.{arith}
use mathlib.Core.Path.{◌≡◌, ap, ◌∙◌}
use mathlib.Core.List.{List, [], ◌∷◌, ◌++◌}
use lib.ListN.{length, get_or, set, take}
use Rattle.std.proofs.Common.{drop, drop-cons, length-take-le, add-one}
use Rattle.std.proofs.lemmas.List.{set_at}
use Rattle.std.specs.List.{copy_within}
use Rattle.lists.specs.Pads.{pad}
use Rattle.scheduler.specs.Limits.{slots}
use Rattle.job_columns.specs.Removal.{remove_at, removed_pad}
use Rattle.job_columns.proofs.shift.Goals as goal

-- those after the place move up, and the last place is written
moved_up : (xs : List ℕ) (at n : ℕ) → at + n < length xs
    → set ((take at xs ++ take n (drop (suc at) xs)) ++ drop (at + n) xs) (at + n) 0 ≡ remove_at at (take (suc (at + n)) xs) ++ (0 ∷ drop (suc (at + n)) xs)
moved_up [] at n l = absurd (omega arith)
moved_up (x ∷ xs) zero n l =
    let z : 0 + n ≡ n = omega arith in
    rw (z, drop-cons (x ∷ xs) n 0 (omega arith)) (set_at (take n xs) (get_or (x ∷ xs) n 0) (drop n xs) 0 n (length-take-le n xs (omega arith)))
moved_up (x ∷ xs) (suc at) n l =
    let e : suc at + n ≡ suc (at + n) = omega arith in
    rw e (ap (λ (ys : List ℕ). x ∷ ys) (moved_up xs at n (omega arith)))

moved : (list xs : List ℕ) (at live : ℕ) → list ≡ pad slots 0 xs → length xs ≡ live → (at < live) × (live ≤ slots) → length list ≡ slots
    → set (copy_within list (at + 1) live at) (live - 1) 0 ≡ pad slots 0 (remove_at at xs)
moved list xs at live e n r w =
    let k = live - suc at in
    let last : live - 1 ≡ at + k = omega (arith, r) in
    let end : suc (at + k) ≡ live = omega (arith, r) in
    rw (add-one, last) (moved_up list at k (omega (arith, r)) ∙ rw (end) (removed_pad slots 0 at live list xs e n r.0 r.1))

pub returns : goal.returns
returns c =
    λ xs e n.
    rw c.copy_within.ensures.after (moved c.args.list.now xs c.args.at c.args.live e n c.requires c.told-list)
