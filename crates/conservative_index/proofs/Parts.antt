-- A part of a list of numbers: its length and its places.
-- Assumes nothing.
use Prim.Native.Nat.{ℕ, ◌+◌, ◌≤◌, ◌<◌}
use mathlib.Core.Path.{◌≡◌}
use mathlib.Core.List.{List}
use lib.ListN.{length, get_or}
use borrow.Rule.Slice.PartMut.{mid_of}
use Rattle.std.proofs.Common.{rules}
use Rattle.std.proofs.lemmas.List.{places}

-- k places from a on
module _ (xs : List ℕ) (a k : ℕ) where
  pub part_long : a + k ≤ length xs → length (mid_of a k xs) ≡ k
  part_long h = search (rules, places)

  pub part_at : (j : ℕ) → j < k → get_or (mid_of a k xs) j 0 ≡ get_or xs (a + j) 0
  part_at j l = search (rules, places)

  -- where the part has a place
  pub part_here : (j : ℕ) → j < length (mid_of a k xs) → get_or (mid_of a k xs) j 0 ≡ get_or xs (a + j) 0
  part_here j l = search (rules, places)
