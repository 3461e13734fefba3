-- Laws of rows: one row more, and how many bytes rows have at most.
-- Assumes nothing.
use Rattle.std.specs.Prelude.{◌≡◌, ℕ, ◌+◌, ◌*◌, ◌≤◌, ◌<◌, length, get_or, take}
use Rattle.std.proofs.Math.Path.{refl}
use Rattle.std.proofs.Common.{ap, mul-suc, mul-le-mul_left, add-one, arith}
use mathlib.Core.List.{List, [], ◌∷◌, ◌++◌, append_assoc, append-nil}
use Rattle.std.proofs.Math.Seq.{take-suc}
use Rattle.text.specs.Numbers.{decimal_of}
use Rattle.script_rules.specs.Writing.{row, rows_of}

module _ (w : List ℕ) (m : ℕ) where
  rows_append : (xs ys : List ℕ) → rows_of w m (xs ++ ys) ≡ rows_of w m xs ++ rows_of w m ys
  unfolding rows_of
  rows_append [] ys = refl
  rows_append (x ∷ xs) ys = rw (rows_append xs ys, append_assoc)

  pub rows_none : (ts : List ℕ) → rows_of w m (take 0 ts) ≡ []
  unfolding rows_of
  rows_none ts = refl

  pub rows_more : (ts : List ℕ) (i : ℕ) → i < length ts
      → rows_of w m (take (i + 1) ts) ≡ rows_of w m (take i ts) ++ row w (decimal_of (get_or ts i 0)) (decimal_of m)
  unfolding rows_of
  rows_more ts i h =
      rw (add-one, take-suc ts i 0 h, rows_append)
      (ap (λ (l : List ℕ). rows_of w m (take i ts) ++ l) (append-nil (row w (decimal_of (get_or ts i 0)) (decimal_of m))))

-- of rows with at most l bytes each: one more
pub one_row : (l i n : ℕ) → i < n → l * i + l ≤ l * n
one_row l i n h = omega (arith, mul-suc l i, mul-le-mul_left l h)
