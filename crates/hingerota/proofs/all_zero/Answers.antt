-- `hingerota::all_zero` meets its contract: the numbers passed are 0.
-- Assumes nothing.
use mathlib.Core.Path.{◌≡◌, refl, sym, ◌∙◌}
use mathlib.Core.Bool.{false}
use mathlib.Core.List.{List}
use Prim.Native.Nat.{ℕ, ◌+◌, ◌<◌}
use native.Mathlib.Numerals.{add-one}
use native.Mathlib.Omega.{arith}
use lib.ListN.{length, get_or, drop, drop_of_length-le}
use lib.Seq.{drop-cons}
use borrow.Author.Tests.{eq-eqb, ne_eqb}
use Rattle.lists.specs.Every.{every}
use Rattle.hingerota.specs.Checks.{is_zero}
use Rattle.hingerota.proofs.all_zero.Goals as goal

one_more : (xs : List ℕ) (i : ℕ) → i < length xs → get_or xs i 0 ≡ 0 → every is_zero (drop i xs) ≡ every is_zero (drop (i + 1) xs)
one_more xs i l e = rw (add-one, drop-cons xs i 0 l, eq-eqb (get_or xs i 0) 0 e)

not-zero : (xs : List ℕ) (i : ℕ) → i < length xs → (get_or xs i 0 ≡ 0 → ⊥) → every is_zero (drop i xs) ≡ false
not-zero xs i l n = rw (drop-cons xs i 0 l, ne_eqb (get_or xs i 0) 0 n)

pub loop-n-init : goal.loop-n-init
loop-n-init c = (omega arith, refl)

pub returns-then-n-ne0 : goal.returns-then-n-ne0
returns-then-n-ne0 c = let l = c.loop-n in sym (l.invariant.1 ∙ not-zero _ l.n-index c.loop-n-test.true c.if-n-ne0.true)

pub loop-n-preserved : goal.loop-n-preserved
loop-n-preserved c = let l = c.loop-n in (omega arith, l.invariant.1 ∙ one_more _ l.n-index c.loop-n-test.true c.if-n-ne0.false)

pub returns : goal.returns
returns c = let l = c.loop-n in sym (l.invariant.1 ∙ rw (drop_of_length-le _ c.loop-n-test.false))
