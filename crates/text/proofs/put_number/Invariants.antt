-- `text::put_number` meets its contract: with the digits of what is left before those written, the number stands there.
-- Assumes nothing.
use mathlib.Core.Path.{◌≡◌}
use mathlib.Core.List.{List}
use Prim.Native.Nat.{ℕ, ◌+◌, ◌<◌}
use lib.ListN.{length}
use lib.Seq.{sets}
use Rattle.text.specs.Numbers.{decimal_of}
use Rattle.text.proofs.put_number.Given as goal

pub record Inv (out₀ : List ℕ) (at v : ℕ) (out : List ℕ) (rest i : ℕ) : Type 0 where
  pub size : length out ≡ length out₀
  pub place : i + 1 ≡ at + length (decimal_of rest)
  pub inside : i < length out₀
  pub written : sets out at (decimal_of rest) ≡ sets out₀ at (decimal_of v)

abbrev pub invariant-loop-rest : goal.invariant-loop-rest
invariant-loop-rest l = Inv l.initial.out l.at l.v l.out l.rest l.i

abbrev pub decreases-loop-rest : goal.decreases-loop-rest
decreases-loop-rest l = l.rest
