-- A lent list whose first elements are written, one after another.
-- Assumes nothing.
use Rattle.std.specs.Prelude.{◌≡◌, refl, ℕ, zero, suc, ◌<◌, ◌≤◌, List, [], ◌∷◌, ◌++◌, length, drop, set}
use Rattle.std.proofs.Common.{ap, arith}
use Rattle.lent_lemmas.specs.Lists.{tabulate}

-- the first n elements are f 0, f 1, .., and the rest are as they were
abbrev pub filled : {X : Type 0} → ℕ → (ℕ → X) → List X → List X
filled n f ys = tabulate n f ++ drop n ys

pub filled_next : {X : Type 0} (i : ℕ) (f : ℕ → X) (ys : List X) → i < length ys → set (filled i f ys) i (f i) ≡ filled (suc i) f ys
filled_next i f [] l = absurd (omega (arith, l))
filled_next zero f (y ∷ ys) l = refl
filled_next (suc i) f (y ∷ ys) l = ap (λ (zs : List _). f 0 ∷ zs) (filled_next i (λ j. f (suc j)) ys (omega (arith, l)))

pub filled_length : {X : Type 0} (i : ℕ) (f : ℕ → X) (ys : List X) → i ≤ length ys → length (filled i f ys) ≡ length ys
filled_length zero f ys l = refl
filled_length (suc i) f [] l = absurd (omega (arith, l))
filled_length (suc i) f (y ∷ ys) l = ap suc (filled_length i (λ j. f (suc j)) ys (omega (arith, l)))
