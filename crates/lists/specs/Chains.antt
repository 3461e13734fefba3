-- The words of std's chains (`filter`, `count_by`, `position`) are these lists' own words.
-- Assumes nothing.
use Rattle.std.specs.Prelude.{ℕ, ◌+◌, ◌≡◌, refl, Bool, List, [], ◌∷◌, length, filter, count_by}
use Rattle.std.specs.Prelude as std
use Rattle.std.specs.List as std_list
use Rattle.std.proofs.Common.{sym, ◌∙◌}
use Rattle.std.proofs.Math.Option.{Option, none, some}
use Rattle.std.proofs.Math.Path.{ap}
use Rattle.std.proofs.lemmas.List.Sums.{length-filter}
use Rattle.std.proofs.lemmas.Iterator.Adapters.{position_from-zero}
use Rattle.lists.specs.Tests.{case}
use Rattle.lists.specs.Lists.{keep}
use Rattle.lists.specs.Loops.{position_from, position}

-- an answer of std's as one of ours
abbrev pub option_of : {A : Type 0} → std.Option A → Option A
option_of std.None = none
option_of (std.Some a) = some a

module _ {A : Type 0} (p : A → Bool) where
  pub filter_keep : (xs : List A) → filter p xs ≡ keep p xs
  filter_keep [] = refl
  filter_keep (x ∷ xs) = rw (filter_keep xs)

  pub count_keep : (xs : List A) → count_by p xs ≡ length (keep p xs)
  count_keep xs = sym (length-filter p xs) ∙ ap length (filter_keep xs)

  pub position_is : (xs : List A) → option_of (std.position p xs) ≡ position p xs
  position_is xs = ap option_of (position_from-zero p xs) ∙ from 0 xs
    where
      from : (k : ℕ) (xs : List A) → option_of (std_list.position_from p k xs) ≡ position_from p k xs
      from k [] = refl
      from k (x ∷ xs) = case (p x) (λ e. rw e) (λ e. rw (e, from (k + 1) xs))

  pub position_some : (xs : List A) (i : ℕ) → std.position p xs ≡ std.Some i → position p xs ≡ some i
  position_some xs i e = sym (position_is xs) ∙ ap option_of e

  pub position_none : (xs : List A) → std.position p xs ≡ std.None → position p xs ≡ none
  position_none xs e = sym (position_is xs) ∙ ap option_of e
