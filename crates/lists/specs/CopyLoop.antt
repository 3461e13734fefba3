-- Laws of a loop that puts f of each element of a list into a table of the same length, in the order of the index.
-- Assumes nothing.
use Rattle.std.specs.Prelude.{◌≡◌, List, [], ◌∷◌, ◌++◌, map, ℕ, ◌+◌, ◌-◌, ◌≤◌, ◌<◌, get_or, take, set}
use Rattle.std.proofs.Common.{◌∙◌, append-nil, add-one, arith, take-suc, take_all, length-take-le}
use Rattle.std.proofs.lemmas.List.{map-append}
use Rattle.std.proofs.Math.ListN.{length, length-map}
use Rattle.lists.specs.Pads.{pad, pad_push}

module _ {A B : Type 0} (f : A → B) (z : A) (b : B) (n : ℕ) (xs : List A) where
  -- the table when i elements have been passed
  abbrev pub copied : ℕ → List B
  copied i = pad n b (map f (take i xs))

  pub copied_more : (i : ℕ) (y : B) → length xs ≡ n → i < n → y ≡ f (get_or xs i z) → set (copied i) i y ≡ copied (i + 1)
  copied_more i y len h e =
      let k : length (map f (take i xs)) ≡ i = length-map (take i xs) f ∙ length-take-le i xs (omega arith) in
      let more : map f (take (i + 1) xs) ≡ map f (take i xs) ++ (f (get_or xs i z) ∷ []) =
      rw (add-one, take-suc xs i z (omega arith)) (map-append f (take i xs) (get_or xs i z ∷ [])) in
      rw (more, e) (pad_push n b (map f (take i xs)) (f (get_or xs i z)) i k h)

  pub copied_all : (i : ℕ) → length xs ≡ n → n ≤ i → copied i ≡ map f xs
  unfolding pad
  copied_all i len h =
      let none : n - length (map f xs) ≡ 0 = omega (arith, length-map xs f) in
      rw (take_all i xs (omega arith), none) (append-nil (map f xs))
