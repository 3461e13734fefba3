-- A place of a list leaves, those after it moved up one by one, in the order of the index.
-- Assumes nothing.
use Rattle.std.specs.Prelude.{ℕ, suc, ◌+◌, ◌≤◌, ◌<◌, ◌≡◌, List, [], ◌∷◌, ◌++◌, length, get_or, take, drop, set}
use Rattle.std.proofs.Common.{arith, add-one, sym, ap, ◌∙◌, append_assoc, take-append-drop, take-suc, drop-cons, get_or-append-add, get_or-drop, length-take-le}
use Rattle.std.proofs.lemmas.List.{set_at}
use Rattle.job_columns.specs.Removal.{remove_at, removed_length, removed_append, removed_seam}

module _ {A : Type 0} (z : A) where
  -- the places of xs before i have been written, and those from there on are as they were
  pub record Shifting (at : ℕ) (xs ys : List A) (i : ℕ) : Type 0 where
    pub from : at ≤ i
    pub low : i < length xs
    pub list_is : ys ≡ remove_at at (take (i + 1) xs) ++ drop i xs

  pub shifting_first : (at : ℕ) (xs : List A) → at < length xs → Shifting at xs xs at
  shifting_first at xs h = record {
    from = omega arith;
    low = h;
    list_is =
        sym (ap (λ (l : List A). remove_at at l ++ drop at xs) (ap (λ (k : ℕ). take k xs) (add-one at) ∙ take-suc xs at z h)
        ∙ ap (λ (l : List A). l ++ drop at xs) (removed_seam (take at xs) [] (get_or xs at z) at (length-take-le at xs (omega arith)))
        ∙ append_assoc (take at xs) [] (drop at xs)
        ∙ take-append-drop at xs);
  }

  module _ {at : ℕ} {xs ys : List A} {i : ℕ} (v : Shifting at xs ys i) where
    abbrev moved : List A
    moved = remove_at at (take (i + 1) xs)

    moved_length : length moved ≡ i
    moved_length =
        let few = length-take-le (i + 1) xs (omega (arith, v.low)) in
        omega (arith, removed_length at (take (i + 1) xs) (omega (arith, v.from)))

    -- a store in place i
    stored : (x : A) → set ys i x ≡ moved ++ (x ∷ drop (i + 1) xs)
    stored x =
        ap (λ (l : List A). set l i x) v.list_is
        ∙ ap (λ (l : List A). set (moved ++ l) i x) (drop-cons xs i z v.low)
        ∙ set_at moved (get_or xs i z) (drop (suc i) xs) x i moved_length
        ∙ ap (λ (k : ℕ). moved ++ (x ∷ drop k xs)) (sym (add-one i))

    -- the place after is as it was
    pub shifting_there : get_or ys (i + 1) z ≡ get_or xs (i + 1) z
    shifting_there =
        ap (λ (l : List A). get_or l (i + 1) z) v.list_is
        ∙ ap (λ (k : ℕ). get_or (moved ++ drop i xs) (k + 1) z) (sym moved_length)
        ∙ get_or-append-add moved (drop i xs) 1 z
        ∙ get_or-drop i xs 1 z

    pub shifting_next : i + 1 < length xs → Shifting at xs (set ys i (get_or xs (i + 1) z)) (i + 1)
    shifting_next h =
        let x = get_or xs (i + 1) z in
        let few = length-take-le (i + 1) xs (omega (arith, v.low)) in
        record {
          from = omega (arith, v.from);
          low = h;
          list_is =
              stored x
              ∙ sym (append_assoc moved (x ∷ []) (drop (i + 1) xs))
              ∙ ap (λ (l : List A). l ++ drop (i + 1) xs)
              (sym (ap (remove_at at) (ap (λ (k : ℕ). take k xs) (add-one (i + 1)) ∙ take-suc xs (i + 1) z h)
              ∙ removed_append at (take (i + 1) xs) (x ∷ []) (omega (arith, v.from))));
        }

    -- the last place is unused then
    pub shifting_last : (n : ℕ) (x : A) → i + 1 ≡ n → set ys i x ≡ remove_at at (take n xs) ++ (x ∷ drop n xs)
    shifting_last n x e = rw e at (stored x)
