-- Laws of `sets`, a list written at a place: what is written piece by piece is written whole.
-- Assumes nothing.
use Rattle.std.specs.Prelude.{◌≡◌, refl, List, [], ◌∷◌, ◌++◌, ℕ, suc, ◌+◌, ◌≤◌, ◌<◌, length, get_or, take, set}
use Rattle.std.proofs.Common.{ap, sym, ◌∙◌, add-zero, add-one, arith, take-suc, length-take-le, drop-drop, append_assoc}
use Rattle.std.proofs.lemmas.List.Edits.{sets, sets-eq}
use Rattle.std.proofs.lemmas.List.{set_comm}
use borrow.Rule.Slice.PartMut.{put_mid}

pub sets_append : (l : List ℕ) (i : ℕ) (xs ys : List ℕ) → sets l i (xs ++ ys) ≡ sets (sets l i xs) (i + length xs) ys
sets_append l i [] ys = rw add-zero
sets_append l i (x ∷ xs) ys =
    let e : suc i + length xs ≡ i + suc (length xs) = omega arith in
    sets_append (set l i x) (suc i) xs ys ∙ ap (λ (n : ℕ). sets (sets (set l i x) (suc i) xs) n ys) e

-- one byte more
pub sets_take : (l : List ℕ) (i : ℕ) (xs : List ℕ) (n : ℕ) → n < length xs → sets l i (take (n + 1) xs) ≡ set (sets l i (take n xs)) (i + n) (get_or xs n 0)
sets_take l i xs n h =
    let e : length (take n xs) ≡ n = length-take-le n xs (omega arith) in
    rw (add-one, take-suc xs n 0 h, sets_append, e)

-- a byte past what is written may be written first
sets_past : (l : List ℕ) (i : ℕ) (xs : List ℕ) (j b : ℕ) → i + length xs ≤ j → sets (set l j b) i xs ≡ set (sets l i xs) j b
sets_past l i [] j b h = refl
sets_past l i (x ∷ xs) j b h =
    ap (λ (m : List ℕ). sets m (suc i) xs) (set_comm l j i b x (λ e. omega arith)) ∙ sets_past (set l i x) (suc i) xs j b (omega arith)

-- the last byte first
pub sets_last : (l : List ℕ) (i : ℕ) (xs : List ℕ) (b : ℕ) → sets l i (xs ++ (b ∷ [])) ≡ sets (set l (i + length xs) b) i xs
sets_last l i xs b = sets_append l i xs (b ∷ []) ∙ sym (sets_past l i xs (i + length xs) b (omega arith))

-- a part of the list is written over by as many bytes
pub put_sets : (i n : ℕ) (l part xs : List ℕ) → part ≡ xs → n ≡ length xs → i + length xs ≤ length l → put_mid i n l part ≡ sets l i xs
put_sets i n l part xs e f h = rw (e, f, drop-drop, sets-eq xs l i h, append_assoc)
