-- Laws of words: a part is a word exactly if it is equal to it.
-- Assumes nothing.
use Rattle.std.specs.Prelude.{◌≡◌, refl, true, false, List, [], ◌∷◌, ℕ, suc, ◌+◌, ◌≤◌, ◌<◌, eqb, get_or, drop}
use Rattle.std.proofs.Common.{ap, add-one}
use native.Mathlib.Omega.{arith}
use Rattle.std.proofs.Math.ListN.{length, drop_of_length-le}
use Rattle.std.proofs.Math.Seq.{drop-cons}
use lib.Pointwise.{pointwise}
use borrow.Author.Tests.{eqb-true, eq-eqb, ne_eqb}
use Rattle.lists.specs.Tests.{both, true_false, and_right_false}
use Rattle.text.specs.Words.{is_word}

pub word_same : (w : List ℕ) → is_word w w ≡ true
unfolding is_word
word_same [] = refl
word_same (b ∷ bs) = rw (eq-eqb b b refl) (word_same bs)

pub word_is : (w p : List ℕ) → is_word w p ≡ true → p ≡ w
unfolding is_word
word_is [] [] e = refl
word_is [] (b ∷ bs) e = true_false false e refl
word_is (w ∷ ws) [] e = true_false false e refl
word_is (w ∷ ws) (b ∷ bs) e =
    let t = both (eqb b w) (is_word ws bs) e in
    rw (eqb-true b w t.0, word_is ws bs t.1)

-- a part of another length is not the word
pub word_length : (w p : List ℕ) → (length p ≡ length w → ⊥) → is_word w p ≡ false
unfolding is_word
word_length [] [] h = absurd (h refl)
word_length [] (b ∷ bs) h = refl
word_length (w ∷ ws) [] h = refl
word_length (w ∷ ws) (b ∷ bs) h = and_right_false (eqb b w) (word_length ws bs (λ e. h (ap suc e)))

-- it is compared byte by byte
pub word_bytes : (w p : List ℕ) → pointwise eqb p w ≡ is_word w p
unfolding is_word
word_bytes [] [] = refl
word_bytes [] (b ∷ bs) = refl
word_bytes (w ∷ ws) [] = refl
word_bytes (w ∷ ws) (b ∷ bs) = rw (word_bytes ws bs)

-- the bytes from a place on
module _ (w p : List ℕ) (i : ℕ) (same : length p ≡ length w) where
  pub word_more : i < length w → get_or p i 0 ≡ get_or w i 0 → is_word (drop i w) (drop i p) ≡ is_word (drop (i + 1) w) (drop (i + 1) p)
  unfolding is_word
  word_more h e = rw (drop-cons w i 0 h, drop-cons p i 0 (omega arith), eq-eqb (get_or p i 0) (get_or w i 0) e, add-one)

  pub word_other : i < length w → (get_or p i 0 ≡ get_or w i 0 → ⊥) → is_word (drop i w) (drop i p) ≡ false
  unfolding is_word
  word_other h e = rw (drop-cons w i 0 h, drop-cons p i 0 (omega arith), ne_eqb (get_or p i 0) (get_or w i 0) e)

  pub word_end : length w ≤ i → is_word (drop i w) (drop i p) ≡ true
  unfolding is_word
  word_end h =
      let l : length p ≤ i = omega arith in
      rw (drop_of_length-le w h, drop_of_length-le p l)
