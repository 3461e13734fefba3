-- Text that ends where its columns end. Document 02, No. 8: "all right-set, rest spaces".
-- Assumes nothing.
use Rattle.std.specs.Prelude.{◌≡◌, List, [], ◌∷◌, ◌++◌, ℕ, ◌+◌, ◌-◌, ◌≤◌, length, replicate}
use Rattle.std.proofs.Common.{sym, arith, length-append}
use Rattle.std.proofs.lemmas.List.{length-replicate, replicate-append-replicate}
use Rattle.std.proofs.lemmas.List.Edits.{sets}
use Rattle.text.specs.WrittenBytes.{Wrote, wrote, with_room, and_then}

abbrev pub space : ℕ
space = 32

-- this many columns: spaces, and then the text
unfoldable pub right_set : ℕ → List ℕ → List ℕ
right_set width t = replicate (width - length t) space ++ t

pub right_length : (width : ℕ) (t : List ℕ) → length t ≤ width → length (right_set width t) ≡ width
unfolding right_set
right_length width t h = omega (arith, length-append (replicate (width - length t) space) t, length-replicate (width - length t) space)

-- one space more
pub spaces_more : (n : ℕ) → replicate (n + 1) space ≡ replicate n space ++ (space ∷ [])
spaces_more n = rw (replicate-append-replicate n 1 space)

-- spaces, and after them a text of n bytes that fits
pub right_written : (width n : ℕ) (page : List ℕ) (at : ℕ) (t p q : List ℕ) (a b : ℕ) → n ≡ length t → n ≤ width
    → Wrote (width - n) page at (replicate (width - n) space) p a → (b ≡ a + length t) × (q ≡ sets p a t) → Wrote width page at (right_set width t) q b
unfolding right_set
right_written width n page at t p q a b e h w v =
    rw (sym e) (with_room (and_then w (wrote n p a t q b (omega arith) v)) width (omega arith))
