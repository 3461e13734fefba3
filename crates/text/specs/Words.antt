-- Words, byte by byte.
-- Assumes nothing.
use Rattle.std.specs.Prelude.{Bool, true, false, ◌&&◌, List, [], ◌∷◌, ℕ, eqb}

-- is the second, a part of a line, the first, a word
unfoldable pub is_word : List ℕ → List ℕ → Bool
is_word [] [] = true
is_word [] (b ∷ bs) = false
is_word (w ∷ ws) [] = false
is_word (w ∷ ws) (b ∷ bs) = eqb b w && is_word ws bs
