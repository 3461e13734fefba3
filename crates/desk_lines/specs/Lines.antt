-- The lines of a text. Document 01: "Text lines, each closed by byte 10".
-- Assumes nothing.
use Rattle.std.specs.Prelude.{Bool, true, false, cond, List, [], ◌∷◌, ℕ, eqb}

pub record Line : Type 0 where
  pub bytes : List ℕ
  -- byte 10 stands after it
  pub closed : Bool

-- a byte more in front of the first line; where there is none, an unclosed one
abbrev pub in_line : ℕ → List Line → List Line
in_line b [] = record { bytes = b ∷ []; closed = false } ∷ []
in_line b (l ∷ ls) = record { bytes = b ∷ l.bytes; closed = l.closed } ∷ ls

unfoldable pub lines_of : List ℕ → List Line
lines_of [] = []
lines_of (b ∷ bs) = cond (eqb b 10) (record { bytes = []; closed = true } ∷ lines_of bs) (in_line b (lines_of bs))
