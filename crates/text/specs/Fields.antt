-- The fields of a line.
-- Assumes nothing.
use Rattle.std.specs.Prelude.{cond, List, [], ◌∷◌, ℕ, eqb, get_or, drop}

-- a byte more in front of the first field
abbrev pub in_first : ℕ → List (List ℕ) → List (List ℕ)
in_first b [] = (b ∷ []) ∷ []
in_first b (f ∷ fs) = (b ∷ f) ∷ fs

-- document 01: "fields parted by one tab (byte 9)", and a field is "the part of the line between two tabs, a line's ends counting as tabs"
unfoldable pub fields_of : List ℕ → List (List ℕ)
fields_of [] = [] ∷ []
fields_of (b ∷ bs) = cond (eqb b 9) ([] ∷ fields_of bs) (in_first b (fields_of bs))

-- the field k, counted from 0
-- document 01: "The field reader gives back the part of the line between two tabs, a line's ends counting as tabs. A field past the last is
-- the empty part at the line's end."
abbrev pub field_of : List ℕ → ℕ → List ℕ
field_of s k = get_or (fields_of s) k []

-- the fields from the field k on; past the last, the empty part at the line's end
abbrev pub or_empty : List (List ℕ) → List (List ℕ)
or_empty [] = [] ∷ []
or_empty (f ∷ fs) = f ∷ fs

abbrev pub fields_from : List ℕ → ℕ → List (List ℕ)
fields_from s k = or_empty (drop k (fields_of s))
