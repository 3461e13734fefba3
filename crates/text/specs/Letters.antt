-- Letters. Document 02, No. 4: a house is "in every text a capital letter".
-- Assumes nothing.
use Rattle.std.specs.Prelude.{◌||◌, cond, not, List, ℕ, eqb, ltb, length, get_or, Option, Some, None}

-- the one capital letter that a part is, A (65) to Z (90)
unfoldable pub capital_of : List ℕ → Option ℕ
capital_of s = cond (not (eqb (length s) 1) || ltb (get_or s 0 0) 65 || ltb 90 (get_or s 0 0)) None (Some (get_or s 0 0))
