-- The bytes of a quoted text, for sentences and for examples that are computed.
-- Assumes nothing.
use Rattle.std.specs.Prelude.{cond, ℕ, eqb}
use mathlib.Core.List.{List, [] as []ᴸ, ◌∷◌ as ◌∷ᴸ◌, ◌++◌, map, flat_map}
use Prim.Native.Char.{code}
use Prim.Native.String.{String, [], ◌∷◌}

abbrev pub bytes : String → List ℕ
bytes [] = []ᴸ
bytes (c ∷ s) = code c ∷ᴸ bytes s

-- document 01: "fields parted by one tab (byte 9; a space below)"
abbrev pub fields : String → List ℕ
fields s = map (λ (b : ℕ). cond (eqb b 32) 9 b) (bytes s)

-- lines that are each closed
abbrev pub text_of : List String → List ℕ
text_of ls = flat_map (λ (l : String). fields l ++ (10 ∷ᴸ []ᴸ)) ls
