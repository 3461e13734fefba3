-- A line of a text read from field to field: the field at a place, the fields from there on, and those after one that ends at a place.
-- Assumes nothing.
use Rattle.std.specs.Prelude.{◌≡◌, Bool, true, cond, ◌&&◌, ◌||◌, List, [], ◌∷◌, ℕ, ◌≤◌, eqb, length, get_or, take, drop, Option, Some}
use Rattle.text.specs.declared.ReadField.{ReadField}
use Rattle.text.specs.Prefixes.{upto}
use Rattle.text.specs.Fields.{fields_of}
use Rattle.text.specs.Lines.{line_end}
use Rattle.text.specs.Words.{is_word}

-- ## Of bytes, up to the end of their line

abbrev pub line_fields : List ℕ → List (List ℕ)
line_fields s = fields_of (upto 10 s)

-- the first of them
abbrev pub field_in : List ℕ → List ℕ
field_in s = upto 9 (upto 10 s)

-- does a field end where they begin
unfoldable pub ends_field : List ℕ → Bool
ends_field [] = true
ends_field (b ∷ bs) = eqb b 9 || eqb b 10

abbrev pub has_tab : List ℕ → Bool
has_tab s = eqb (get_or s 0 0) 9

-- the fields after the tab where they begin
unfoldable pub after_tab : List ℕ → List (List ℕ)
after_tab s = cond (has_tab s) (line_fields (drop 1 s)) []

-- do they begin with this word and a tab
unfoldable pub begins_with : List ℕ → List ℕ → Bool
begins_with w s = eqb (get_or s (length w) 0) 9 && is_word w (take (length w) s)

-- ## At a place of a text

abbrev pub fields_at : List ℕ → ℕ → List (List ℕ)
fields_at text from = line_fields (drop from text)

abbrev pub fields_after : List ℕ → ℕ → List (List ℕ)
fields_after text end = after_tab (drop end text)

-- the first of these fields is read, in the line of a place: what it says, and that it ends where the others come after it
pub record Reads (of : List ℕ → Option ℕ) (fields : List (List ℕ)) (text : List ℕ) (from : ℕ) (r : ReadField) : Type 0 where
  pub says : r.said ≡ of (get_or fields 0 [])
  pub ends : (v : ℕ) → r.said ≡ Some v → ends_field (drop r.end text) ≡ true
  pub others : (v : ℕ) → r.said ≡ Some v → fields_after text r.end ≡ drop 1 fields
  pub same_line : line_end text r.end ≡ line_end text from
  pub inside : from ≤ length text → r.end ≤ length text
