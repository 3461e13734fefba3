-- A line of a status page: 72 characters, none of which is a line's end, and its end.
-- Assumes nothing.
use Rattle.std.specs.Prelude.{◌≡◌, refl, Bool, false, ℕ, ◌+◌, ◌-◌, ◌<◌, eqb, get_or, replicate}
use Rattle.std.proofs.Math.Path.{ap}
use Rattle.std.proofs.Math.Bool.{not}
use mathlib.Core.List.{List, [], ◌∷◌, ◌++◌, flat_map, append_assoc, append-nil}
use Rattle.std.proofs.Common.{arith, ne_eqb}
use Rattle.std.proofs.Math.ListN.{length, length-append, get_or-append}
use Rattle.std.proofs.Math.Seq.{get_or_at}
use Rattle.lists.specs.Lists.{keep, All, In, all_in, all_at, all_append, keep_append, keep_none, keep_all}
use Rattle.lists.specs.Pads.{pad, length_pad, all_pad, all_same}
use Rattle.text.specs.RightSet.{space, right_set, right_length}
use Rattle.status_page_rules.specs.StatusPage.{page_columns, Column, set_right, line}
use Rattle.status_page_laws.specs.Columns.{Plain, Fits, widths, Fitting}

-- byte 10 closes a line
abbrev pub is_end : ℕ → Bool
is_end b = eqb b 10

space_plain : Plain space
space_plain = (omega arith, omega arith)

columns_length : (cs : List Column) → All Fits cs → length (flat_map set_right cs) ≡ widths cs
unfolding flat_map
columns_length [] f = refl
columns_length (c ∷ cs) f =
    omega (arith, length-append (set_right c) (flat_map set_right cs), right_length c.width c.text f.0.within, columns_length cs f.1)

-- columns, and what stands after them
abbrev pub columns_then : List Column → List ℕ → List ℕ
columns_then [] t = t
columns_then (c ∷ cs) t = set_right c ++ columns_then cs t

columns_then_lem : (cs : List Column) (t : List ℕ) → flat_map set_right cs ++ t ≡ columns_then cs t
unfolding flat_map
columns_then_lem [] t = refl
columns_then_lem (c ∷ cs) t = rw (append_assoc, columns_then_lem cs t)

columns_plain : (cs : List Column) → All Fits cs → All Plain (flat_map set_right cs)
unfolding flat_map right_set
columns_plain [] f = tt
columns_plain (c ∷ cs) f =
    let n = c.width - length c.text in
    all_append Plain (set_right c) (flat_map set_right cs)
    (all_append Plain (replicate n space) c.text (all_same n space Plain space_plain n) f.0.plain) (columns_plain cs f.1)

module _ (cs : List Column) (f : Fitting cs) where
  -- the characters before its end
  abbrev pub characters : List ℕ
  characters = pad page_columns space (flat_map set_right cs)

  pub characters_length : length characters ≡ page_columns
  characters_length = length_pad page_columns space (flat_map set_right cs) (omega (arith, columns_length cs f.each, f.wide))

  characters_plain : All Plain characters
  characters_plain = all_pad page_columns space Plain (flat_map set_right cs) space_plain (columns_plain cs f.each)

  open_all : (b : ℕ) → In b characters → is_end b ≡ false
  open_all b i = let p = all_in Plain characters_plain i in ne_eqb b 10 (λ e. omega arith)

  -- as it is written: its columns, spaces, and its end
  pub line_written : line cs ≡ columns_then cs (replicate (page_columns - widths cs) space ++ (10 ∷ []))
  unfolding line pad
  line_written =
      rw (columns_length cs f.each, append_assoc) (columns_then_lem cs (replicate (page_columns - widths cs) space ++ (10 ∷ [])))

  pub line_length : length (line cs) ≡ page_columns + 1
  unfolding line
  line_length = omega (arith, length-append characters (10 ∷ []), characters_length)

  pub line_end_lem : get_or (line cs) page_columns 0 ≡ 10
  unfolding line
  line_end_lem = get_or_at characters 10 [] 0 page_columns characters_length

  pub line_plain : (i : ℕ) → i < page_columns → Plain (get_or (line cs) i 0)
  unfolding line
  line_plain i h =
      let l : i < length characters = omega (arith, characters_length) in
      rw (get_or-append characters (10 ∷ []) 0 i l) (all_at Plain characters i 0 characters_plain l)

  -- of its bytes one is an end, and all others are characters
  pub ends_kept : keep is_end (line cs) ≡ 10 ∷ []
  unfolding line
  ends_kept = rw (keep_append, keep_none is_end characters open_all)

  pub characters_kept : keep (λ (b : ℕ). not (is_end b)) (line cs) ≡ characters
  unfolding line
  characters_kept =
      rw (keep_append, keep_all (λ (b : ℕ). not (is_end b)) characters (λ b i. ap not (open_all b i))) (append-nil characters)
