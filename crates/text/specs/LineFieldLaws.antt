-- Laws of a line that is read from field to field.
-- Assumes nothing.
use Rattle.std.proofs.Math.Path.{◌≡◌, refl, sym, ap}
use Rattle.std.proofs.Common.{◌∙◌, add-one, length-drop, drop_of_length-le, drop-drop, get_or-drop, drop-cons}
use Rattle.std.specs.Prelude.{Bool, not, ◌&&◌, ◌||◌, ◌⊎◌, leb, ltb, get_or, Option, Some, None}
use Rattle.std.proofs.Math.Bool.{true, false}
use Rattle.std.proofs.Math.Logic.{⊎_elim}
use mathlib.Core.List.{List, [], ◌∷◌}
use Prim.Native.Nat.{ℕ, suc, ◌+◌, ◌-◌, ◌≤◌, ◌<◌}
use Rattle.std.proofs.Math.Nat.{add-zero}
use native.Mathlib.Omega.{arith}
use Rattle.std.proofs.Math.Dec.{eqb}
use Rattle.std.proofs.Math.ListN.{length, take, drop, get_or-eq_default}
use borrow.Author.Tests.{eqb-true, eq-eqb, ne_eqb, ltb-false, lt-leb}
use Rattle.lists.specs.Tests.{case, true_false, both, le_or, and_right_false}
use Rattle.text.specs.declared.ReadField.{ReadField}
use Rattle.text.specs.Prefixes.{upto, upto_le}
use Rattle.text.specs.Fields.{in_first, fields_of}
use Rattle.text.specs.FieldLaws.{fields_some, fields_first}
use Rattle.text.specs.Lines.{line_end}
use Rattle.text.specs.Numbers.{digits_from, number_of}
use Rattle.text.specs.Letters.{capital_of}
use Rattle.text.specs.Words.{is_word}
use Rattle.text.specs.WordLaws.{word_is, word_same}
use Rattle.text.specs.LineFields.{line_fields, field_in, ends_field, has_tab, after_tab, begins_with, fields_at, fields_after, Reads}

-- a byte ends a field, its line too or not, or it does neither
by_byte {ℓ} : {A : Type ℓ} (b : ℕ) → (b ≡ 9 → A) → (b ≡ 10 → A) → (eqb b 9 ≡ false → eqb b 10 ≡ false → A) → A
by_byte b f g h =
    case (eqb b 9) (λ p. f (eqb-true b 9 p)) (λ p. case (eqb b 10) (λ q. g (eqb-true b 10 q)) (λ q. h p q))

-- ## The first field

-- the fields are the first and those after it,
pub fields_split : (s : List ℕ) → line_fields s ≡ field_in s ∷ after_tab (drop (length (field_in s)) s)
unfolding upto fields_of after_tab
fields_split [] = refl
fields_split (b ∷ bs) = by_byte b (λ e. rw e) (λ e. rw e) (λ p q. rw (q, p) (ap (in_first b) (fields_split bs)))

-- it is a front of the bytes,
pub field_take : (s : List ℕ) → take (length (field_in s)) s ≡ field_in s
unfolding upto
field_take [] = refl
field_take (b ∷ bs) = by_byte b (λ e. rw e) (λ e. rw e) (λ p q. rw (q, p, field_take bs))

-- ends where a field ends,
field_ends : (s : List ℕ) → ends_field (drop (length (field_in s)) s) ≡ true
unfolding upto ends_field
field_ends [] = refl
field_ends (b ∷ bs) = by_byte b (λ e. rw e) (λ e. rw e) (λ p q. rw (q, p) (field_ends bs))

-- and within the line
field_line : (s : List ℕ) → length (upto 10 s) ≡ length (field_in s) + length (upto 10 (drop (length (field_in s)) s))
unfolding upto
field_line [] = omega arith
field_line (b ∷ bs) = by_byte b (λ e. rw e (omega arith)) (λ e. rw e (omega arith)) (λ p q. rw (q, p) (omega (arith, field_line bs)))

field_le : (s : List ℕ) → length (field_in s) ≤ length s
field_le s = omega (arith, upto_le 9 (upto 10 s), upto_le 10 s)

-- from a place on
module _ (s : List ℕ) (i : ℕ) where
  pub field_hit : i < length s → (get_or s i 0 ≡ 9) ⊎ (get_or s i 0 ≡ 10) → length (field_in (drop i s)) ≡ 0
  unfolding upto
  field_hit h = ⊎_elim (λ e. rw (drop-cons s i 0 h, e)) (λ e. rw (drop-cons s i 0 h, e))

  pub field_miss : i < length s → (get_or s i 0 ≡ 9 → ⊥) → (get_or s i 0 ≡ 10 → ⊥) → length (field_in (drop i s)) ≡ suc (length (field_in (drop (i + 1) s)))
  unfolding upto
  field_miss h p q = rw (drop-cons s i 0 h, ne_eqb (get_or s i 0) 10 q, ne_eqb (get_or s i 0) 9 p, add-one)

  pub field_none : length s ≤ i → length (field_in (drop i s)) ≡ 0
  unfolding upto
  field_none h = rw (drop_of_length-le s h)

-- ## What is read of it, and where

module _ (text : List ℕ) (from : ℕ) where
  abbrev end : ℕ
  end = from + length (field_in (drop from text))

  there : drop (length (field_in (drop from text))) (drop from text) ≡ drop end text
  there = drop-drop (length (field_in (drop from text))) from text

  pub fields_from_lem : fields_at text from ≡ field_in (drop from text) ∷ fields_after text end
  fields_from_lem = fields_split (drop from text) ∙ ap (λ (s : List ℕ). field_in (drop from text) ∷ after_tab s) there

  pub field_inside : from ≤ length text → end ≤ length text
  field_inside h = omega (arith, field_le (drop from text), length-drop from text)

  pub line_from : line_end text end ≡ line_end text from
  line_from = omega (arith, field_line (drop from text), ap (λ (s : List ℕ). length (upto 10 s)) there)

  pub reads_field : (of : List ℕ → Option ℕ) (said : Option ℕ) (e : ℕ) → said ≡ of (field_in (drop from text)) → e ≡ end
      → Reads of (fields_at text from) text from (record { said = said; end = e })
  reads_field of said e q p =
      rw p
      record {
        says = q ∙ ap (λ (fs : List (List ℕ)). of (get_or fs 0 [])) (sym fields_from_lem);
        ends = λ v is. sym (ap ends_field there) ∙ field_ends (drop from text);
        others = λ v is. sym (ap (drop 1) fields_from_lem);
        same_line = line_from;
        inside = field_inside;
      }

-- after a tab the fields are those from the next place on
module _ (text : List ℕ) (end : ℕ) where
  pub tab_inside : has_tab (drop end text) ≡ true → end < length text
  tab_inside e =
      ⊎_elim
      (λ past. true_false false (sym (ap has_tab (drop_of_length-le text past)) ∙ e) refl)
      (λ low. low)
      (le_or (length text) end)

  -- and the line goes on
  line_after : has_tab (drop end text) ≡ true → line_end text (end + 1) ≡ line_end text end
  unfolding upto
  line_after e = omega (arith, more (drop end text) e, ap (λ (s : List ℕ). length (upto 10 s)) (drop-drop 1 end text)) where
    more : (s : List ℕ) → has_tab s ≡ true → length (upto 10 s) ≡ suc (length (upto 10 (drop 1 s)))
    more [] e = true_false false e refl
    more (b ∷ bs) e = rw (eqb-true b 9 e)

  module _ (of : List ℕ → Option ℕ) where
    pub reads_after : (r : ReadField) → has_tab (drop end text) ≡ true → Reads of (fields_at text (end + 1)) text (end + 1) r
        → Reads of (fields_after text end) text end r
    unfolding after_tab
    reads_after r e p =
        let after : fields_after text end ≡ fields_at text (end + 1) = rw e (ap line_fields (drop-drop 1 end text)) in
        record {
          says = p.says ∙ ap (λ (fs : List (List ℕ)). of (get_or fs 0 [])) (sym after);
          ends = p.ends;
          others = λ v is. p.others v is ∙ ap (drop 1) (sym after);
          same_line = p.same_line ∙ line_after e;
          inside = λ h. p.inside (omega (arith, tab_inside e));
        }

    -- without one there are none
    pub reads_past : of [] ≡ None → has_tab (drop end text) ≡ false → Reads of (fields_after text end) text end (record { said = None; end = end })
    unfolding after_tab
    reads_past q e =
        record {
          says = rw e (sym q);
          ends = λ v is. absurd (let z : ◌≡◌ {A = ℕ} 0 1 = cc in omega arith);
          others = λ v is. absurd (let z : ◌≡◌ {A = ℕ} 0 1 = cc in omega arith);
          same_line = refl;
          inside = λ h. h;
        }

-- the line is over where its last field ends
pub line_done_lem : (text : List ℕ) (end : ℕ) → ends_field (drop end text) ≡ true → eqb (line_end text end) end ≡ eqb (length (fields_after text end)) 0
unfolding upto ends_field after_tab
line_done_lem text end e = done (drop end text) e where
  done : (s : List ℕ) → ends_field s ≡ true → eqb (end + length (upto 10 s)) end ≡ eqb (length (after_tab s)) 0
  done [] e = rw add-zero (eq-eqb end end refl)
  done (b ∷ bs) e =
      by_byte b
      (λ p. rw p (ne_eqb (end + suc (length (upto 10 bs))) end (λ q. omega arith)
      ∙ sym (ne_eqb (length (line_fields bs)) 0 (λ q. omega (arith, fields_some (upto 10 bs))))))
      (λ p. rw (p, add-zero) (eq-eqb end end refl))
      (λ p q. true_false false (rw (p, q) at e) refl)

-- ## What nothing says

pub no_number : number_of [] ≡ None
unfolding number_of
no_number = refl

pub no_letter : capital_of [] ≡ None
unfolding capital_of
no_letter = refl

-- a letter is no number
pub letter_no_number : (s : List ℕ) {v : ℕ} → capital_of s ≡ Some v → number_of s ≡ None
unfolding capital_of number_of digits_from
letter_no_number [] e = absurd (let z : ◌≡◌ {A = ℕ} 0 1 = cc in omega arith)
letter_no_number (b ∷ []) e =
    case (ltb b 65)
    (λ t. absurd (let q = rw t at e in let z : ◌≡◌ {A = ℕ} 0 1 = cc in omega arith))
    (λ t. let high = ltb-false b 65 t in rw (and_right_false (leb 48 b) (lt-leb b 57 (omega arith))))
letter_no_number (b ∷ c ∷ cs) e =
    absurd (let q = rw (ne_eqb (length (b ∷ c ∷ cs)) 1 (λ p. omega arith)) at e in let z : ◌≡◌ {A = ℕ} 0 1 = cc in omega arith)

-- ## A word and a tab

-- no byte of a word ends a field
abbrev pub clean : List ℕ → Bool
clean [] = true
clean (b ∷ bs) = not (eqb b 9 || eqb b 10) && clean bs

field_word : (w s : List ℕ) → clean w ≡ true → take (length w) s ≡ w → get_or s (length w) 0 ≡ 9 → field_in s ≡ w
unfolding upto
field_word [] [] c t e = refl
field_word [] (a ∷ s) c t e = rw e
field_word (b ∷ bs) [] c t e = absurd (let z : ◌≡◌ {A = ℕ} 0 9 = e in omega arith)
field_word (b ∷ bs) (a ∷ s) c t e =
    let same : a ≡ b = cc in
    let rest : take (length bs) s ≡ bs = cc in
    by_byte b
    (λ p. true_false false (rw p at c) refl)
    (λ p. true_false false (rw p at c) refl)
    (λ p q. rw (same, q, p, field_word bs s (rw (p, q) at c) rest e))

without : (a : Bool) {b : Bool} → b ≡ true → (a && b) ≡ false → a ≡ false
without true p q = sym p ∙ q
without false p q = refl

-- with them a line has the word for its first field, and others come after it
pub record Begun (w text : List ℕ) (at : ℕ) : Type 0 where
  pub within : at + length w < length text
  pub fields_are : fields_at text at ≡ w ∷ fields_after text (at + length w)
  pub same_line : line_end text (at + length w) ≡ line_end text at

module _ (w : List ℕ) where
  module _ (text : List ℕ) (at : ℕ) where
    next : get_or (drop at text) (length w) 0 ≡ get_or text (at + length w) 0
    next = get_or-drop at text (length w) 0

    next_inside : get_or text (at + length w) 0 ≡ 9 → at + length w < length text
    next_inside e =
        ⊎_elim
        (λ h. absurd (let z : ◌≡◌ {A = ℕ} 0 9 = sym (get_or-eq_default text 0 h) ∙ e in omega arith))
        (λ l. l)
        (le_or (length text) (at + length w))

    pub begins_not : (get_or text (at + length w) 0 ≡ 9 → ⊥) → begins_with w (drop at text) ≡ false
    unfolding begins_with
    begins_not e = rw (next, ne_eqb (get_or text (at + length w) 0) 9 e)

    pub begins_past : length text ≤ at + length w → begins_with w (drop at text) ≡ false
    begins_past h = begins_not (λ e. omega (arith, next_inside e))

    pub begins_word : get_or text (at + length w) 0 ≡ 9 → begins_with w (drop at text) ≡ is_word w (take (at + length w - at) (drop at text))
    unfolding begins_with
    begins_word e =
        let size : at + length w - at ≡ length w = omega arith in
        rw (next, eq-eqb (get_or text (at + length w) 0) 9 e, size)

    pub begun : clean w ≡ true → begins_with w (drop at text) ≡ true → Begun w text at
    unfolding begins_with
    begun c e =
        let s = drop at text in
        let t = both (eqb (get_or s (length w) 0) 9) (is_word w (take (length w) s)) e in
        let tab = eqb-true (get_or s (length w) 0) 9 t.0 in
        let is : field_in s ≡ w = field_word w s c (word_is w (take (length w) s) t.1) tab in
        record {
          within = next_inside (sym next ∙ tab);
          fields_are = fields_from_lem text at ∙ (λ i. is i ∷ fields_after text (at + length (is i)));
          same_line = sym (ap (λ (l : List ℕ). line_end text (at + length l)) is) ∙ line_from text at;
        }

  -- without them, no two or more fields begin with the word
  pub not_begun : (s : List ℕ) (n : ℕ) → 2 ≤ n → begins_with w s ≡ false → (eqb (length (line_fields s)) n && is_word w (get_or (line_fields s) 0 [])) ≡ false
  unfolding begins_with after_tab
  not_begun s n h e =
      case (is_word w (get_or (line_fields s) 0 []))
      (λ t.
      let k = length w in
      let is : field_in s ≡ w = sym (fields_first (upto 10 s)) ∙ word_is w (get_or (line_fields s) 0 []) t in
      let front : take k s ≡ w = ap (λ (l : List ℕ). take (length l) s) (sym is) ∙ field_take s ∙ is in
      let no-tab : eqb (get_or s k 0) 9 ≡ false = without (eqb (get_or s k 0) 9) (ap (is_word w) front ∙ word_same w) e in
      let none : after_tab (drop k s) ≡ [] = rw (get_or-drop k s 0 0, add-zero k, no-tab) in
      let split : line_fields s ≡ field_in s ∷ after_tab (drop k s) = fields_split s ∙ ap (λ (l : List ℕ). field_in s ∷ after_tab (drop (length l) s)) is in
      rw (split, none, ne_eqb 1 n (λ q. omega arith)))
      (λ t. and_right_false (eqb (length (line_fields s)) n) t)
