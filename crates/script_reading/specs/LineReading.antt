-- A line read from field to field, up to a place: what it says if it ends there, and nothing if it goes on.
-- Assumes nothing.
use Rattle.std.specs.Prelude.{◌≡◌, refl, Bool, true, false, cond, List, [], ℕ, ◌+◌, ◌≤◌, eqb, length, get_or, drop, Some, None}
use Rattle.std.proofs.Math.Path.{sym, ap}
use Rattle.std.proofs.Common.{◌∙◌, arith, eq-eqb, ne_eqb}
use Rattle.std.proofs.Math.Option.{Option, none}
use Rattle.std.proofs.Math.Dec.{ltb}
use Rattle.std.specs.declared.option.Option as rust
use Rattle.text.specs.declared.ReadField.{ReadField}
use Rattle.text.specs.declared.Line.{Line}
use Rattle.text.specs.Lines.{line_end, line_at}
use Rattle.text.specs.LineFields.{ends_field, fields_after, Reads}
use Rattle.text.specs.LineFieldLaws.{line_done_lem, Begun}
use Rattle.desk_lines.specs.DeskLine.{with_number}

pub record UpTo {A : Type 0} (text : List ℕ) (at : ℕ) (means said : Option A) (end : ℕ) : Type 0 where
  pub whole : means ≡ cond (eqb (line_end text at) end) said none
  pub same_line : line_end text end ≡ line_end text at
  pub inside : at ≤ length text → end ≤ length text

-- what the first of some fields says goes into what the others say
abbrev pub reading : {A : Type 0} → (List ℕ → rust.Option ℕ) → (ℕ → List (List ℕ) → Option A) → List (List ℕ) → Option A
reading of f fs = with_number (of (get_or fs 0 [])) (λ v. f v (drop 1 fs))

-- no field is left
abbrev pub ended : {A : Type 0} → Option A → List (List ℕ) → Option A
ended o fs = cond (eqb (length fs) 0) o none

pub with_nothing : {A : Type 0} (p : rust.Option ℕ) (f : ℕ → Option A) → ((v : ℕ) → f v ≡ none) → with_number p f ≡ none
with_nothing (Some v) f h = h v
with_nothing None f h = refl

module _ {A : Type 0} (text : List ℕ) where
  cond_none : (b : Bool) → cond {A = Option A} b none none ≡ none
  cond_none true = refl
  cond_none false = refl

  pub up_to_end : (end : ℕ) (o : Option A) → ends_field (drop end text) ≡ true → UpTo text end (ended o (fields_after text end)) o end
  up_to_end end o e = record { whole = sym (ap (λ (b : Bool). cond b o none) (line_done_lem text end e)); same_line = refl; inside = λ h. h }

  module _ {at : ℕ} {of : List ℕ → rust.Option ℕ} {fs : List (List ℕ)} {r : ReadField} (p : Reads of fs text at r) (f : ℕ → List (List ℕ) → Option A) where
    pub up_to_nothing : r.said ≡ None → UpTo text at (reading of f fs) none r.end
    up_to_nothing e =
        record {
          whole = ap (λ (v : rust.Option ℕ). with_number v (λ v. f v (drop 1 fs))) (sym p.says ∙ e) ∙ sym (cond_none (eqb (line_end text at) r.end));
          same_line = p.same_line;
          inside = p.inside;
        }

    pub up_to_next : {v : ℕ} {said : Option A} {end : ℕ} → r.said ≡ Some v → UpTo text r.end (f v (fields_after text r.end)) said end
        → UpTo text at (reading of f fs) said end
    up_to_next {v} {said} {end} e u =
        record {
          whole =
              ap (λ (v : rust.Option ℕ). with_number v (λ v. f v (drop 1 fs))) (sym p.says ∙ e)
              ∙ ap (f v) (sym (p.others v e))
              ∙ u.whole
              ∙ ap (λ (n : ℕ). cond (eqb n end) said none) p.same_line;
          same_line = u.same_line ∙ p.same_line;
          inside = λ h. u.inside (p.inside h);
        }

  -- a line that says nothing
  pub up_to_nothing_at : {at : ℕ} {means : Option A} → means ≡ none → UpTo text at means none at
  up_to_nothing_at {at} e = record { whole = e ∙ sym (cond_none (eqb (line_end text at) at)); same_line = refl; inside = λ h. h }

  module _ {at : ℕ} {said : Option A} where
    pub up_to_as : {means other : Option A} {end : ℕ} → means ≡ other → UpTo text at other said end → UpTo text at means said end
    up_to_as e u = record { whole = e ∙ u.whole; same_line = u.same_line; inside = u.inside }

    -- after a word, what the fields after it say
    pub up_to_word : (w : List ℕ) {means other : Option A} {end : ℕ} → Begun w text at → means ≡ other → UpTo text (at + length w) other said end
        → UpTo text at means said end
    up_to_word w {means} {other} {end} b e u =
        record {
          whole = e ∙ u.whole ∙ ap (λ (n : ℕ). cond (eqb n end) said none) b.same_line;
          same_line = u.same_line ∙ b.same_line;
          inside = λ h. u.inside (omega (arith, b.within));
        }

    -- the line that was read, once its end is known
    module _ {means : Option A} {end : ℕ} (u : UpTo text at means said end) (l : Line) (e : l ≡ line_at text end) where
      pub same_line_end : l ≡ line_at text at
      unfolding line_at
      same_line_end = e ∙ ap (λ (n : ℕ). record { end = n; closed = ltb n (length text) }) u.same_line

      at_end : line_end text at ≡ l.end
      unfolding line_at
      at_end = sym (ap (λ (l : Line). l.end) same_line_end)

      pub read_whole : l.end ≡ end → means ≡ said
      read_whole q = u.whole ∙ rw (eq-eqb (line_end text at) end (at_end ∙ q))

      pub read_part : (l.end ≡ end → ⊥) → means ≡ none
      read_part q = u.whole ∙ rw (ne_eqb (line_end text at) end (λ p. q (sym at_end ∙ p)))
