-- What the answers of the readers mean, in the words of the definitions of a line.
-- Assumes nothing.
use Rattle.std.specs.Prelude.{◌≡◌, refl, Bool, true, cond, ◌&&◌, eqb, leb, length, get_or, take, drop, replicate, Some, None}
use Rattle.std.proofs.Math.Path.{ap, sym}
use Rattle.std.proofs.Common.{◌∙◌, arith, length-append, drop-cons}
use Rattle.std.proofs.Math.Logic.{⊎_elim}
use mathlib.Core.List.{List, [], ◌∷◌, ◌++◌}
use Rattle.std.proofs.Math.Option.{Option, none, some}
use Prim.Native.Nat.{ℕ, zero, suc, ◌+◌, ◌-◌, ◌≤◌, ◌<◌}
use borrow.Author.Tests.{leb-true, leb-false, le-leb, lt-leb}
use Rattle.std.proofs.Math.ListN.{drop_of_length-le}
use Rattle.std.proofs.lemmas.List.{take-append-le}
use Rattle.lists.specs.Pads.{pad}
use Rattle.lists.specs.Tests.{case, le_or}
use Rattle.std.specs.declared.option.Option as rust
use Rattle.text.specs.declared.Numbers.{Numbers}
use Rattle.text.specs.Numbers.{before, leading, numbers_from}
use Rattle.text.specs.Fields.{fields_of, field_of}
use Rattle.text.specs.FieldLaws.{from_first}
use Rattle.text.specs.LineFieldLaws.{no_number}
use Rattle.text.specs.Words.{is_word}
use Rattle.scheduler.specs.Limits.{longest_estimate}
use Rattle.scheduler.specs.declared.Kind.{Kind}
use Rattle.scheduler.specs.declared.Opening.{Opening}
use Rattle.history.specs.Calls.{Command, ask, wait, asked}
use Rattle.desk_lines.specs.DeskLine.{has_form, number_at, with_number}
use Rattle.script_reading.specs.declared.Asked.{Asked}
use Rattle.script_reading.specs.declared.Asked.TheVariants as later

abbrev pub opens : rust.Option Opening → Option Opening
opens (Some o) = some o
opens None = none

abbrev pub asks : Asked → Option Command
asks (later.Call q) = some (ask (asked q))
asks (later.Wait n) = some (wait n)
asks later.Malformed = none

abbrev pub follows : rust.Option Kind → Option Kind
follows (Some k) = some k
follows None = none

-- what the fields of a line say together, once they are counted and each has been read
abbrev pub form_from : ℕ → List ℕ → ℕ → List ℕ → Bool
form_from count first n w = eqb count n && is_word w first

-- a line has a form if its count and its first field do
pub form_said : (s : List ℕ) (n : ℕ) (w : List ℕ) {count : ℕ} {first : List ℕ} {r b : Bool}
    → count ≡ length (fields_of s) → first ≡ field_of s 0 → r ≡ form_from count first n w → r ≡ b → has_form s n w ≡ b
unfolding has_form
form_said s n w p q e h = sym (λ i. form_from (p i) (q i) n w) ∙ sym e ∙ h

-- the numbers in n fields of a line, from the field k on, all of them read
abbrev pub with_numbers : {A : Type 0} → List ℕ → ℕ → ℕ → (List ℕ → Option A) → Option A
with_numbers s k zero f = f []
with_numbers s k (suc n) f = with_number (number_at s k) (λ v. with_numbers s (suc k) n (λ vs. f (v ∷ vs)))

-- the elements i to i + n - 1 of a list
abbrev pub elements : ℕ → ℕ → List ℕ → List ℕ
elements zero i vs = []
elements (suc n) i vs = get_or vs i 0 ∷ elements n (suc i) vs

-- what n numbers say, where as many were read
abbrev pub when_read : {A : Type 0} → ℕ → Numbers → (List ℕ → Option A) → Option A
when_read n r f = cond (leb n r.count) (f (elements n 0 r.values)) none

elements_take : (n i : ℕ) (vs : List ℕ) → i + n ≤ length vs → elements n i vs ≡ take n (drop i vs)
elements_take zero i vs h = refl
elements_take (suc n) i vs h =
    let low : i < length vs = omega arith in
    rw (drop-cons vs i 0 low) (ap (λ (l : List ℕ). get_or vs i 0 ∷ l) (elements_take n (suc i) vs (omega arith)))

read_elements : (n : ℕ) (l : List ℕ) → leb n (length l) ≡ true → elements n 0 (pad 8 0 l) ≡ take n l
unfolding pad
read_elements n l t =
    let low = leb-true n (length l) t in
    let rest = replicate {A = ℕ} (8 - length l) 0 in
    let room : 0 + n ≤ length (l ++ rest) = omega (arith, length-append l rest) in
    elements_take n 0 (l ++ rest) room ∙ take-append-le n l rest low

leb_suc : (a b : ℕ) → leb (suc a) (suc b) ≡ leb a b
leb_suc a b =
    case (leb a b)
    (λ t. rw t (le-leb (suc a) (suc b) (omega (arith, leb-true a b t))))
    (λ t. rw t (lt-leb (suc a) (suc b) (omega (arith, leb-false a b t))))

module _ {A : Type 0} where
  -- a number more, in front of l
  with_next_lem : (p : rust.Option ℕ) (l : List ℕ) (n : ℕ) (f : List ℕ → Option A) (g : (List ℕ → Option A) → Option A)
      → ((f : List ℕ → Option A) → g f ≡ cond (leb n (length l)) (f (take n l)) none)
      → with_number p (λ v. g (λ vs. f (v ∷ vs))) ≡ cond (leb (suc n) (length (before p l))) (f (take (suc n) (before p l))) none
  with_next_lem (Some v) l n f g h = rw (leb_suc n (length l)) (h (λ vs. f (v ∷ vs)))
  with_next_lem None l n f g h = rw (lt-leb (suc n) 0 (omega arith))

  module _ (s : List ℕ) where
    with_leading : (n m k : ℕ) (f : List ℕ → Option A) → n ≤ m
        → with_numbers s k n f ≡ cond (leb n (length (leading m (drop k (fields_of s))))) (f (take n (leading m (drop k (fields_of s))))) none
    unfolding leading
    with_leading zero m k f h = rw (le-leb 0 (length (leading m (drop k (fields_of s)))) (omega arith))
    with_leading (suc n) zero k f h = absurd (omega arith)
    with_leading (suc n) (suc m) k f h =
        ⊎_elim
        (λ past.
        let none_left = drop_of_length-le (fields_of s) past in
        let empty : field_of s k ≡ [] = sym (from_first (fields_of s) k) ∙ rw none_left in
        rw (none_left, empty, no_number, lt-leb (suc n) 0 (omega arith)))
        (λ low.
        rw (drop-cons (fields_of s) k [] low)
        (with_next_lem (number_at s k) (leading m (drop (suc k) (fields_of s))) n f (with_numbers s (suc k) n) (λ f. with_leading n m (suc k) f (omega arith))))
        (le_or (length (fields_of s)) k)

    -- what is read of a line's numbers is what the line says in these fields
    pub with_read : (n k : ℕ) (f : List ℕ → Option A) {r : Numbers} → n ≤ 8 → r ≡ numbers_from s k → when_read n r f ≡ with_numbers s k n f
    unfolding numbers_from
    with_read n k f few e =
        let l = leading 8 (drop k (fields_of s)) in
        ap (λ (r : Numbers). when_read n r f) e
        ∙ case (leb n (length l)) (λ t. rw t (ap f (read_elements n l t))) (λ t. rw t)
        ∙ sym (with_leading n 8 k f few)

-- what the numbers of each line say
abbrev pub opening_of : Kind → List ℕ → Option Opening
opening_of k vs = some (record {
  settings = record {
    kind = k;
    nodes = get_or vs 0 0;
    cleanup = get_or vs 3 0;
    quota_a = get_or vs 4 0;
    quota_b = get_or vs 5 0;
    longest = longest_estimate;
  };
  minute = get_or vs 1 0;
  ticket = get_or vs 2 0;
})
